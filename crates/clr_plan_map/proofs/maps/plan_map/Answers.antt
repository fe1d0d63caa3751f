use Rattle.std.proofs.Common.{◌∙◌, ◌++◌, ℕ, List, ap, codes, string_bytes}
use Rattle.clr_merge_sets.specs.MemberChanges.{set_of}
use Rattle.clr_plan.specs.PlanLines.{plan_text}
use Rattle.clr_plan_map.proofs.maps.plan_map.Goals as goal

pub returns : goal.returns
returns c =
    let o = c.args.office.now in
    let s = set_of c.args.members.now in
    let p = c.args.plan.now in
    let drawn = c.in_ok-drawn.ensures in
    let page = c.in_ok-page.ensures in
    record {
      map = (
        c.in_ok-page.page,
        record {
          names = string_bytes c.in_ok-drawn.drawn.words.names;
          named = drawn.names;
          title = page.title;
          description = page.description
              ∙ ap (λ (text : List ℕ). text ++ codes "\n" ++ plan_text o.schema s.members s.root p) drawn.sentence;
          before = c.in_ok-drawn.drawn.before;
          ordered = drawn.ordered;
          shown = (c.in_ok-drawn.drawn.layers.items, drawn.shown, page.shown);
        },
        c.in_ok-text.ensures.written,
      );
    }
