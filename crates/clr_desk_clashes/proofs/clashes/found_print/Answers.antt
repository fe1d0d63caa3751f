use Rattle.std.proofs.Common.{◌≡◌, ◌∙◌, false, ap, ap₂, length, map, nat_lt, refl, subst, sym}
use Rattle.clr_merge_sets.specs.MemberChanges.{set_of}
use Rattle.clr_merge_sets.specs.MergeSetNames.{merge_set}
use Rattle.clr_steps.specs.Readings.{changes_in}
use Rattle.clr_clash_helpers.specs.Helpers.{AreHelped}
use Rattle.clr_desk_prints.specs.Printing.{printout_of}
use Rattle.clr_desk_clashes.specs.Clashes.{clashes_text}
use Rattle.clr_desk_clashes.proofs.clashes.found_print.Goals as goal

pub helped_clashes-requires : goal.helped_clashes-requires
helped_clashes-requires c =
    record {
      root = refl;
      changes = c.in_ok-changes.ensures.members.changes ∙ ap (map (changes_in c.args.office.now)) (sym c.in_ok-changes.ensures.names);
    }

pub returns : goal.returns
returns c =
    let o = c.args.office.now in
    let found = c.args.found.now in
    let helped = c.in_ok-helped.helped.items in
    let s = merge_set c.args.root.now (map (λ name. name.now) c.args.members.now) in
    let same : set_of c.in_ok-changes.changes ≡ s =
    ap₂ merge_set c.in_ok-changes.ensures.members.root c.in_ok-changes.ensures.names in
    let are : AreHelped o (set_of c.in_ok-changes.changes) found.clashes.items helped =
    subst (λ clashes. AreHelped o (set_of c.in_ok-changes.changes) clashes helped) c.as_slice.ensures.value c.in_ok-helped.ensures in
    let text : c.in_ok-text.text.items ≡ clashes_text o.schema s found helped =
    c.in_ok-text.ensures ∙ (λ i. clashes_text (c.schema.ensures.value i) s found (c.as_slice-helped.ensures.value i)) in
    let clashes : c.as_slice-2.result.now ≡ found.clashes.items = c.as_slice-2.ensures.value in (
      helped,
      subst (λ members. AreHelped o members found.clashes.items helped) same are,
      c.new-2.ensures ∙ (λ i. printout_of (text i) (c.new.ensures.items i) (nat_lt 0 (length (clashes i))) false),
    )
