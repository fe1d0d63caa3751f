use Rattle.std.proofs.Common.{◌∙◌, ℕ, List, ap, length, map, sym}
use Rattle.std.proofs.lemmas.List.{length-map}
use Rattle.clr_member_changes.specs.declared.member_changes.MemberChanges.{MemberChanges}
use Rattle.clr_map_scenes.specs.Designs.{order_of}
use Rattle.clr_plan_causes.specs.PlanCauses.{leaders_of}
use Rattle.clr_plan_map.proofs.maps.drawn_plan.Goals as goal

pub returns-clause-names : goal.returns-clause-names
returns-clause-names c =
    let m = c.args.setting.members.now in
    let p = c.args.plan.now in
    let made = c.in_ok-designs.ensures in (
      c.in_ok-designs.designs,
      record {
        names = ap (λ (ms : MemberChanges). map (λ name. name.now) ms.names.now) made.members;
        order = made.order ∙ ap (λ (leaders : List ℕ). order_of (length m.names.now) leaders) c.leaders_of.ensures
            ∙ ap (λ (count : ℕ). order_of count (leaders_of p)) (sym (length-map m.names.now (λ name. name.now)));
        leaders = made.leaders ∙ c.leaders_of.ensures;
      },
      c.in_ok-words.ensures.names,
    )
