use Rattle.std.proofs.Common.{◌≡◌, Option, subst, subst₂, sym}
use Rattle.std.specs.Option.{option_and_then, option_copied}
use Rattle.clr_rows.specs.declared.rows.Row.{Row}
use Rattle.clr_rules.specs.declared.rules.Rule.{Rule}
use Rattle.clr_merge_sets.specs.MemberChanges.{row_in}
use Rattle.clr_serving_rows.specs.NeedPlaces.{IsServingPlace, rule_in}
use Rattle.clr_whereabouts.specs.Whereabouts.{IsGapOfRows, IsNearPlace}
use Rattle.clr_whereabouts.proofs.needs.need_whereabouts.Goals as goal

pub returns : goal.returns
returns c s are =
    let o = c.args.office.now in
    let need = c.args.need.now in
    let place = c.need_place-meeting.result in
    let placed = c.need_place-meeting.ensures s are in
    let first = option_copied c.row_of_version-first.result in
    let second = option_copied c.second_row-second.result in
    let first_is : first ≡ row_in o s need.first = c.row_of_version-first.ensures s are in
    let second_is : second ≡ option_and_then (row_in o s) need.second = c.second_row-second.ensures s are in
    record {
      meeting = placed;
      near = subst₂ (λ (f g : Option Row). IsNearPlace need f g place c.near_place.result) first_is second_is
          (c.near_place.ensures (rule_in o need)
          (subst₂ (λ (f g : Option Row). IsServingPlace (rule_in o need) need f g place) (sym first_is) (sym second_is) placed));
      gap = subst₂ (λ (f g : Option Row). IsGapOfRows (rule_in o need) f g c.gap_of_rows.result) first_is second_is
          (subst (λ (r : Option Rule). IsGapOfRows r first second c.gap_of_rows.result) c.rule_of.ensures c.gap_of_rows.ensures);
    }
