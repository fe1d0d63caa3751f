use Rattle.std.proofs.Common.{◌≡◌, ◌∙◌, List, Option, Some, ap, rules, subst, sym}
use Rattle.clr_rows.specs.declared.rows.Row.{Row}
use Rattle.clr_rules.specs.declared.rules.Rule.{Rule}
use Rattle.std.specs.Option.{option_and_then, option_copied}
use Rattle.clr_serving_rows.specs.declared.servers.ServerChange.{ServerChange}
use Rattle.clr_plan_sentences.specs.NeedCauses.{IsNeedCause, told_cause}
use Rattle.clr_serving_rows.specs.NeedPlaces.{rule_in}
use Rattle.clr_merge_sets.specs.MemberChanges.{row_in, set_of}
use Rattle.clr_plan_sentences.proofs.settings.Setting.need_cause.Goals as goal

pub returns : goal.returns
returns c = λ are.
    let o = c.args.self.now.office.now in
    let s = set_of c.args.self.now.members.now in
    let sets = c.args.self.now.members.now.changes.items in
    let need = c.args.need.now in
    let rule = c.in-Some.rule.now in
    let places = c.need_whereabouts-places.result in
    let first = row_in o s need.first in
    let second = option_and_then (row_in o s) need.second in
    let told : rule_in o need ≡ Some rule = search rules in
    subst (λ (r : Option Rule). IsNeedCause o s sets need r c.in_ok-cause.cause) (sym told) (
      places,
      c.need_whereabouts-places.ensures s are,
      c.in_ok-cause.ensures
          ∙ ap (λ (row : Option Row). told_cause o s sets need rule places row (option_copied c.second_row-second.result) c.as_slice.result.now)
          (c.row_of_version-first.ensures s are)
          ∙ ap (λ (row : Option Row). told_cause o s sets need rule places first row c.as_slice.result.now) (c.second_row-second.ensures s are)
          ∙ ap (λ (changes : List ServerChange). told_cause o s sets need rule places first second changes)
          (c.as_slice.ensures.value ∙ c.in_ok-changes.ensures s are),
    )
