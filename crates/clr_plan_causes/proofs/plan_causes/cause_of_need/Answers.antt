use Rattle.std.proofs.Common.{◌≡◌, ◌∙◌, ℕ, List, Some, ap, length, rules, subst}
use Rattle.clr_rows.specs.declared.tables.TableDef.{TableDef}
use Rattle.clr_serving_rows.specs.NeedPlaces.{rule_in}
use Rattle.clr_map_scenes.specs.declared.shown_causes.Cause.{Cause}
use Rattle.clr_map_scenes.specs.declared.shown_causes.CauseRow.{CauseRow}
use Rattle.clr_plan_causes.specs.Badges.{badge_words}
use Rattle.clr_plan_causes.specs.CauseMarks.{IsMark}
use Rattle.clr_plan_causes.proofs.CauseLemmas.{found_under}
use Rattle.clr_plan_causes.proofs.plan_causes.cause_of_need.Goals as goal

pub returns : goal.returns
returns c s are =
    let o = c.args.office.now in
    let need = c.args.need.now in
    let rule = c.in-Some.rule.now in
    let m = c.mark_of-mark.result in
    let found : Cause = record { rows = c.in_ok-rows.rows; goers = c.in_ok-goers.goers; mark = m; says = c.in_ok-says.says } in
    let told : rule_in o need ≡ Some rule = search rules in
    let many : c.len.result ≡ length c.in_ok-goers.goers.items = search rules in
    found_under o s need (rule_in o need) rule found told (record {
      rows = c.in_ok-rows.ensures s are;
      goers = c.in_ok-goers.ensures s are;
      marked = subst (λ (rows : List CauseRow). IsMark o s need rule rows m) c.as_slice.ensures.value
          (c.mark_of-mark.ensures s are (c.as_slice.ensures.value ∙ c.in_ok-rows.ensures s are));
      says = c.in_ok-says.ensures
          ∙ (ap (λ (tables : List TableDef). badge_words tables rule m c.len.result) c.schema.ensures.value
          ∙ ap (λ (n : ℕ). badge_words o.schema rule m n) many);
    })
