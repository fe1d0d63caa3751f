use Rattle.std.proofs.Common.{refl}
use Rattle.serde_json.specs.View.{view}
use Rattle.clr_item_explanations.specs.Rules.{wrong_rule_field}
use Rattle.clr_item_explanations.proofs.ListLemmas.{here, none_left, not_here}
use Rattle.clr_item_explanations.proofs.rules.explain_rule_fields.Goals as goal

pub returns-in-Some : goal.returns-in-Some
returns-in-Some c =
    let told = rw c.in-Some.is at c.in_ok-slip.ensures in
    here (λ one. wrong_rule_field one (view c.args.json.now)) c.rule_fields-fields.result.now c.loop-field.field-index _ _ c.in-Some.slip
    c.loop-field-test.true told c.loop-field.invariant.so_far

pub loop-field-preserved : goal.loop-field-preserved
loop-field-preserved c =
    let told = rw c.in_default.is at c.in_ok-slip.ensures in
    record {
      whole = refl;
      so_far = not_here (λ one. wrong_rule_field one (view c.args.json.now)) c.rule_fields-fields.result.now c.loop-field.field-index _ _
          c.loop-field-test.true told c.loop-field.invariant.so_far;
    }

pub returns : goal.returns
returns c =
    none_left (λ one. wrong_rule_field one (view c.args.json.now)) c.rule_fields-fields.result.now c.loop-field.field-index _ c.loop-field-test.false
    c.loop-field.invariant.so_far
