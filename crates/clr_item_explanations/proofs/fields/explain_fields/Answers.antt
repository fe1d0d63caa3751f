use Rattle.std.proofs.Common.{refl}
use Rattle.serde_json.specs.View.{view}
use Rattle.clr_item_explanations.specs.Fields.{wrong_field}
use Rattle.clr_item_explanations.proofs.ListLemmas.{here, none_left, not_here}
use Rattle.clr_item_explanations.proofs.fields.explain_fields.Goals as goal

pub returns-in-Some : goal.returns-in-Some
returns-in-Some c =
    let told = rw c.in-Some.is at c.in_ok-slip.ensures in
    here (λ field. wrong_field field.0 field.1 (view c.args.json.now)) c.args.fields.now c.loop-key.key-index _ _ c.in-Some.slip c.loop-key-test.true
    told c.loop-key.invariant.so_far

pub loop-key-preserved : goal.loop-key-preserved
loop-key-preserved c =
    let told = rw c.in_default.is at c.in_ok-slip.ensures in
    record {
      whole = refl;
      so_far = not_here (λ field. wrong_field field.0 field.1 (view c.args.json.now)) c.args.fields.now c.loop-key.key-index _ _ c.loop-key-test.true
          told c.loop-key.invariant.so_far;
    }

pub returns : goal.returns
returns c =
    none_left (λ field. wrong_field field.0 field.1 (view c.args.json.now)) c.args.fields.now c.loop-key.key-index _ c.loop-key-test.false
    c.loop-key.invariant.so_far
