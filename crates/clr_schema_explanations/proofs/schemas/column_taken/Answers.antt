use Rattle.std.proofs.Common.{◌≡◌, ℕ, List, Bor, Some, None, map, subst, take}
use Rattle.serde_json.specs.View.{view}
use Rattle.clr_text_positions.specs.declared.paths.Key.TheVariants as key
use Rattle.clr_schema_explanations.specs.SchemaFaults.{if_taken}
use Rattle.clr_item_explanations.specs.Tellings.{TellsIfAny}
use Rattle.clr_item_explanations.specs.Values.{first_text, items_at}
use Rattle.clr_item_explanations.proofs.ListLemmas.{found_right, found_wrong, names_more}
use Rattle.clr_schema_explanations.proofs.schemas.column_taken.Goals as goal

pub returns-in-Some : goal.returns-in-Some
returns-in-Some c =
    let all = map first_text (items_at key.Columns (view c.args.json.now)) in
    let told = rw c.in-Some.is at c.in_ok-slip.ensures in
    let before : map (λ (name : Bor (List ℕ)). name.now) c.as_slice.result.now ≡ take c.loop-at.at all =
    cc (c.as_slice.ensures.value, c.loop-at.invariant.named) in
    let named = subst (λ names. TellsIfAny (if_taken names c.loop-at.at c.column_name-name.result.now) (Some c.in-Some.slip)) before told in
    found_wrong (λ column. if_taken (take column.0 all) column.0 (first_text column.1)) c.items_at-items.result.now c.loop-at.at _ _ c.in-Some.slip
    c.loop-at-test.true c.index-items-at.is
    (subst (λ name. TellsIfAny (if_taken (take c.loop-at.at all) c.loop-at.at name) (Some c.in-Some.slip)) c.column_name-name.ensures named)
    c.loop-at.invariant.so_far

pub loop-at-preserved : goal.loop-at-preserved
loop-at-preserved c =
    let all = map first_text (items_at key.Columns (view c.args.json.now)) in
    let told = rw c.in_default.is at c.in_ok-slip.ensures in
    let before : map (λ (name : Bor (List ℕ)). name.now) c.as_slice.result.now ≡ take c.loop-at.at all =
    cc (c.as_slice.ensures.value, c.loop-at.invariant.named) in
    let named = subst (λ names. TellsIfAny (if_taken names c.loop-at.at c.column_name-name.result.now) None) before told in
    record {
      named = names_more first_text c.items_at-items.result.now (items_at key.Columns (view c.args.json.now)) _ _ c.column_name-name.result c.loop-at.at _
          c.loop-at-test.true c.index-items-at.is c.items_at-items.ensures c.in_ok-push.ensures.items c.column_name-name.ensures c.loop-at.invariant.named;
      so_far = found_right (λ column. if_taken (take column.0 all) column.0 (first_text column.1)) c.items_at-items.result.now c.loop-at.at _ _
          c.loop-at-test.true c.index-items-at.is
          (subst (λ name. TellsIfAny (if_taken (take c.loop-at.at all) c.loop-at.at name) None) c.column_name-name.ensures named)
          c.loop-at.invariant.so_far;
    }
