use Rattle.std.proofs.Common.{◌≡◌, ℕ, List, Bor, Some, None, ap, map, subst, take}
use Rattle.serde_json.specs.View.{view}
use Rattle.clr_text_positions.specs.declared.paths.Key.TheVariants as key
use Rattle.clr_schema_explanations.specs.SchemaFaults.{table_names, taken_name_in}
use Rattle.clr_item_explanations.specs.Tellings.{TellsIfAny}
use Rattle.clr_item_explanations.specs.Values.{items_at, text_at}
use Rattle.clr_item_explanations.proofs.ListLemmas.{all_right, from_first, item_right, item_wrong, names_more}
use Rattle.clr_schema_explanations.proofs.schemas.first_taken_name.Goals as goal

pub loop-at-init : goal.loop-at-init
loop-at-init c = record {
  named = ap (map (λ (name : Bor (List ℕ)). name.now)) c.new-names.ensures.items;
  so_far =
      from_first key.Tables (λ at table. taken_name_in (take at (table_names (view c.args.json.now))) table) c.items_at-items.result.now (view c.args.json.now)
      c.items_at-items.ensures;
}

pub returns-in-Some : goal.returns-in-Some
returns-in-Some c =
    let all = table_names (view c.args.json.now) in
    let told = rw c.in-Some.is at c.in_ok-slip.ensures in
    let before : map (λ (name : Bor (List ℕ)). name.now) c.as_slice.result.now ≡ take c.loop-at.at all =
    cc (c.as_slice.ensures.value, c.loop-at.invariant.named) in
    item_wrong key.Tables (λ at table. taken_name_in (take at all) table) c.items_at-items.result.now c.loop-at.at _ _ c.in-Some.slip c.in_ok-below.field-0
    c.loop-at-test.true c.index-items-at.is
    (subst (λ names. TellsIfAny (taken_name_in names (view c.index-items-at.result)) (Some c.in-Some.slip)) before told)
    c.in_ok-below.ensures.steps c.in_ok-below.ensures.sentence c.in_ok-below.ensures.hint c.loop-at.invariant.so_far

pub loop-at-preserved : goal.loop-at-preserved
loop-at-preserved c =
    let all = table_names (view c.args.json.now) in
    let told = rw c.in_default.is at c.in_ok-slip.ensures in
    let before : map (λ (name : Bor (List ℕ)). name.now) c.as_slice.result.now ≡ take c.loop-at.at all =
    cc (c.as_slice.ensures.value, c.loop-at.invariant.named) in
    record {
      named = names_more (text_at key.Name) c.items_at-items.result.now (items_at key.Tables (view c.args.json.now)) _ _ c.text_at.result c.loop-at.at _
          c.loop-at-test.true c.index-items-at.is c.items_at-items.ensures c.in_ok-push.ensures.items c.text_at.ensures c.loop-at.invariant.named;
      so_far = item_right key.Tables (λ at table. taken_name_in (take at all) table) c.items_at-items.result.now c.loop-at.at _ _
          c.loop-at-test.true c.index-items-at.is
          (subst (λ names. TellsIfAny (taken_name_in names (view c.index-items-at.result)) None) before told)
          c.loop-at.invariant.so_far;
    }

pub returns : goal.returns
returns c =
    all_right key.Tables (λ at table. taken_name_in (take at (table_names (view c.args.json.now))) table) c.items_at-items.result.now c.loop-at.at _
    c.loop-at-test.false c.loop-at.invariant.so_far
