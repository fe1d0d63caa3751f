use Rattle.std.proofs.Common.{◌≡◌, drop, length}
use Rattle.serde_json.specs.View.{view}
use Rattle.clr_item_explanations.specs.Fields.{wrong_field, wrong_fields}
use Rattle.clr_item_explanations.specs.Tellings.{first_wrong}
use Rattle.clr_item_explanations.proofs.fields.explain_fields.Given as goal

-- the first that is wrong of the other fields is that of all
abbrev pub invariant-loop-key : goal.invariant-loop-key
invariant-loop-key l = record {
  whole : l.key-index-end ≡ length l.fields;
  so_far : first_wrong (λ field. wrong_field field.0 field.1 (view l.json)) (drop l.key-index l.fields) ≡ wrong_fields l.fields (view l.json);
}
