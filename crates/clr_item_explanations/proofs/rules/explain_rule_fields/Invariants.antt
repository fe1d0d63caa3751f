use Rattle.std.proofs.Common.{◌≡◌, drop, length}
use Rattle.serde_json.specs.View.{view}
use Rattle.clr_text_positions.specs.declared.paths.Key.TheVariants as key
use Rattle.clr_item_explanations.specs.Rules.{rule_fields, wrong_rule_field}
use Rattle.clr_item_explanations.specs.Tellings.{first_wrong}
use Rattle.clr_item_explanations.specs.Values.{text_at}
use Rattle.clr_item_explanations.proofs.rules.explain_rule_fields.Given as goal

-- the first that is wrong of the other fields is that of all
abbrev pub invariant-loop-field : goal.invariant-loop-field
invariant-loop-field l = record {
  whole : l.field-index-end ≡ length l.fields;
  so_far : first_wrong (λ one. wrong_rule_field one (view l.json)) (drop l.field-index l.fields)
      ≡ first_wrong (λ one. wrong_rule_field one (view l.json)) (rule_fields (text_at key.Kind (view l.json)));
}
