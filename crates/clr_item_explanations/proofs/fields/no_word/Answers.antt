use Rattle.std.proofs.Common.{[], ◌∙◌, ap, map, string_bytes, subst, sym}
use Rattle.std.specs.Prelude.{option_map}
use Rattle.serde_json.specs.View.{view}
use Rattle.clr_hints.specs.Names.{IsHintAtName}
use Rattle.clr_item_explanations.proofs.TellingLemmas.{word_told}
use Rattle.clr_item_explanations.proofs.fields.no_word.Goals as goal

pub returns : goal.returns
returns c =
    word_told [] _ c.args.word.now _ (view c.args.json.now) c.with_hint.result c.requires c.in_ok-text.ensures
    (ap (λ v. v.items) c.with_hint.ensures.steps ∙ c.in_ok-new.ensures.steps)
    (ap string_bytes (c.with_hint.ensures.sentence ∙ c.in_ok-new.ensures.sentence) ∙ c.in_ok-sentence.ensures.ok)
    (subst (λ h. IsHintAtName c.args.word.now (map (λ one. one.now) c.args.words.now) (option_map string_bytes h))
    (sym c.with_hint.ensures.hint) c.in_ok-hint.ensures)
