use Rattle.std.proofs.Common.{◌≡◌, List, ◌∷◌, None, ap, subst, sym, ◌∙◌}
use Rattle.json.specs.Print.{print}
use Rattle.serde_json.specs.Written.{compact_text}
use Rattle.serde_json.proofs.Texts.{print-outline}
use Rattle.clr_rows.specs.Schemas.{schema_fault}
use Rattle.clr_rules.specs.declared.needs.Broken.{Broken}
use Rattle.clr_office_writing.specs.OfficeData.{office_data}
use Rattle.clr_office_writing.specs.Tokens.{tokens_of}
use Rattle.clr_office_texts.specs.Writing.{text_naming, text_of}
use Rattle.clr_office_texts.proofs.BrokenNowLemmas.{broken_now_is}
use Rattle.clr_office_texts.proofs.Texts.{admitted_again, drafted_again, known_again}
use Rattle.clr_office_texts.proofs.writing.write_office.Goals as goal

pub returns-clause-text : goal.returns-clause-text
returns-clause-text c =
    let o = c.args.office.now in
    let known = c.as_slice.ensures.value ∙ broken_now_is o c.len-standing.ensures.sound _ c.in_ok-known.ensures in
    c.into_bytes.ensures.bytes ∙ ap print c.in_ok-text.ensures ∙ print-outline (office_data (text_naming c.as_slice.result.now o))
    ∙ ap (λ (bs : List Broken). compact_text (office_data (text_naming bs o))) known

pub returns-clause-again : goal.returns-clause-again
returns-clause-again c =
    let o = c.args.office.now in
    let schema : schema_fault o.schema ≡ None = subst (λ tables. schema_fault tables ≡ None) c.schema.ensures.value c.tables-sound.ensures.sound in
    let known = c.as_slice.ensures.value ∙ broken_now_is o c.len-standing.ensures.sound _ c.in_ok-known.ensures in
    let written = c.into_bytes.ensures.again ∙ c.in_ok-text.ensures ∙ ap (λ (bs : List Broken). tokens_of (office_data (text_naming bs o))) known in
    drafted_again o _ c.into_bytes.ensures.utf8 written schema c.schema.ensures.admitted.fit c.len-standing.ensures.sound

pub returns-clause-known : goal.returns-clause-known
returns-clause-known c =
    let o = c.args.office.now in
    let schema : schema_fault o.schema ≡ None = subst (λ tables. schema_fault tables ≡ None) c.schema.ensures.value c.tables-sound.ensures.sound in
    let known = c.as_slice.ensures.value ∙ broken_now_is o c.len-standing.ensures.sound _ c.in_ok-known.ensures in
    let written = c.into_bytes.ensures.again ∙ c.in_ok-text.ensures ∙ ap (λ (bs : List Broken). tokens_of (office_data (text_naming bs o))) known in
    known_again o _ c.into_bytes.ensures.utf8 written schema c.schema.ensures.admitted.fit c.len-standing.ensures.sound

pub returns-clause-admitted : goal.returns-clause-admitted
returns-clause-admitted c =
    let o = c.args.office.now in
    let schema : schema_fault o.schema ≡ None = subst (λ tables. schema_fault tables ≡ None) c.schema.ensures.value c.tables-sound.ensures.sound in
    let known = c.as_slice.ensures.value ∙ broken_now_is o c.len-standing.ensures.sound _ c.in_ok-known.ensures in
    let written = c.into_bytes.ensures.again ∙ c.in_ok-text.ensures ∙ ap (λ (bs : List Broken). tokens_of (office_data (text_naming bs o))) known in
    let fit = c.schema.ensures.admitted.fit in
    let sound = c.len-standing.ensures.sound in
    admitted_again o _ (drafted_again o _ c.into_bytes.ensures.utf8 written schema fit sound) (known_again o _ c.into_bytes.ensures.utf8 written schema fit sound)
