use Rattle.std.proofs.Common.{◌≡◌, Err, inl}
use Rattle.std.specs.Prelude.{⊤}
use Rattle.std.proofs.lemmas.Option.{MatchOption-at_some}
use Rattle.clr_office_reading.specs.Offices.{office_in}
use Rattle.clr_explanations.specs.Remarks.{IsOfficeRemark}
use Rattle.clr_text_diagnosis.proofs.DraftLemmas.{no_draft}
use Rattle.clr_text_diagnosis.proofs.offices.draft_or_fault.Goals as goal

pub returns-in-Some-clause-told : goal.returns-in-Some-clause-told
returns-in-Some-clause-told c =
    let text = c.args.text.now in
    let found = c.in-Some.found in
    let told = MatchOption-at_some ⊤ (λ f. office_in text ≡ Err f.fault) found c.in-Some.is c.in_ok-found.ensures.told in
    let remark = MatchOption-at_some ⊤ (λ f. IsOfficeRemark text f.fault f.remark) found c.in-Some.is c.in_ok-found.ensures.at in
    (no_draft text found.fault told, inl (told, remark))
