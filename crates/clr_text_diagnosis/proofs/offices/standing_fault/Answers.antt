use Rattle.std.proofs.Common.{inr}
use Rattle.std.specs.Prelude.{⊤}
use Rattle.std.proofs.lemmas.Option.{MatchOption-at_some}
use Rattle.clr_explanations.specs.Standing.{IsStandingRemark, StandsIfRead}
use Rattle.clr_text_diagnosis.proofs.DraftLemmas.{is_draft, no_tree}
use Rattle.clr_text_diagnosis.proofs.FoundLemmas.{of_none}
use Rattle.clr_text_diagnosis.proofs.offices.standing_fault.Goals as goal

pub returns-in-Some-clause-told : goal.returns-in-Some-clause-told
returns-in-Some-clause-told c =
    let text = c.args.text.now in
    let told = MatchOption-at_some ⊤ (IsStandingRemark text) c.in-Some.remark c.in-Some.is c.in_ok-remark.ensures.told in
    (no_tree text (told.at, told.fault) told.found, inr told)

pub returns-in-None-clause-none : goal.returns-in-None-clause-none
returns-in-None-clause-none c =
    is_draft c.args.text.now c.requires (of_none c.in_ok-remark.field-0 (StandsIfRead c.args.text.now) c.in-None.is c.in_ok-remark.ensures.none)
