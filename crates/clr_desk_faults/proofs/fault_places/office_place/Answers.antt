use Rattle.std.proofs.Common.{refl}
use Rattle.std.specs.Prelude.{⊤}
use Rattle.std.proofs.lemmas.Option.{MatchOption-at_some}
use Rattle.clr_office_texts.specs.Drafts.{draft_in}
use Rattle.clr_text_diagnosis.specs.Shorts.{IsShortOfficeFault}
use Rattle.clr_desk_faults.proofs.PlaceLemmas.{office_told}
use Rattle.clr_desk_faults.proofs.fault_places.office_place.Goals as goal

pub returns-in-Some : goal.returns-in-Some
returns-in-Some c =
    let office = c.args.office.now in
    let file = c.args.file.now in
    let line = c.in-Some.line in
    let told = MatchOption-at_some ⊤ (λ l. IsShortOfficeFault office file l.items) line c.in-Some.is c.in_ok-line.ensures.line in
    office_told office file line.items (draft_in office) refl told
