use Rattle.std.proofs.Common.{refl, subst}
use Rattle.std.specs.Prelude.{IsOk, ⊤}
use Rattle.std.proofs.lemmas.Option.{MatchOption-at_none, MatchOption-at_some}
use Rattle.std.proofs.lemmas.Result.{IfOk-weaker}
use Rattle.clr_workspaces.specs.Marks.{Name}
use Rattle.clr_office_texts.specs.Drafts.{draft_in}
use Rattle.clr_text_diagnosis.specs.Shorts.{IsShortOfficeFault}
use Rattle.clr_desk_faults.specs.FaultPlaces.{IsOfficePlace, IsPlaceInOffices}
use Rattle.clr_desk_faults.proofs.PlaceLemmas.{first_told, second_told}
use Rattle.clr_desk_faults.proofs.fault_places.place_in_offices.Goals as goal

pub returns-in-Some : goal.returns-in-Some
returns-in-Some c =
    let office = c.args.office.now in
    let line = c.in-Some.line in
    let told = MatchOption-at_some ⊤ (λ l. IsShortOfficeFault office c.file_name.result.now l.items) line c.in-Some.is c.in_ok-line.ensures.line in
    first_told c.args.files.now office c.args.second.now line.items (draft_in office) refl
    (subst (λ (file : Name). IsShortOfficeFault office file line.items) c.file_name.ensures told)

pub returns-in-None : goal.returns-in-None
returns-in-None c =
    let files = c.args.files.now in
    let office = c.args.office.now in
    let second = c.args.second.now in
    let sound = MatchOption-at_none (IsOk (draft_in office)) (λ l. ⊤) c.in-None.is c.in_ok-line.ensures.none in
    IfOk-weaker c.office_place.result _ (λ line. IsPlaceInOffices files office second line.items (draft_in office))
    (λ line is. second_told files office second line.items (draft_in office) sound
    (subst (λ (file : Name). IsOfficePlace second file line.items (draft_in second)) c.file_name-in-None.ensures is)) c.office_place.ensures
