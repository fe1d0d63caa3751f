-- What is written of a cut is read as the same office text, and is marked; what is written of an office isn't.
use Rattle.std.specs.Prelude.{◌≡◌, ◌≤◌, true, false, [], Ok}
use Rattle.serde_json.specs.Data.{depth}
use Rattle.serde_json.specs.Written.{has_float}
use Rattle.clr_office_reading.specs.Fits.{FitsOffice}
use Rattle.clr_office_reading.specs.Offices.{OfficeText, office_of}
use Rattle.clr_office_writing.specs.KnownFits.{FitsKnown}
use Rattle.clr_office_writing.specs.Laws.{HaveParents}
use Rattle.clr_office_writing.specs.OfficeData.{office_data}
use Rattle.clr_cut_texts.specs.CutTexts.{cut_data}
use Rattle.clr_cut_texts.specs.Marks.{is_marked}

-- whatever the cells of its workspaces are over LIVE, the text of a cut is read as what it was written of
abbrev pub ReadsBack : Type 0
ReadsBack = (o : OfficeText) → FitsOffice o → FitsKnown o.schema o.book o.known → HaveParents [] o.deltas → office_of (cut_data o) ≡ Ok o

abbrev pub IsPlain : Type 0
IsPlain = (o : OfficeText) → (depth (cut_data o) ≤ 127) × (has_float (cut_data o) ≡ false)

abbrev pub MarkLaw : Type 0
MarkLaw = (o : OfficeText) → (is_marked (cut_data o) ≡ true) × (is_marked (office_data o) ≡ false)
