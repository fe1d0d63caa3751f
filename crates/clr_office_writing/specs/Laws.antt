-- What is written of an office text is read as the same.
use Rattle.std.specs.Prelude.{◌≡◌, ◌≤◌, true, false, List, [], ◌∷◌, ◌++◌, Ok}
use Rattle.serde_json.specs.Data.{depth}
use Rattle.serde_json.specs.Written.{has_float}
use Rattle.clr_deltas.specs.Deltas.{Delta}
use Rattle.clr_office_reading.specs.Fits.{FitsOffice}
use Rattle.clr_office_reading.specs.Offices.{OfficeText, office_of}
use Rattle.clr_office_reading.specs.Workspaces.{stands_in}
use Rattle.clr_office_writing.specs.KnownFits.{FitsKnown}
use Rattle.clr_office_writing.specs.OfficeData.{office_data}

-- each workspace has its parent among those before it
abbrev pub HaveParents : List Delta → List Delta → Type 0
HaveParents earlier [] = Unit {0}
HaveParents earlier (l ∷ ls) = (stands_in earlier l.parent ≡ true) × HaveParents (earlier ++ l ∷ []) ls

-- a text whose rows and rules fit its schema, whose known needs are some that its rules can have, and whose workspaces stand after their parents
abbrev pub ReadsBack : Type 0
ReadsBack = (o : OfficeText) → FitsOffice o → FitsKnown o.schema o.book o.known → HaveParents [] o.deltas → office_of (office_data o) ≡ Ok o

-- what is written nests little and has no floats, so that its bytes are compact and are read as the same value
abbrev pub IsPlain : Type 0
IsPlain = (o : OfficeText) → (depth (office_data o) ≤ 127) × (has_float (office_data o) ≡ false)
