-- What is said of an office text whose workspaces can't stand as a whole.
use Rattle.std.specs.Prelude.{◌≡◌, ◌≤◌, ℕ, List, length, slice_get, string_bytes, unwrap_or, Option, Some, None, Ok}
use Rattle.serde_json.specs.Data.{Data}
use Rattle.clr_deltas.specs.Deltas.{workspaces_over}
use Rattle.clr_workspace_parts.specs.Parts.{workspaces_fault}
use Rattle.clr_workspace_parts.specs.declared.parts.PartFault.{PartFault}
use Rattle.clr_office_reading.specs.Offices.{OfficeText, office_in}
use Rattle.clr_item_explanations.specs.Tellings.{TellsNamed}
use Rattle.clr_item_explanations.specs.Values.{items_at}
use Rattle.clr_item_explanations.specs.Workspaces.{part_fault_name, wrong_part}
use Rattle.clr_faults.specs.Spots.{value_in}
use Rattle.clr_faults.specs.declared.spots.FaultyItem.TheVariants as spot
use Rattle.clr_text_positions.specs.declared.paths.Key.TheVariants as key
use Rattle.clr_text_positions.specs.declared.remarks.Remark.{Remark}
use Rattle.clr_text_positions.specs.declared.paths.PathStep.{PathStep}
use Rattle.clr_explanations.specs.Places.{place_text}
use Rattle.clr_explanations.specs.Remarks.{said_at}

-- the first workspace of an office that can't stand among all of them, and why
abbrev pub standing_fault : OfficeText → Option (ℕ × PartFault)
standing_fault o = workspaces_fault o.live (workspaces_over o.live o.deltas)

-- a text can be read, and this is the first workspace of its office that can't stand, and why
abbrev pub IsStandingFault : List ℕ → ℕ × PartFault → Type 0
IsStandingFault text first = (o : OfficeText) × (office_in text ≡ Ok o) × (standing_fault o ≡ Some first)

-- a text can't be read, or all workspaces of its office stand
abbrev pub StandsIfRead : List ℕ → Type 0
StandsIfRead text = (o : OfficeText) → office_in text ≡ Ok o → standing_fault o ≡ None

-- the workspace at a place of a value, or the value itself where it has none there
abbrev pub workspace_at : ℕ → Data → Data
workspace_at at d = unwrap_or (slice_get (items_at key.Workspaces d) at) d

-- what is said of a workspace of a value: the path to it and on to a value in it, the name of its fault, and what that means
pub record IsPartRemark (d : Data) (at : ℕ) (fault : PartFault) (remark : Remark) : Type 0 where
  pub steps : List PathStep
  pub place : string_bytes remark.place ≡ place_text d (spot.Workspace at) steps
  pub told : TellsNamed (part_fault_name fault) (wrong_part fault (workspace_at at d)) (said_at steps remark)

-- what is said of a text that can be read: the path of the first workspace that can't stand, and why
pub record IsStandingRemark (text : List ℕ) (remark : Remark) : Type 0 where
  pub within : remark.offset ≤ length text
  pub at : ℕ
  pub fault : PartFault
  pub found : IsStandingFault text (at, fault)
  pub value : Data
  pub read : value_in text ≡ Some value
  pub said : IsPartRemark value at fault remark
