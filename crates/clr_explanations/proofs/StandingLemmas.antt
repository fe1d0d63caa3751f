-- What is found of the workspaces of a text as a whole.
use Rattle.std.proofs.Common.{◌≡◌, ◌≢◌, ◌<◌, ◌≤◌, ℕ, List, ap, get_or, length, map, string_bytes, Option, Some, None, Ok, Err, refl, subst, sym}
use Rattle.std.specs.Str.{IsUtf8}
use Rattle.serde_json.specs.Read.{read}
use Rattle.serde_json.specs.Data.{Data}
use Rattle.serde_json.specs.View.{view}
use Rattle.serde_json.specs.declared.value.Value.{Value as Json}
use Rattle.std.specs.Prelude.{unwrap_or}
use Rattle.clr_workspace_parts.specs.Parts.{IsFirstPartFault}
use Rattle.clr_workspace_parts.specs.declared.parts.PartFault.{PartFault}
use Rattle.clr_workspace_parts.specs.declared.parts.PartFault.TheVariants as part
use Rattle.clr_readings.specs.Readings.{Fails}
use Rattle.clr_rule_text.specs.Fields.{text_lacks_memory}
use Rattle.clr_office_reading.specs.Offices.{OfficeText, office_in}
use Rattle.clr_rule_text.specs.declared.faults.TextFault.{TextFault}
use Rattle.clr_rule_text.specs.declared.faults.TextFault.TheVariants as fault
use Rattle.clr_faults.proofs.Lost.{fails_exactly}
use Rattle.clr_faults.specs.Spots.{value_in}
use Rattle.clr_faults.specs.declared.spots.FaultyItem.TheVariants as spot
use Rattle.clr_text_positions.specs.declared.remarks.Remark.{Remark}
use Rattle.clr_text_positions.specs.declared.paths.Key.TheVariants as key
use Rattle.clr_item_explanations.specs.Slips.{said}
use Rattle.clr_item_explanations.specs.Tellings.{TellsNamed}
use Rattle.clr_item_explanations.specs.Values.{items_at}
use Rattle.clr_item_explanations.specs.Workspaces.{part_fault_name, wrong_part}
use Rattle.clr_item_explanations.proofs.ItemLemmas.{item_there, no_item_there}
use Rattle.clr_item_explanations.specs.declared.slips.Slip.{Slip}
use Rattle.clr_explanations.specs.Places.{place_text}
use Rattle.clr_explanations.specs.Standing.{IsPartRemark, IsStandingFault, IsStandingRemark, StandsIfRead, standing_fault, workspace_at}
use Rattle.clr_explanations.proofs.NamedFaults.{of_ok, said_by}
use Rattle.clr_explanations.proofs.Values.{value_is}

refused_exactly : (first : Option (ℕ × PartFault)) (n : ℕ) (f : PartFault) → f ≢ part.OutOfMemory → IsFirstPartFault first (n, f) → first ≡ Some (n, f)
refused_exactly first n part.OutOfMemory kept refused = absurd (kept refl)
refused_exactly first n part.BadName kept refused = refused
refused_exactly first n part.NameTaken kept refused = refused
refused_exactly first n part.NoParent kept refused = refused
refused_exactly first n part.TooMany kept refused = refused
refused_exactly first n part.BadMarks kept refused = refused

-- all workspaces of the one office of a text stand
pub all_stand : (text : List ℕ) (read : OfficeText) → office_in text ≡ Ok read → standing_fault read ≡ None → StandsIfRead text
all_stand text read is none = λ o again. of_ok (λ x. standing_fault x ≡ None) (office_in text) read o is none again

pub refused_stands : (text : List ℕ) (read : OfficeText) (refused : ℕ × PartFault) → office_in text ≡ Ok read → IsFirstPartFault (standing_fault read) refused
    → refused.1 ≢ part.OutOfMemory → IsStandingFault text refused
refused_stands text read refused is found kept = (read, is, refused_exactly (standing_fault read) refused.0 refused.1 kept found)

-- a text that can't be read has no office
pub unread_stands : (text : List ℕ) (e : TextFault) → e ≢ fault.OutOfMemory → Fails text_lacks_memory e (office_in text) → StandsIfRead text
unread_stands text e kept fails = λ o again. let is : office_in text ≡ Err e = fails_exactly e (office_in text) kept fails in absurd cc

-- the workspace at a place is the one that is found there
pub workspace_there : (d : Data) (at : ℕ) (items : List Json) (one : Json) → map view items ≡ items_at key.Workspaces d → at < length items
    → one ≡ get_or items at one → workspace_at at d ≡ view one
workspace_there d at items one are within is = ap (λ found. unwrap_or found d) (item_there at key.Workspaces d items one are within is)

pub no_workspace_there : (d : Data) (at : ℕ) (items : List Json) → map view items ≡ items_at key.Workspaces d → length items ≤ at → workspace_at at d ≡ d
no_workspace_there d at items are past = ap (λ found. unwrap_or found d) (no_item_there at key.Workspaces d items are past)

-- a remark says what the slip says that it is made of
pub part_told : (d : Data) (at : ℕ) (f : PartFault) (slip : Slip) (remark : Remark)
    → string_bytes remark.place ≡ place_text d (spot.Workspace at) slip.steps.items → remark.sentence ≡ slip.sentence → remark.hint ≡ slip.hint
    → TellsNamed (part_fault_name f) (wrong_part f (workspace_at at d)) (said slip) → IsPartRemark d at f remark
part_told d at f slip remark place sentence hint told = record {
  steps = slip.steps.items;
  place = place;
  told = subst (λ s. TellsNamed (part_fault_name f) (wrong_part f (workspace_at at d)) s) (sym (said_by slip remark sentence hint)) told;
}

pub standing_told : (text : List ℕ) (at : ℕ) (f : PartFault) (remark : Remark) → IsStandingFault text (at, f) → remark.offset ≤ length text
    → (d : Data) × (value_in text ≡ Some d) × IsPartRemark d at f remark → IsStandingRemark text remark
standing_told text at f remark found within said = record {
  within = within;
  at = at;
  fault = f;
  found = found;
  value = said.0;
  read = said.1;
  said = said.2;
}

pub part_read : (text : List ℕ) (d : Data) (at : ℕ) (f : PartFault) (remark : Remark) → IsUtf8 text → read text ≡ Some d → IsPartRemark d at f remark
    → (x : Data) × (value_in text ≡ Some x) × IsPartRemark x at f remark
part_read text d at f remark utf8 is said = (d, value_is text d utf8 is, said)
