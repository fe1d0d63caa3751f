-- Edits whose script is read back as the same edits.
use Rattle.std.specs.Prelude.{◌≡◌, ◌<◌, ◌^◌, ℕ, List, length, None, Ok, IsUtf8}
use Rattle.std.specs.List.{All}
use Rattle.clr_rows.specs.declared.tables.TableDef.{TableDef}
use Rattle.clr_rows.specs.Schemas.{cell_fault, row_fault, schema_fault}
use Rattle.clr_change.specs.declared.edits.Edit.{Edit}
use Rattle.clr_change.specs.declared.edits.Edit.TheVariants.{Insert, Update, Delete}
use Rattle.clr_records.specs.Values.{IsText}
use Rattle.clr_scripts.specs.Scripts.{script_in_text}
use Rattle.clr_designs.specs.Scripts.{again_script, again_steps, design_script, design_steps}

-- the row of an edit fits the schema, or some row could stand at the cell that it empties
abbrev pub Fits : List TableDef → Edit → Type 0
Fits tables (Insert cell row) = row_fault tables cell row ≡ None
Fits tables (Update cell row) = row_fault tables cell row ≡ None
Fits tables (Delete cell) = cell_fault tables cell ≡ None

-- the texts of an edit are in UTF-8
abbrev pub HasTexts : Edit → Type 0
HasTexts (Insert cell row) = All IsText row.values
HasTexts (Update cell row) = All IsText row.values
HasTexts (Delete cell) = Unit {0}

-- a design that can be written: names and texts in UTF-8, edits that fit the schema, and no more of them than a number of 64 bits can count
pub record IsDesign (tables : List TableDef) (name root : List ℕ) (edits : List Edit) : Type 0 where
  pub sound : schema_fault tables ≡ None
  pub named : IsUtf8 name
  pub rooted : IsUtf8 root
  pub fit : All (Fits tables) edits
  pub texts : All HasTexts edits
  pub few : length edits < 2 ^ 63

-- the script that makes a design is read as the steps that make it
abbrev pub ReadBackLaw : Type 0
ReadBackLaw = (tables : List TableDef) (name root : List ℕ) (edits : List Edit)
    → IsDesign tables name root edits → script_in_text tables (design_script tables name root edits) ≡ Ok (design_steps name root edits)

-- the script that brings a design again is read as the steps that do
abbrev pub AgainReadBackLaw : Type 0
AgainReadBackLaw = (tables : List TableDef) (name : List ℕ) (edits : List Edit)
    → IsDesign tables name name edits → script_in_text tables (again_script tables name edits) ≡ Ok (again_steps name edits)
