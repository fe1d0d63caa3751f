-- The script that makes a design, or brings one again: its two steps, their records, and its text.
use Rattle.std.specs.Prelude.{ℕ, List, [], ◌∷◌, length, map, codes}
use Rattle.std.specs.Fmt.{decimal}
use Rattle.std.specs.List.{flat_map}
use Rattle.csv.specs.Writing.{row_text}
use Rattle.clr_rows.specs.declared.tables.TableDef.{TableDef}
use Rattle.clr_change.specs.declared.edits.Edit.{Edit}
use Rattle.clr_change.specs.declared.edits.Edit.TheVariants.{Insert, Update, Delete}
use Rattle.clr_steps.specs.declared.commands.Command.TheVariants.{Create, Apply, RollAll}
use Rattle.clr_scripts.specs.declared.steps.Step.{Step}
use Rattle.clr_scripts.specs.declared.steps.Step.TheVariants.{Act}
use Rattle.clr_lines.specs.Rows.{cell_fields, row_fields, rows_writer}

-- the steps that make a design: its workspace is created under the root, and then the edits are made in it, all or none
abbrev pub design_steps : List ℕ → List ℕ → List Edit → List Step
design_steps name root edits = Act (Create name root) ∷ Act (Apply name edits) ∷ []

-- an edit's record: its word, and then the row that it leaves, as it is shown, or the cell that it empties
abbrev pub edit_fields : List TableDef → Edit → List (List ℕ)
edit_fields tables (Insert cell row) = codes "insert" ∷ row_fields tables cell row
edit_fields tables (Update cell row) = codes "update" ∷ row_fields tables cell row
edit_fields tables (Delete cell) = codes "delete" ∷ cell_fields tables cell

abbrev pub create_fields : List ℕ → List ℕ → List (List ℕ)
create_fields name root = codes "create" ∷ name ∷ root ∷ []

abbrev pub apply_fields : List ℕ → ℕ → List (List ℕ)
apply_fields name count = codes "apply" ∷ name ∷ decimal count ∷ []

-- the records of the two steps
abbrev pub design_records : List TableDef → List ℕ → List ℕ → List Edit → List (List (List ℕ))
design_records tables name root edits = create_fields name root ∷ apply_fields name (length edits) ∷ map (edit_fields tables) edits

-- the text of the records of a script, each a line
abbrev pub script_text : List (List (List ℕ)) → List ℕ
script_text records = flat_map (row_text rows_writer) records

-- the text of the script that makes a design
abbrev pub design_script : List TableDef → List ℕ → List ℕ → List Edit → List ℕ
design_script tables name root edits = script_text (design_records tables name root edits)

-- the steps that bring a design again: its workspace is rolled back to its base, and then the edits are made in it, all or none
abbrev pub again_steps : List ℕ → List Edit → List Step
again_steps name edits = Act (RollAll name) ∷ Act (Apply name edits) ∷ []

abbrev pub roll_fields : List ℕ → List (List ℕ)
roll_fields name = codes "rollall" ∷ name ∷ []

-- the records of these two steps
abbrev pub again_records : List TableDef → List ℕ → List Edit → List (List (List ℕ))
again_records tables name edits = roll_fields name ∷ apply_fields name (length edits) ∷ map (edit_fields tables) edits

-- the text of the script that brings a design again
abbrev pub again_script : List TableDef → List ℕ → List Edit → List ℕ
again_script tables name edits = script_text (again_records tables name edits)
