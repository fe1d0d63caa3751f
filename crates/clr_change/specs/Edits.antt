-- Edits of a content, made one after another, and the first that can't be made.
use Rattle.std.specs.Prelude.{◌≡◌, ℕ, ◌+◌, List, [], ◌∷◌, Option, Some, None, is_some, if◌then◌else◌}
use Rattle.std.specs.FinMap as finite
use Rattle.std.specs.Option.{option_or, option_map}
use Rattle.clr_rows.specs.declared.rows.Row.{Row}
use Rattle.clr_rows.specs.declared.tables.TableDef.{TableDef}
use Rattle.clr_rows.specs.Contents.{Content, Changes, row_at, changes}
use Rattle.clr_rows.specs.Schemas.{row_fault, cell_fault}
use Rattle.clr_change.specs.declared.edits.Edit.{Edit}
use Rattle.clr_change.specs.declared.edits.Edit.TheVariants.{Insert, Update, Delete}
use Rattle.clr_change.specs.declared.edits.EditFault.{EditFault}
use Rattle.clr_change.specs.declared.edits.EditFault.TheVariants as fault

abbrev pub taken_fault : Option Row → Option EditFault
taken_fault row = if is_some row then Some fault.KeyTaken else None

abbrev pub missing : Option Row → Option EditFault
missing row = if is_some row then None else Some fault.NoRow

-- why an edit of a content can't be made, if it can't
abbrev pub edit_fault : List TableDef → Content → Edit → Option EditFault
edit_fault tables content (Insert cell row) = option_or (option_map fault.Row (row_fault tables cell row)) (taken_fault (row_at content cell))
edit_fault tables content (Update cell row) = option_or (option_map fault.Row (row_fault tables cell row)) (missing (row_at content cell))
edit_fault tables content (Delete cell) = option_or (option_map fault.Row (cell_fault tables cell)) (missing (row_at content cell))

abbrev pub after_edit : Content → Edit → Content
after_edit content (Insert cell row) = finite.insert content cell row
after_edit content (Update cell row) = finite.insert content cell row
after_edit content (Delete cell) = finite.remove content cell

-- a content after edits, each made over what the one before left
unfoldable pub after_edits : Content → List Edit → Content
after_edits content [] = content
after_edits content (edit ∷ edits) = after_edits (after_edit content edit) edits

abbrev pub fault_or_later : ℕ → Option EditFault → Option (ℕ × EditFault) → Option (ℕ × EditFault)
fault_or_later n None later = later
fault_or_later n (Some why) later = Some (n, why)

-- the number of the first edit that can't be made, counted on from this number, and why
unfoldable pub first_bad_edit : List TableDef → Content → ℕ → List Edit → Option (ℕ × EditFault)
first_bad_edit tables content n [] = None
first_bad_edit tables content n (edit ∷ edits) =
    fault_or_later n (edit_fault tables content edit) (first_bad_edit tables (after_edit content edit) (n + 1) edits)

-- the number in the answer to a fault at this position: edits count from 1, and want of memory is no edit's
abbrev pub fault_number : ℕ → EditFault → ℕ
fault_number at fault.OutOfMemory = 0
fault_number at _ = at + 1

-- a refusal names the first edit that can't be made, or is 0 for want of memory
abbrev pub IsFirstEditFault : Option (ℕ × EditFault) → ℕ × EditFault → Type 0
IsFirstEditFault first (n, fault.OutOfMemory) = n ≡ 0
IsFirstEditFault first (n, fault.Row why) = first ≡ Some (n, fault.Row why)
IsFirstEditFault first (n, fault.KeyTaken) = first ≡ Some (n, fault.KeyTaken)
IsFirstEditFault first (n, fault.NoRow) = first ≡ Some (n, fault.NoRow)

-- changes of a content, over which an edit is made
abbrev pub IsMade : List TableDef → Content → Edit → Changes → Changes → Type 0
IsMade tables content edit old new = (current : Content) → old ≡ changes content current
    → (edit_fault tables current edit ≡ None) × (new ≡ changes content (after_edit current edit))

-- why an edit isn't made over changes of a content
abbrev pub FaultIs : List TableDef → Content → Edit → Changes → EditFault → Type 0
FaultIs tables content edit old fault.OutOfMemory = Unit {0}
FaultIs tables content edit old (fault.Row why) = (current : Content) → old ≡ changes content current → edit_fault tables current edit ≡ Some (fault.Row why)
FaultIs tables content edit old fault.KeyTaken = (current : Content) → old ≡ changes content current → edit_fault tables current edit ≡ Some fault.KeyTaken
FaultIs tables content edit old fault.NoRow = (current : Content) → old ≡ changes content current → edit_fault tables current edit ≡ Some fault.NoRow
