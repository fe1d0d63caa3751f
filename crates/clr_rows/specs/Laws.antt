-- Laws of changes, cell by cell.
use Rattle.std.specs.Prelude.{◌≡◌, Some, None, if◌then◌else◌}
use Rattle.std.specs.FinMap as finite
use Rattle.std.specs.Option.{option_map, unwrap_or}
use Rattle.clr_rows.specs.declared.cells.CellId.{CellId}
use Rattle.clr_rows.specs.Contents.{Content, Changes, row_at, is_changed, change_of, changes, taken_over}

-- the changes between two contents are what each has at the cells where they differ
abbrev pub ChangesLaw : Type 0
ChangesLaw = (base current : Content) (q : CellId)
    → finite.get (changes base current) q ≡ (if is_changed base current q then Some (change_of base current q) else None)

-- a content taken over by changes has the row after at a changed cell, and its own at all others
abbrev pub OverLaw : Type 0
OverLaw = (content : Content) (changed : Changes) (q : CellId)
    → row_at (taken_over content changed) q ≡ unwrap_or (option_map (λ change. change.after) (finite.get changed q)) (row_at content q)
