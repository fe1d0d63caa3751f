-- The first two members that change a cell, as they are found one member after another.
use Rattle.std.specs.Prelude.{ℕ, ℤ, Bool, ◌+◌, ◌==◌, ◌-◌, ◌&&◌, List, Option, Some, None, length, if◌then◌else◌}
use Rattle.std.specs.HashMap.{HashMap, get}
use Rattle.std.specs.List.{range_with_len}
use Rattle.std.specs.declared.hash.BuildHasherDefault.{BuildHasherDefault}
use Rattle.std.specs.declared.hash.FoldHasher.{FoldHasher}
use Rattle.std.specs.Ordering.{int_eq, is_lt}
use Rattle.clr_rows.specs.declared.cells.CellId.{CellId}
use Rattle.clr_rows.specs.Cells.{cell_cmp}
use Rattle.clr_rows.specs.Contents.{Changes}
use Rattle.clr_needs.specs.declared.shared_cells.SharedCell.{SharedCell}
use Rattle.clr_needs.specs.Members.{IsFirstChanger, IsFound, NoneChanges, after_of, positions}
use Rattle.clr_needs.specs.Settings.{first_changer}
use Rattle.clr_row_versions.specs.declared.changers.Changers.{Changers}

-- the first of the members below a number that changes the cell and the next one that does, as far as there are such
abbrev pub AreChangersAt : List Changes → ℕ → CellId → Option Changers → Type 0
AreChangersAt sets end q None = NoneChanges sets q 0 end
AreChangersAt sets end q (Some c) = IsFirstChanger sets q 0 end c.first × IsFound sets q (c.first + 1) end c.second

-- the table and the key of a cell
abbrev pub key_of : CellId → ℕ × ℤ
key_of q = (q.table, q.key)

-- whether two pairs of a table and a key are of one cell
abbrev pub are_same_keys : ℕ × ℤ → ℕ × ℤ → Bool
are_same_keys a b = (a.0 == b.0) && int_eq a.1 b.1

-- changers by the table and the key of their cell
abbrev pub NotedChangers : Type 0
NotedChangers = HashMap (ℕ × ℤ) Changers (BuildHasherDefault FoldHasher)

-- the changers that are noted of a cell
abbrev pub noted_changers : NotedChangers → CellId → Option Changers
noted_changers changers q = get are_same_keys changers (key_of q)

-- the changers of each cell, among the members below a number
abbrev pub AreChangersBelow : List Changes → ℕ → NotedChangers → Type 0
AreChangersBelow sets end changers = (q : CellId) → AreChangersAt sets end q (noted_changers changers q)

-- the first member of all that changes the cell and the next one
abbrev pub changers_from : List Changes → CellId → Option ℕ → Option Changers
changers_from sets q None = None
changers_from sets q (Some m) = Some (record { first = m; second = first_changer (after_of sets) (range_with_len (m + 1) (length sets - (m + 1))) q })

abbrev pub changers_at : List Changes → CellId → Option Changers
changers_at sets q = changers_from sets q (first_changer (after_of sets) (positions sets) q)

-- the changers of a cell with one more member behind them
abbrev pub with_second : Changers → Option ℕ → ℕ → Changers
with_second c None n = if c.first == n then c else record { first = c.first; second = Some n }
with_second c (Some m) n = c

abbrev pub with_member : Option Changers → ℕ → Changers
with_member None n = record { first = n; second = None }
with_member (Some c) n = with_second c c.second n

abbrev pub lesser : Option SharedCell → SharedCell → SharedCell
lesser None other = other
lesser (Some s) other = if is_lt (cell_cmp other.cell s.cell) then other else s
