-- How many rows a change set adds, changes and removes.
use Rattle.std.specs.Prelude.{ℕ, Bool, ◌&&◌, count_by, is_none, is_some}
use Rattle.std.specs.FinMap as finite
use Rattle.clr_rows.specs.declared.cells.Change.{Change}
use Rattle.clr_rows.specs.Contents.{Changes}
use Rattle.clr_member_changes.specs.declared.counts.Counts.{Counts}
use Rattle.clr_member_changes.specs.declared.counts.RowChange.{RowChange}
use Rattle.clr_member_changes.specs.declared.counts.RowChange.TheVariants as kind

-- a row is added where none stood, removed where none stands afterwards, and otherwise changed
abbrev pub is_row_change : RowChange → Change → Bool
is_row_change kind.Adds e = is_none e.before
is_row_change kind.Changes e = is_some e.before && is_some e.after
is_row_change kind.Removes e = is_some e.before && is_none e.after

abbrev pub counted : RowChange → Changes → ℕ
counted d set = count_by (λ e. is_row_change d e.1) (finite.entries set)

abbrev pub counts_of : Changes → Counts
counts_of set = record { added = counted kind.Adds set; changed = counted kind.Changes set; removed = counted kind.Removes set }
