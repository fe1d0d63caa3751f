-- Keys for rows that have none.
use Rattle.std.specs.Prelude.{◌≡◌, ◌≤◌, ◌<◌, ℕ, pos, ◌+◌, ◌-◌, ◌&&◌, Bool, false, List, Option, is_none, nat_lt, unsigned_abs}
use Rattle.std.specs.List.{find, range_with_len}
use Rattle.clr_rows.specs.declared.cells.CellId.{CellId}
use Rattle.clr_rows.specs.declared.limits.TheConstants.{GREATEST_KEY}
use Rattle.clr_rows.specs.Contents.{Content, row_at}

-- the cell of a key of a table
abbrev pub cell_of : ℕ → ℕ → CellId
cell_of table key = record { table = table; key = pos key }

-- a key from 1 on at which neither LIVE nor the rows of a layer so far have a row of the table
abbrev pub is_free : Content → Content → ℕ → ℕ → Bool
is_free live rows table key = nat_lt 0 key && is_none (row_at live (cell_of table key)) && is_none (row_at rows (cell_of table key))

-- the keys from a number on, up to the greatest, ascending
unfoldable pub keys_from : ℕ → List ℕ
keys_from first = range_with_len first (unsigned_abs GREATEST_KEY + 1 - first)

-- the least key from a number on that is free, if one is
abbrev pub least_free : Content → Content → ℕ → ℕ → Option ℕ
least_free live rows table first = find (is_free live rows table) (keys_from first)

-- none of the keys from a number on is free before the next
pub record ArePassed (is_free : ℕ → Bool) (first next : ℕ) : Type 0 where
  pub reached : first ≤ next
  pub taken : (key : ℕ) → first ≤ key → key < next → is_free key ≡ false
