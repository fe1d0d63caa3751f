-- What is printed and told of the rows of a layer, by how they stand to a cut.
use Rattle.std.specs.Prelude.{◌≡◌, ◌+◌, ℕ, Bool, true, false, List, [], ◌∷◌, ◌++◌, codes, is_some, length, map, if◌then◌else◌}
use Rattle.std.specs.FinMap as finite
use Rattle.std.specs.List.{IsDistinct, filter, flat_map, list_all}
use Rattle.std.specs.Ordering.{eq_by_cmp}
use Rattle.clr_rows.specs.declared.cells.CellId.{CellId}
use Rattle.clr_rows.specs.declared.tables.TableDef.{TableDef}
use Rattle.clr_rows.specs.Cells.{cell_cmp}
use Rattle.clr_rows.specs.Held.{Held}
use Rattle.clr_deltas.specs.Differences.{Differences}
use Rattle.clr_needs.specs.Settings.{Setting}
use Rattle.clr_reach.specs.declared.aims.Aim.{Aim}
use Rattle.clr_cut_rows.specs.declared.standings.Standing.{Standing}
use Rattle.clr_cut_rows.specs.declared.standings.Standing.TheVariants.{Has, HasOther, Lacks, Beyond}
use Rattle.clr_cut_passes.specs.Counts.{is_other, up_to_greatest}
use Rattle.clr_cut_passes.specs.Passes.{AreCountsOf, AreStandings}
use Rattle.clr_layer_text.specs.declared.rows.LayerRow.{LayerRow}
use Rattle.clr_layer_text.specs.Layers.{cell_of, row_line}
use Rattle.clr_lines.specs.Pieces.{cell_text}
use Rattle.clr_cut_streams.specs.declared.told.Told.{Told}

-- a row of a layer at its cell
abbrev pub held_in : ℕ → LayerRow → Held
held_in table r = (cell_of table r.key, r.row)

-- a row is shown where the cut lacks it, or has none at a cell that its text lists among differences
abbrev pub is_shown : Differences → CellId → Standing → Bool
is_shown listed q Lacks = true
is_shown listed q Beyond = is_some (finite.get listed q)
is_shown listed q _ = false

-- the rows of a layer that a test takes, by how they stand to a cut
unfoldable pub taken : (CellId → Standing → Bool) → ℕ → List LayerRow → List Standing → List LayerRow
taken test table [] xs = []
taken test table (r ∷ rows) [] = []
taken test table (r ∷ rows) (x ∷ xs) =
    if test (cell_of table r.key) x then r ∷ taken test table rows xs else taken test table rows xs

abbrev pub shown : Differences → ℕ → List LayerRow → List Standing → List LayerRow
shown listed = taken (is_shown listed)

abbrev pub others : ℕ → List LayerRow → List Standing → List LayerRow
others = taken (λ q. is_other)

-- the line that tells that the cut has another row at a cell
abbrev pub other_line : List TableDef → CellId → List ℕ
other_line tables q = codes "otherwise " ++ cell_text tables q ++ codes "\n"

abbrev pub line_if_shown : Bool → LayerRow → List ℕ
line_if_shown b r = if b then row_line r else []

abbrev pub line_if_other : List TableDef → CellId → Standing → List ℕ
line_if_other tables q HasOther = other_line tables q
line_if_other tables q _ = []

abbrev pub one_more_if : Bool → ℕ → ℕ
one_more_if b n = if b then up_to_greatest (n + 1) else n

-- the lines of rows in a layer, and those that tell of others
abbrev pub row_lines : List LayerRow → List ℕ
row_lines rows = flat_map row_line rows

abbrev pub other_lines : List TableDef → ℕ → List LayerRow → List ℕ
other_lines tables table rows = flat_map (λ r. other_line tables (cell_of table r.key)) rows

abbrev pub has_key : LayerRow → Bool
has_key r = is_some r.key

-- the cut has a row at the cell of a row, the same or another one
abbrev pub is_row_there : Standing → Bool
is_row_there Has = true
is_row_there HasOther = true
is_row_there _ = false

-- of the cells of rows those at which the cut has a row
abbrev pub cells_of_cut : Setting ℕ → ℕ → List LayerRow → List CellId
cells_of_cut c table rows = filter (λ q. is_some (c.root q)) (map (λ r. cell_of table r.key) rows)

-- of rows of a table, each with a key, and none with that of another one where the cut has a row, a pass over a cut has told this: how they stand to the
-- cut, the lines of those that are shown, and the lines that tell of others
pub record HasTold (aim : Aim) (c : Setting ℕ) (listed : Differences) (tables : List TableDef) (table : ℕ) (rows : List LayerRow) (text notes : List ℕ)
    (told : Told) : Type 0 where
  pub standings : List Standing
  pub are : AreStandings aim c (map (held_in table) rows) standings
  pub counts : AreCountsOf aim c (map (held_in table) rows) told.counts
  pub keyed : list_all has_key rows ≡ true
  pub once : IsDistinct (eq_by_cmp cell_cmp) (cells_of_cut c table rows)
  pub lines : text ≡ row_lines (shown listed table rows standings)
  pub remarks : notes ≡ other_lines tables table (others table rows standings)
  pub printed : told.printed ≡ up_to_greatest (length (shown listed table rows standings))
