-- What passes over tables show of a cut, and that passes over parts of a table make one over all of them.
use Rattle.std.specs.Prelude.{◌≡◌, ◌+◌, ◌<◌, ℕ, true, List, [], ◌∷◌, ◌++◌, ⊤, is_some, map}
use Rattle.std.specs.FinMap as finite
use Rattle.std.specs.List.{IsDistinct}
use Rattle.std.specs.Ordering.{eq_by_cmp}
use Rattle.clr_rows.specs.declared.cells.CellId.{CellId}
use Rattle.clr_rows.specs.declared.tables.TableDef.{TableDef}
use Rattle.clr_rows.specs.Cells.{cell_cmp}
use Rattle.clr_rows.specs.Contents.{Changes, Content}
use Rattle.clr_rows.specs.Held.{Held}
use Rattle.clr_deltas.specs.Differences.{Differences}
use Rattle.clr_rules.specs.declared.rules.Rule.{Rule}
use Rattle.clr_rules.specs.Needs.{View}
use Rattle.clr_needs.specs.Members.{setting}
use Rattle.clr_needs.specs.Settings.{Setting}
use Rattle.clr_row_versions.specs.Versions.{FitsSetting}
use Rattle.clr_cuts.specs.Cuts.{HasCell}
use Rattle.clr_cuts.specs.Passes.{AreRowsOf}
use Rattle.clr_reach.specs.declared.aims.Aim.{Aim}
use Rattle.clr_cut_rows.specs.Laws.{IsCutFor}
use Rattle.clr_cut_passes.specs.declared.counts.PassCounts.{PassCounts}
use Rattle.clr_cut_passes.specs.Counts.{counts_of, greatest, together, up_to_greatest}
use Rattle.clr_cut_passes.specs.Passes.{AreOfOwnCells}
use Rattle.clr_layer_text.specs.declared.rows.LayerRow.{LayerRow}
use Rattle.clr_cut_streams.specs.declared.told.Told.{Told}
use Rattle.clr_cut_streams.specs.Told.{HasTold, cells_of_cut, held_in}

-- a pass over rows of a table, and what it told of them
pub record TablePass : Type 0 where
  pub table : ℕ
  pub rows : List LayerRow
  pub told : Told

abbrev pub HasToldOf : Aim → Setting ℕ → Differences → List TableDef → TablePass → Type 0
HasToldOf aim c listed tables p = (text : List ℕ) × (notes : List ℕ) × HasTold aim c listed tables p.table p.rows text notes p.told

abbrev pub HaveTold : Aim → Setting ℕ → Differences → List TableDef → List TablePass → Type 0
HaveTold aim c listed tables [] = ⊤
HaveTold aim c listed tables (p ∷ passes) = HasToldOf aim c listed tables p × HaveTold aim c listed tables passes

-- the rows of passes, at their cells
abbrev pub rows_passed : List TablePass → List Held
rows_passed [] = []
rows_passed (p ∷ passes) = map (held_in p.table) p.rows ++ rows_passed passes

-- the counts of passes, put together
abbrev pub counts_passed : List TablePass → PassCounts
counts_passed [] = counts_of []
counts_passed (p ∷ passes) = together p.told.counts (counts_passed passes)

-- no pass printed a row
abbrev pub PrintNone : List TablePass → Type 0
PrintNone [] = ⊤
PrintNone (p ∷ passes) = (p.told.printed ≡ 0) × PrintNone passes

-- the passes printed no row and found none otherwise, and of the cut's rows, which are so many, they had each
pub record ShowNothing (passes : List TablePass) (rows : ℕ) : Type 0 where
  pub printed : PrintNone passes
  pub others : (counts_passed passes).others ≡ 0
  pub had : (counts_passed passes).had ≡ rows

-- the rows of a cut are one of a whole, and at each listed cell they are as the whole
pub record IsCutBesideListed (aim : Aim) (c : Setting ℕ) (listed : Differences) (whole : View) : Type 0 where
  pub cut : IsCutFor aim c whole
  pub as_listed : (q : CellId) → is_some (finite.get listed q) ≡ true → HasCell c.root whole q

-- passes over all rows of a whole, each once, that show nothing
abbrev pub TablesLaw : Type 0
TablesLaw = (aim : Aim) (rules : List Rule) (root : Content) (sets : List Changes) (listed : Differences) (tables : List TableDef) (whole : View)
    (passes : List TablePass)
    → finite.len root < greatest
    → FitsSetting (setting rules root sets)
    → AreRowsOf whole (rows_passed passes)
    → AreOfOwnCells (rows_passed passes)
    → HaveTold aim (setting rules root sets) listed tables passes
    → ShowNothing passes (finite.len root)
    → IsCutBesideListed aim (setting rules root sets) listed whole

-- what two passes told of different rows of a table
abbrev pub told_together : Told → Told → Told
told_together a b = record { counts = together a.counts b.counts; printed = up_to_greatest (a.printed + b.printed) }

-- what passes over two lists of rows of a table told is together what one tells that goes over one behind the other, where no two rows have one key at
-- which the cut has a row
abbrev pub PartsLaw : Type 0
PartsLaw = (aim : Aim) (c : Setting ℕ) (listed : Differences) (tables : List TableDef) (table : ℕ) (one other : List LayerRow)
    (text more_text notes more_notes : List ℕ) (a b : Told)
    → IsDistinct (eq_by_cmp cell_cmp) (cells_of_cut c table (one ++ other))
    → HasTold aim c listed tables table one text notes a
    → HasTold aim c listed tables table other more_text more_notes b
    → HasTold aim c listed tables table (one ++ other) (text ++ more_text) (notes ++ more_notes) (told_together a b)
