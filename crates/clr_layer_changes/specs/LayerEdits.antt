-- The edits that lead to the content that layers ask for.
use Rattle.std.specs.Prelude.{◌≡◌, ℕ, ◌==◌, Bool, List, map, filter, Result, Ok, Err}
use Rattle.std.specs.FinMap as finite
use Rattle.clr_rows.specs.declared.cells.CellId.{CellId}
use Rattle.clr_rows.specs.declared.cells.Change.{Change}
use Rattle.clr_rows.specs.declared.tables.TableDef.{TableDef}
use Rattle.clr_rows.specs.Contents.{Changes, Content, changes}
use Rattle.clr_change.specs.declared.edits.Edit.{Edit}
use Rattle.clr_readings.specs.Readings.{◌>>=◌}
use Rattle.clr_layer_changes.specs.declared.faults.FaultyLayer.{FaultyLayer}
use Rattle.clr_layer_changes.specs.declared.faults.LayersFault.{LayersFault}
use Rattle.clr_layer_changes.specs.declared.options.GivenLayer.{GivenLayer}
use Rattle.clr_layer_changes.specs.declared.options.LayerOptions.{LayerOptions}
use Rattle.clr_layer_changes.specs.Changes.{edits_between}
use Rattle.clr_layer_changes.specs.Wanted.{wanted_over}

-- the edits that lead from a content to the one that layers ask for over it, or the first fault
abbrev pub wanted_edits : List TableDef → Content → Content → LayerOptions → List GivenLayer → Result (List Edit) FaultyLayer
wanted_edits schema base taken options layers = wanted_over schema base taken options layers >>= λ content. Ok (edits_between base content)

abbrev pub is_change_in : ℕ → CellId × Change → Bool
is_change_in table e = e.0.table == table

-- the changed cells of a table
abbrev pub changed_cells_in : Changes → ℕ → List CellId
changed_cells_in changed table = map (λ e. e.0) (filter (is_change_in table) (finite.entries changed))

-- changes from a base content lead to the one that is read, or there is the fault in place of it
abbrev pub IsNoted : Content → Result Content (ℕ × LayersFault) → Changes → Result Unit (ℕ × LayersFault) → Type 0
IsNoted base read changed (Ok _) = (content : Content) × (read ≡ Ok content) × (changed ≡ changes base content)
IsNoted base read changed (Err e) = read ≡ Err e
