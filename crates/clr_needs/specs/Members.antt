-- Members by position: change sets, the first of them that changes a cell, and cells that two change.
use Rattle.std.specs.Prelude.{◌≡◌, ℕ, ◌<◌, ◌≤◌, ◌==◌, true, List, Option, Some, None, is_some, length, slice_get}
use Rattle.std.proofs.lemmas.Bool.Decides.{Decides-eqb}
use Rattle.std.specs.FinMap as finite
use Rattle.std.specs.List.{flat_map, range_with_len}
use Rattle.std.specs.Option.{option_map}
use Rattle.std.specs.declared.cmp.Ordering.TheVariants.{Less}
use Rattle.clr_rows.specs.declared.cells.CellId.{CellId}
use Rattle.clr_rows.specs.declared.rows.Row.{Row}
use Rattle.clr_rows.specs.Cells.{cell_cmp}
use Rattle.clr_rows.specs.Contents.{Content, Changes, row_at}
use Rattle.clr_rules.specs.declared.rules.Rule.{Rule}
use Rattle.clr_needs.specs.declared.faults.SceneFault.{SceneFault}
use Rattle.clr_needs.specs.declared.faults.SceneFault.TheVariants as fault
use Rattle.clr_needs.specs.declared.shared_cells.SharedCell.{SharedCell}
use Rattle.clr_needs.specs.declared.needs.Life.{Life}
use Rattle.clr_needs.specs.declared.needs.Life.TheVariants as life
use Rattle.clr_needs.specs.Settings.{Setting, Lifetime, Always, With, Without}

-- what a change set has at a cell that it changes
abbrev pub after_in : Changes → CellId → Option (Option Row)
after_in changed q = option_map (λ e. e.after) (finite.get changed q)

abbrev pub after_at : Option Changes → CellId → Option (Option Row)
after_at None q = None
after_at (Some changed) q = after_in changed q

-- what the member of a position has at a cell that it changes
abbrev pub after_of : List Changes → ℕ → CellId → Option (Option Row)
after_of sets n q = after_at (slice_get sets n) q

abbrev pub positions : List Changes → List ℕ
positions sets = range_with_len 0 (length sets)

-- a root with change sets over it
abbrev pub setting : List Rule → Content → List Changes → Setting ℕ
setting rules root sets = record {
  rules = rules;
  root = row_at root;
  members = positions sets;
  after = after_of sets;
  same = λ m n. m == n;
  decides = Decides-eqb;
}

abbrev pub lifetime : Life → Lifetime ℕ
lifetime life.Always = Always
lifetime (life.With n) = With n
lifetime (life.Without n) = Without n

-- cells that two members change --------------------------------------------------------------

abbrev pub ChangesCell : List Changes → CellId → ℕ → Type 0
ChangesCell sets q n = is_some (after_of sets n q) ≡ true

-- no two members change the cell
abbrev pub IsApart : List Changes → CellId → Type 0
IsApart sets q = (m n : ℕ) → ChangesCell sets q m → ChangesCell sets q n → m ≡ n

-- no cell is changed by two members
abbrev pub AreApart : List Changes → Type 0
AreApart sets = (q : CellId) → IsApart sets q

-- the first two members that change the cell
pub record AreFirstTwo (sets : List Changes) (q : CellId) (m n : ℕ) : Type 0 where
  pub ascending : m < n
  pub first : ChangesCell sets q m
  pub second : ChangesCell sets q n
  pub no_other : (k : ℕ) → k < n → ChangesCell sets q k → k ≡ m

-- a cell with the first two members that change it; no lesser cell is changed by two
pub record IsLeastShared (sets : List Changes) (s : SharedCell) : Type 0 where
  pub two : AreFirstTwo sets s.cell s.first s.second
  pub least : (q : CellId) → cell_cmp q s.cell ≡ Less → IsApart sets q

abbrev pub IsSceneFault : List Changes → SceneFault → Type 0
IsSceneFault sets (fault.SharedCell cell first second) = IsLeastShared sets (record { cell = cell; first = first; second = second })
IsSceneFault sets fault.OutOfMemory = Unit {0}

-- the first two members that change each cell ---------------------------------------------------

-- none of the members from one position to below another changes the cell
abbrev pub NoneChanges : List Changes → CellId → ℕ → ℕ → Type 0
NoneChanges sets q from end = (k : ℕ) → from ≤ k → k < end → ChangesCell sets q k → ⊥

-- the first of the members from one position to below another that changes the cell
pub record IsFirstChanger (sets : List Changes) (q : CellId) (from end m : ℕ) : Type 0 where
  pub from_on : from ≤ m
  pub below : m < end
  pub changes : ChangesCell sets q m
  pub passed : NoneChanges sets q from m

-- the first of the members from one position to below another that changes the cell, if one does
abbrev pub IsFound : List Changes → CellId → ℕ → ℕ → Option ℕ → Type 0
IsFound sets q from end None = NoneChanges sets q from end
IsFound sets q from end (Some m) = IsFirstChanger sets q from end m

-- the cells that members change, one member after another
unfoldable pub changed_cells : List Changes → List CellId
changed_cells sets = flat_map (λ (s : Changes). finite.keys s) sets
