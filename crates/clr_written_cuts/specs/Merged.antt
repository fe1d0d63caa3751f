-- The rows of a cut with the changes of its members over them, as merges leave them.
use Rattle.std.specs.Prelude.{◌≡◌, ℕ, true, List, is_some}
use Rattle.clr_rows.specs.declared.cells.CellId.{CellId}
use Rattle.clr_rows.specs.Contents.{Changes, Content, is_changed, row_at}
use Rattle.clr_rules.specs.declared.rules.Rule.{Rule}
use Rattle.clr_needs.specs.Members.{after_of, positions, setting}
use Rattle.clr_needs.specs.Settings.{view_with}

-- the new rows are the old ones with what each member changes, and they are other ones at each cell that a member changes
pub record AreMergedRows (rules : List Rule) (old : Content) (sets : List Changes) (new : Content) : Type 0 where
  pub merged : (q : CellId) → row_at new q ≡ view_with (setting rules old sets) (positions sets) q
  pub changed : (n : ℕ) (q : CellId) → is_some (after_of sets n q) ≡ true → is_changed old new q ≡ true
