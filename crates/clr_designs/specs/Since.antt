-- Designs that were made where LIVE had the content which was copied, and LIVE has moved on since.
use Rattle.std.specs.Prelude.{◌≡◌, ◌&&◌}
use Rattle.std.specs.List.{list_any}
use Rattle.std.specs.Ordering.{eq_by_cmp}
use Rattle.clr_rows.specs.declared.cells.CellId.{CellId}
use Rattle.clr_rows.specs.Cells.{cell_cmp}
use Rattle.clr_rows.specs.Contents.{Content, changes, is_changed}
use Rattle.clr_workspaces.specs.Marks.{Name}
use Rattle.clr_steps.specs.Offices.{Office}
use Rattle.clr_steps.specs.Readings.{changes_in, conflicts_in}
use Rattle.clr_designs.specs.Designs.{AreDone, with_design, with_live}

-- a design was made where LIVE had the content from which its layers were copied; and since then LIVE has come to have what it has. All else is as it was
pub record IsMadeSince (o : Office) (name : Name) (copied content : Content) (left : Office) : Type 0 where
  -- over that content both commands are done
  pub made : AreDone (with_live o copied) name content (with_design (with_live o copied) name content)
  -- and then LIVE moves on
  pub moved : left ≡ with_live (with_design (with_live o copied) name content) o.live
  -- the design changes just what its layers change of what was copied
  pub changed : changes_in left name ≡ changes copied content
  -- and is in conflict just at the cells that LIVE changed too
  pub conflicts :
      (cell : CellId)
      → list_any (eq_by_cmp cell_cmp cell) (conflicts_in left name) ≡ (is_changed copied content cell && is_changed copied o.live cell)
