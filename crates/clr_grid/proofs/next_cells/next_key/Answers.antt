use Rattle.std.proofs.Common.{◌≡◌, true, List, subst}
use Rattle.std.specs.Prelude.{slice_get}
use Rattle.clr_rows.specs.declared.cells.CellId.{CellId}
use Rattle.clr_finders.specs.NextCells.{IsNextOf}
use Rattle.clr_finders.specs.CellLists.{is_one_of}
use Rattle.clr_grid.proofs.NextLemmas.{first_key_at}
use Rattle.clr_grid.proofs.next_cells.next_key.Goals as goal

pub returns-in-Some : goal.returns-in-Some
returns-in-Some c =
    subst (λ (r : List CellId). IsNextOf (λ q. is_one_of c.args.cells.now.keys q ≡ true) c.args.after (slice_get r 0)) c.in-Some.ensures.steps
    (first_key_at c.args.after c.bound_behind.result c.args.cells.now c.range.result c.bound_behind.ensures (c.range.ensures.in_range tt))

pub returns-in-None : goal.returns-in-None
returns-in-None c =
    subst (λ (r : List CellId). IsNextOf (λ q. is_one_of c.args.cells.now.keys q ≡ true) c.args.after (slice_get r 0)) c.in-None.ensures.steps.0
    (first_key_at c.args.after c.bound_behind.result c.args.cells.now c.range.result c.bound_behind.ensures (c.range.ensures.in_range tt))
