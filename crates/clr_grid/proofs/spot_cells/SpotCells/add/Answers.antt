use Rattle.std.proofs.Common.{◌∙◌, ap, sym}
use Rattle.std.specs.FinSet as set
use Rattle.std.specs.Ordering.{is_eq}
use Rattle.clr_grid.specs.CellSets.{Cells}
use Rattle.clr_grid.proofs.SetLemmas.{one_more, one_there}
use Rattle.clr_grid.proofs.spot_cells.SpotCells.add.Goals as goal

pub returns-then-is_eq-clause-ok : goal.returns-then-is_eq-clause-ok
returns-then-is_eq-clause-ok c =
    sym c.self.view_is
    ∙ one_there c.self.inside.first c.in-Some.first c.args.cell c.self.inside.others.keys c.in-Some.is (sym (c.is_eq.ensures ∙ ap is_eq c.cmp.ensures)
    ∙ c.if-is_eq.true)
    ∙ ap (λ (m : Cells). set.insert m c.args.cell) c.self.view_is

pub returns-clause-ok : goal.returns-clause-ok
returns-clause-ok c =
    one_more c.self.inside.first c.in-Some.first c.args.cell c.self.inside.others.keys c.insert.new.self.keys c.in-Some.is c.in_ok-insert.ensures.updates.0
    ∙ ap (λ (m : Cells). set.insert m c.args.cell) c.self.view_is
