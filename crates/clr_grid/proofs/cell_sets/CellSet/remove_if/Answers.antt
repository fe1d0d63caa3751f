use Rattle.std.proofs.Common.{◌∙◌, ap, sym}
use Rattle.std.specs.FinSet as set
use Rattle.clr_grid.specs.CellSets.{Cells}
use Rattle.clr_grid.proofs.FilingLemmas.{remove_keeps, remove_fewer, remove_gone, is_not_one}
use Rattle.clr_grid.proofs.cell_sets.CellSet.remove_if.Goals as goal

pub returns-then-test-clause-kept : goal.returns-then-test-clause-kept
returns-then-test-clause-kept c q p e = ap (λ (m : Cells). set.contains m q) c.remove.ensures
    ∙ remove_keeps c.args.self.now c.args.cell q (is_not_one c.args.cell q c.args.test p c.if-test.true) e

pub returns-then-test-clause-fewer : goal.returns-then-test-clause-fewer
returns-then-test-clause-fewer c q e = remove_fewer c.args.self.now c.args.cell q (sym (ap (λ (m : Cells). set.contains m q) c.remove.ensures) ∙ e)

pub returns-then-test-clause-gone : goal.returns-then-test-clause-gone
returns-then-test-clause-gone c test = ap (λ (m : Cells). set.contains m c.args.cell) c.remove.ensures ∙ remove_gone c.args.self.now c.args.cell
