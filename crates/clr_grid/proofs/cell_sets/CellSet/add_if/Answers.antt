use Rattle.std.proofs.Common.{inl, inr, ◌∙◌, ap, sym}
use Rattle.std.specs.FinSet as set
use Rattle.clr_grid.specs.CellSets.{Cells}
use Rattle.clr_grid.proofs.FilingLemmas.{insert_keeps, insert_has, insert_only}
use Rattle.clr_grid.proofs.cell_sets.CellSet.add_if.Goals as goal

pub returns-in_ok-add-clause-kept : goal.returns-in_ok-add-clause-kept
returns-in_ok-add-clause-kept c q e = ap (λ (m : Cells). set.contains m q) c.in_ok-add.ensures.ok ∙ insert_keeps c.args.self.now c.args.cell q e

pub returns-in_ok-add-clause-added : goal.returns-in_ok-add-clause-added
returns-in_ok-add-clause-added c test = ap (λ (m : Cells). set.contains m c.args.cell) c.in_ok-add.ensures.ok ∙ insert_has c.args.self.now c.args.cell

pub returns-in_ok-add-clause-only : goal.returns-in_ok-add-clause-only
returns-in_ok-add-clause-only c q e = elim (insert_only c.args.self.now c.args.cell q (sym (ap (λ (m : Cells). set.contains m q) c.in_ok-add.ensures.ok) ∙ e)) [
  | inl old ↦ inl old
  | inr one ↦ inr (one, c.if-test.true)
]

pub returns-in_err-add-clause-only : goal.returns-in_err-add-clause-only
returns-in_err-add-clause-only c q e = inl (sym (ap (λ (m : Cells). set.contains m q) c.in_err-add.ensures.err) ∙ e)

pub returns-else-test-clause-only : goal.returns-else-test-clause-only
returns-else-test-clause-only c q e = inl e
