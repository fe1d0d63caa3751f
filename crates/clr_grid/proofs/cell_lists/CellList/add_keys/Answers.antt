use Rattle.std.proofs.Common.{◌≡◌, ◌∙◌, ◌∷◌, List, ap, rules, subst, sym, true}
use Rattle.std.specs.FinSet as set
use Rattle.clr_rows.specs.declared.cells.CellId.{CellId}
use Rattle.clr_grid.specs.CellSets.{Cells, with_listed_cells}
use Rattle.clr_finders.specs.CellLists.{is_one_of}
use Rattle.clr_grid.specs.Gains.{GainsCells}
use Rattle.clr_rows.proofs.BeginningLaws.{on_err}
use Rattle.clr_grid.proofs.GainLemmas.{IsAddedTo, added_gains, added_next}
use Rattle.clr_grid.proofs.SetLemmas.{has_with_cells}
use Rattle.clr_grid.proofs.cell_lists.CellList.add_keys.Goals as goal

pub returns-clause-ok : goal.returns-clause-ok
returns-clause-ok c q =
    let same : c.loop-cell.self ≡ with_listed_cells c.args.self.now c.args.cells.now.keys = search rules in
    ap (λ (m : Cells). set.contains m q) same ∙ has_with_cells c.args.cells.now.keys c.args.self.now q

pub loop-cell-preserved : goal.loop-cell-preserved
loop-cell-preserved c =
    let old = c.args.self.now in
    let all = c.into_iter-cell-iterator.result in
    let left = c.next.new.self in
    let rest : c.loop-cell.cell-iterator ≡ c.in-Some.cell.now ∷ left = search rules in
    record {
      whole = search rules;
      so_far = subst (λ (n : Cells). IsAddedTo old all n left) (sym c.in_ok-add.ensures.ok)
          (added_next old all c.loop-cell.self c.in-Some.cell.now left
          (subst (λ (cells : List CellId). IsAddedTo old all c.loop-cell.self cells) rest c.loop-cell.invariant.so_far));
    }

pub returns-in_err-add-clause-err : goal.returns-in_err-add-clause-err
returns-in_err-add-clause-err c =
    let old = c.args.self.now in
    let keys = c.args.cells.now.keys in
    let all = c.into_iter-cell-iterator.result in
    let same : all ≡ keys = search rules in
    on_err _ (subst (GainsCells (λ q. is_one_of keys q ≡ true) old) (sym c.in_err-add.ensures.err)
    (added_gains old all c.loop-cell.self c.loop-cell.cell-iterator (is_one_of keys) (λ q. ap (λ (cells : List CellId). is_one_of cells q) same)
    c.loop-cell.invariant.so_far))
