use Rattle.std.proofs.Common.{◌≡◌, ◌∙◌, ◌++◌, ap, inl, option_to_list, subst, sym, true}
use Rattle.std.specs.FinSet as set
use Rattle.clr_rows.proofs.CellOrder.{cell_cmp_total}
use Rattle.clr_grid.specs.CellSets.{Cells}
use Rattle.clr_grid.specs.Gains.{GainsCells}
use Rattle.clr_rows.proofs.BeginningLaws.{on_err}
use Rattle.clr_grid.proofs.GainLemmas.{both_gain, both_has}
use Rattle.clr_grid.proofs.spot_cells.SpotCells.add_to.Goals as goal

pub returns-clause-ok : goal.returns-clause-ok
returns-clause-ok c =
    let first = option_to_list c.self.inside.first in
    let keys = c.self.inside.others.keys in
    both_has c.args.cells.now c.add_some.new.self c.add_keys.new.self first keys (set.contains c.args.self.now) c.in_ok-add_some.ensures.ok
    (λ q. sym (set.contains-from_list cell_cmp_total (first ++ keys) q) ∙ ap (λ (m : Cells). set.contains m q) c.self.view_is) c.in_ok-add_keys.ensures.ok

pub returns-in_err-add_some-clause-err : goal.returns-in_err-add_some-clause-err
returns-in_err-add_some-clause-err c =
    on_err _ (subst (GainsCells (λ q. set.contains c.args.self.now q ≡ true) c.args.cells.now) (sym c.in_err-add_some.ensures.err)
    (record { kept = λ q e. e; only = λ q e. inl e }))

pub returns-in_err-add_keys-clause-err : goal.returns-in_err-add_keys-clause-err
returns-in_err-add_keys-clause-err c =
    let first = option_to_list c.self.inside.first in
    let keys = c.self.inside.others.keys in
    on_err _ (both_gain c.args.cells.now c.add_some.new.self c.add_keys.new.self first keys (set.contains c.args.self.now) c.in_ok-add_some.ensures.ok
    (λ q. sym (set.contains-from_list cell_cmp_total (first ++ keys) q) ∙ ap (λ (m : Cells). set.contains m q) c.self.view_is) c.in_err-add_keys.ensures.err)
