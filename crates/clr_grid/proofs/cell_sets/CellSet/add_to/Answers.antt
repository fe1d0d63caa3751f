use Rattle.std.proofs.Common.{◌≡◌, ◌∙◌, ◌&&◌, ◌||◌, ap, sym, true}
use Rattle.std.specs.FinSet as set
use Rattle.clr_rows.proofs.CellOrder.{cell_cmp_total}
use Rattle.clr_grid.specs.CellSets.{Cells}
use Rattle.clr_finders.specs.CellLists.{is_one_of}
use Rattle.clr_rows.proofs.BeginningLaws.{on_err}
use Rattle.clr_grid.proofs.GainLemmas.{gains_as}
use Rattle.clr_grid.proofs.cell_sets.CellSet.add_to.Goals as goal

pub returns-in_ok-add_keys-clause-ok : goal.returns-in_ok-add_keys-clause-ok
returns-in_ok-add_keys-clause-ok c q =
    let keys = c.self.inside.cells.keys in
    c.in_ok-add_keys.ensures.ok q
    ∙ ap (λ b. set.contains c.args.cells.now q || b) (sym (set.contains-from_list cell_cmp_total keys q) ∙ ap (λ (m : Cells). set.contains m q) c.self.view_is
    ∙ (λ i. (sym c.if-test.true) i && set.contains c.args.self.now q))

pub returns-in_err-add_keys-clause-err : goal.returns-in_err-add_keys-clause-err
returns-in_err-add_keys-clause-err c =
    let keys = c.self.inside.cells.keys in
    on_err _ (gains_as (λ q. (c.args.test && set.contains c.args.self.now q) ≡ true) (λ q. is_one_of keys q ≡ true) c.args.cells.now c.add_keys.new.self
    (λ q e i. c.if-test.true i && (ap (λ (m : Cells). set.contains m q) (sym c.self.view_is) ∙ set.contains-from_list cell_cmp_total keys q ∙ e) i)
    c.in_err-add_keys.ensures.err)
