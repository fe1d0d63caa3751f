use Rattle.std.proofs.Common.{◌≡◌, ◌∙◌, ◌&&◌, ap, sym, true}
use Rattle.std.proofs.lemmas.Bool.{and_parts, true≢false}
use Rattle.std.specs.FinSet as set
use Rattle.clr_rows.proofs.CellOrder.{cell_cmp_total}
use Rattle.clr_finders.proofs.NextLemmas.{next_as, next_none}
use Rattle.clr_grid.specs.CellSets.{Cells}
use Rattle.clr_finders.specs.CellLists.{is_one_of}
use Rattle.clr_grid.proofs.cell_sets.CellSet.next_if.Goals as goal

pub returns-then-test : goal.returns-then-test
returns-then-test c =
    let keys = c.self.inside.cells.keys in
    next_as c.args.after (λ q. is_one_of keys q ≡ true) (λ q. (c.args.test && set.contains c.args.self.now q) ≡ true) c.next_key.result
    (λ q e. sym (set.contains-from_list cell_cmp_total keys q) ∙ ap (λ (m : Cells). set.contains m q) c.self.view_is
    ∙ (and_parts c.args.test (set.contains c.args.self.now q) e).1) c.next_key.ensures

pub returns-else-test : goal.returns-else-test
returns-else-test c =
    next_none c.args.after (λ q. (c.args.test && set.contains c.args.self.now q)
    ≡ true) (λ q e. true≢false (sym (and_parts c.args.test (set.contains c.args.self.now q) e).0 ∙ c.if-test.false))
