use Rattle.std.proofs.Common.{◌≡◌, ◌∙◌, ◌++◌, ap, option_to_list, sym, true}
use Rattle.std.proofs.lemmas.Bool.{or_cases}
use Rattle.std.proofs.lemmas.List.Folds.{list_any-append}
use Rattle.std.specs.FinSet as set
use Rattle.std.specs.Ordering.{eq_by_cmp}
use Rattle.clr_rows.specs.Cells.{cell_cmp}
use Rattle.clr_rows.proofs.CellOrder.{cell_cmp_total}
use Rattle.clr_finders.proofs.NextLemmas.{next_of_two}
use Rattle.clr_grid.specs.CellSets.{Cells}
use Rattle.clr_finders.specs.CellLists.{is_one_of}
use Rattle.clr_grid.proofs.spot_cells.SpotCells.next.Goals as goal

pub returns : goal.returns
returns c =
    let first = option_to_list c.self.inside.first in
    let keys = c.self.inside.others.keys in
    next_of_two c.args.after (λ q. is_one_of first q ≡ true) (λ q. is_one_of keys q ≡ true) (λ q. set.contains c.args.self.now q
    ≡ true) c.next_one.result c.next_key.result c.lesser_cell.result c.lesser_cell.ensures
    (λ q e. or_cases (is_one_of first q) (is_one_of keys q) (sym (list_any-append (eq_by_cmp cell_cmp q) first keys)
    ∙ sym (set.contains-from_list cell_cmp_total (first ++ keys) q)
    ∙ ap (λ (m : Cells). set.contains m q) c.self.view_is ∙ e)) c.next_one.ensures c.next_key.ensures
