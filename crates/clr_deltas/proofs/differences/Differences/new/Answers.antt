use Rattle.std.proofs.Common.{ap, subst, sym, ◌∙◌}
use Rattle.clr_rows.proofs.CellOrder.{cell_cmp_total, cell_cmp_exact}
use Rattle.clr_rows.proofs.SortedMaps.{from_sorted-empty}
use Rattle.clr_deltas.specs.Differences.{AreSorted, differences_of}
use Rattle.clr_deltas.proofs.differences.Differences.new.Goals as goal

pub invariant_of-result : goal.invariant_of-result
invariant_of-result c = subst AreSorted (sym c.new.ensures.empty) tt

pub returns : goal.returns
returns c = ap differences_of c.new.ensures.empty ∙ from_sorted-empty cell_cmp_total cell_cmp_exact
