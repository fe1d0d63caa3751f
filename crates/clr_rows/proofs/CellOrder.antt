-- The order of cells is total, and only equal cells tie.
use Rattle.std.proofs.Common.{ℕ, ℤ, ap}
use Rattle.std.specs.Ordering.{nat_cmp, int_cmp}
use Rattle.std.specs.Cmp.{IsTotalOrder}
use Rattle.std.specs.FinMap.{IsAntisymmetric}
use Rattle.std.proofs.lemmas.Cmp.{then_total, on_total, nat_cmp_total, int_cmp_total}
use Rattle.std.proofs.lemmas.Map.Lookups.{exact_pairs, exact_signed, exact_unsigned}
use Rattle.clr_rows.specs.declared.cells.CellId.{CellId}
use Rattle.clr_rows.specs.Cells.{cell_cmp}

pub cell_cmp_total : IsTotalOrder cell_cmp
cell_cmp_total = then_total (on_total (λ (c : CellId). c.table) nat_cmp_total) (on_total (λ (c : CellId). c.key) int_cmp_total)

pub cell_cmp_exact : IsAntisymmetric cell_cmp
cell_cmp_exact a b e =
    let same = exact_pairs nat_cmp int_cmp exact_unsigned exact_signed (a.table, a.key) (b.table, b.key) e in
    ap (λ (p : ℕ × ℤ). let c : CellId = record { table = p.0; key = p.1 } in c) same
