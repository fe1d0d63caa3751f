-- Cells, and their order.
use Rattle.std.specs.Prelude.{ℕ, ℤ, refl}
use Rattle.std.specs.Ordering.{nat_cmp, int_cmp, ordering_then}
use Rattle.std.specs.declared.cmp.Ordering.{Ordering}
use Rattle.std.specs.Coded.{Coded, code_by, coded×, coded_ℕ, coded_ℤ}
use Rattle.clr_rows.specs.declared.cells.CellId.{CellId}

-- cells are ordered by table, then by key
abbrev pub cell_cmp : CellId → CellId → Ordering
cell_cmp a b = ordering_then (nat_cmp a.table b.table) (int_cmp a.key b.key)

abbrev pub coded_cell : Coded CellId
coded_cell = code_by (ℕ × ℤ) (coded× coded_ℕ coded_ℤ) (λ c. (c.table, c.key)) (λ p. record { table = p.0; key = p.1 }) (λ _. refl)
