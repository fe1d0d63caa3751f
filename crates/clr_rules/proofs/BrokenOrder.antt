-- The order of broken needs is total, and only equal ones tie.
use Rattle.std.proofs.Common.{◌≡◌, ℕ, Option, Some, None, refl, ap}
use Rattle.std.specs.Cmp.{IsTotalOrder}
use Rattle.std.specs.Cmp.Lexicographic.{options_total}
use Rattle.std.specs.FinMap.{IsAntisymmetric}
use Rattle.std.specs.Option.{option_cmp}
use Rattle.std.specs.Ordering.{nat_cmp, ordering_then}
use Rattle.std.proofs.lemmas.Cmp.{then_total, on_total, nat_cmp_total}
use Rattle.std.proofs.lemmas.Map.Lookups.{exact_pairs, exact_unsigned}
use Rattle.clr_rows.specs.declared.cells.CellId.{CellId}
use Rattle.clr_rows.specs.Cells.{cell_cmp}
use Rattle.clr_rows.proofs.CellOrder.{cell_cmp_total, cell_cmp_exact}
use Rattle.clr_rules.specs.declared.needs.Broken.{Broken}
use Rattle.clr_rules.specs.Needs.{broken_cmp}

pub broken_total : IsTotalOrder broken_cmp
unfolding broken_cmp
broken_total = then_total (on_total (λ (b : Broken). b.rule) nat_cmp_total)
    (then_total (on_total (λ (b : Broken). b.first) cell_cmp_total)
    (then_total (on_total (λ (b : Broken). b.second) (options_total cell_cmp_total))
    (then_total (on_total (λ (b : Broken). b.first_part) nat_cmp_total) (on_total (λ (b : Broken). b.second_part) nat_cmp_total))))

second_exact : IsAntisymmetric (option_cmp cell_cmp)
second_exact None None e = refl
second_exact None (Some q) e = absurd (cc)
second_exact (Some p) None e = absurd (cc)
second_exact (Some p) (Some q) e = ap Some (cell_cmp_exact p q e)

abbrev Fields : Type 0
Fields = ℕ × (CellId × (Option CellId × (ℕ × ℕ)))

pub broken_exact : IsAntisymmetric broken_cmp
unfolding broken_cmp
broken_exact a b e =
    let parts = exact_pairs nat_cmp nat_cmp exact_unsigned exact_unsigned in
    let seconds = exact_pairs (option_cmp cell_cmp) (λ (x y : ℕ × ℕ). ordering_then (nat_cmp x.0 y.0) (nat_cmp x.1 y.1)) second_exact parts in
    let firsts = exact_pairs cell_cmp (λ (x y : Option CellId × (ℕ × ℕ)). ordering_then (option_cmp cell_cmp x.0 y.0)
    (ordering_then (nat_cmp x.1.0 y.1.0) (nat_cmp x.1.1 y.1.1))) cell_cmp_exact seconds in
    let whole = exact_pairs nat_cmp (λ (x y : CellId × (Option CellId × (ℕ × ℕ))). ordering_then (cell_cmp x.0 y.0)
    (ordering_then (option_cmp cell_cmp x.1.0 y.1.0) (ordering_then (nat_cmp x.1.1.0 y.1.1.0) (nat_cmp x.1.1.1 y.1.1.1)))) exact_unsigned firsts in
    let same : fields a ≡ fields b = whole (fields a) (fields b) e in
    ap made same
  where
    fields : Broken → Fields
    fields b = (b.rule, (b.first, (b.second, (b.first_part, b.second_part))))

    made : Fields → Broken
    made f = record { rule = f.0; first = f.1.0; second = f.1.1.0; first_part = f.1.1.1.0; second_part = f.1.1.1.1 }
