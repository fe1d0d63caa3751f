-- The order of needs is total, and versions and needs that tie are one.
use Rattle.std.proofs.Common.{◌≡◌, Bool, true, false, Option, Some, None, pos, refl, ap}
use Rattle.std.specs.Cmp.{IsTotalOrder}
use Rattle.std.specs.Cmp.Lexicographic.{options_total}
use Rattle.std.specs.FinMap.{IsAntisymmetric}
use Rattle.std.specs.Option.{option_cmp}
use Rattle.std.specs.Ordering.{bool_cmp, nat_cmp, ordering_then}
use Rattle.std.specs.declared.cmp.Ordering.{Ordering}
use Rattle.std.specs.declared.cmp.Ordering.TheVariants.{Less, Equal, Greater}
use Rattle.std.proofs.lemmas.Cmp.{then_total, on_total, nat_cmp_total}
use Rattle.std.proofs.lemmas.Map.Lookups.{exact_unsigned}
use Rattle.clr_rows.specs.Cells.{cell_cmp}
use Rattle.clr_rows.proofs.CellOrder.{cell_cmp_exact}
use Rattle.clr_needs.specs.declared.needs.Need.{Need}
use Rattle.clr_needs.specs.declared.needs.VersionId.{VersionId}
use Rattle.clr_needs.specs.Orders.{need_cmp, version_cmp}
use Rattle.clr_needs.proofs.VersionOrder.{version_total}

pub need_total : IsTotalOrder need_cmp
need_total = then_total (on_total (λ (n : Need). n.rule) nat_cmp_total)
    (then_total (on_total (λ (n : Need). n.first) version_total)
    (then_total (on_total (λ (n : Need). n.second) (options_total version_total))
    (then_total (on_total (λ (n : Need). n.first_part) nat_cmp_total) (on_total (λ (n : Need). n.second_part) nat_cmp_total))))

pub both_tie : (o p : Ordering) → ordering_then o p ≡ Equal → (o ≡ Equal) × (p ≡ Equal)
both_tie Less p e = cc
both_tie Equal p e = (refl, e)
both_tie Greater p e = cc

flags_tie : (a b : Bool) → bool_cmp a b ≡ Equal → a ≡ b
flags_tie true true e = refl
flags_tie true false e = cc
flags_tie false true e = cc
flags_tie false false e = refl

pub version_exact : IsAntisymmetric version_cmp
version_exact v w e =
    let (cells, flags) = both_tie (cell_cmp v.cell w.cell) (bool_cmp v.fresh w.fresh) e in
    let cell = cell_cmp_exact v.cell w.cell cells in
    let fresh = flags_tie v.fresh w.fresh flags in
    λ i. record { cell = cell i; fresh = fresh i }

second_exact : (v w : Option VersionId) → option_cmp version_cmp v w ≡ Equal → v ≡ w
second_exact None None e = refl
second_exact None (Some w) e = cc
second_exact (Some v) None e = cc
second_exact (Some v) (Some w) e = ap Some (version_exact v w e)

pub need_exact : IsAntisymmetric need_cmp
need_exact m n e =
    let (rules, later) = both_tie (nat_cmp m.rule n.rule) _ e in
    let (firsts, after) = both_tie (version_cmp m.first n.first) _ later in
    let (seconds, parts) = both_tie (option_cmp version_cmp m.second n.second) _ after in
    let (first_parts, second_parts) = both_tie (nat_cmp m.first_part n.first_part) (nat_cmp m.second_part n.second_part) parts in
    let rule = exact_unsigned m.rule n.rule rules in
    let first = version_exact m.first n.first firsts in
    let second = second_exact m.second n.second seconds in
    let first_part = exact_unsigned m.first_part n.first_part first_parts in
    let second_part = exact_unsigned m.second_part n.second_part second_parts in
    λ i. record { rule = rule i; first = first i; second = second i; first_part = first_part i; second_part = second_part i }

-- what a read past the end of a list would give
abbrev pub unread : Need
unread = record { rule = 0; first = record { cell = record { table = 0; key = pos 0 }; fresh = false }; second = None; first_part = 0; second_part = 0 }
