-- The order of spots is total, and only spots that are the same tie. The impls of `Eq` and `Ord` cite these.
use Rattle.std.proofs.Common.{◌≡◌, true, ℤ, refl, sym, ap, subst}
use Rattle.std.specs.Prelude.{Decides}
use Rattle.std.specs.Cmp.{IsTotalOrder, IsEquivalence, Equal-is, both_ways}
use Rattle.std.specs.Cmp.Lexicographic.{slice_cmp, lists_total, nat_list_cmp_total}
use Rattle.std.specs.FinMap.{IsAntisymmetric, slice_cmp-IsAntisymmetric}
use Rattle.std.specs.Ordering.{int_cmp, int_eq, eq_by_cmp, is_lt, is_gt, ordering_then, ordering_reverse}
use Rattle.std.specs.declared.cmp.Ordering.TheVariants.{Less, Equal}
use Rattle.std.proofs.lemmas.Bool.{and_parts, and_from, true≢false}
use Rattle.std.proofs.lemmas.Bool.Decides.{Decides-int_eq}
use Rattle.std.proofs.lemmas.Cmp.{then_total, on_total, int_cmp_total, tied_itself}
use Rattle.std.proofs.lemmas.Map.Lookups.{exact_pairs, exact_signed, exact_bytes}
use Rattle.clr_rows.specs.declared.rows.Value.{Value}
use Rattle.clr_rows.specs.declared.rows.Value.TheVariants.{Int, Words}
use Rattle.clr_rows.proofs.SameLemmas.{values_are, values_same}
use Rattle.clr_spots.specs.declared.spots.Spot.{Spot}
use Rattle.clr_spots.specs.declared.spots.Spot.TheVariants.{Square, Values}
use Rattle.clr_spots.specs.SpotOrder.{value_cmp, spot_cmp, same_spot}

-- ---- values
value_back : (a b : Value) → value_cmp a b ≡ ordering_reverse (value_cmp b a)
value_back (Int a) (Int b) = int_cmp_total.antisymm a b
value_back (Int a) (Words b) = refl
value_back (Words a) (Int b) = refl
value_back (Words a) (Words b) = nat_list_cmp_total.antisymm a b

value_trans : (a b c : Value) → value_cmp a b ≡ Less → value_cmp b c ≡ Less → value_cmp a c ≡ Less
value_trans (Int a) (Int b) (Int c) p q = int_cmp_total.trans a b c p q
value_trans (Int a) b (Words c) p q = refl
value_trans (Int a) (Words b) (Int c) p q = absurd (true≢false (ap is_gt q))
value_trans (Words a) (Int b) c p q = absurd (true≢false (ap is_gt p))
value_trans (Words a) (Words b) (Int c) p q = absurd (true≢false (ap is_gt q))
value_trans (Words a) (Words b) (Words c) p q = nat_list_cmp_total.trans a b c p q

value_congr : (a b c : Value) → value_cmp a b ≡ Equal → value_cmp a c ≡ value_cmp b c
value_congr (Int a) (Int b) (Int c) p = int_cmp_total.congr a b c p
value_congr (Int a) (Int b) (Words c) p = refl
value_congr (Int a) (Words b) c p = absurd (true≢false (ap is_lt p))
value_congr (Words a) (Int b) c p = absurd (true≢false (ap is_gt p))
value_congr (Words a) (Words b) (Int c) p = refl
value_congr (Words a) (Words b) (Words c) p = nat_list_cmp_total.congr a b c p

pub value_cmp_total : IsTotalOrder value_cmp
value_cmp_total = record { antisymm = value_back; trans = value_trans; congr = value_congr }

value_exact : IsAntisymmetric value_cmp
value_exact (Int a) (Int b) e = ap Int (exact_signed a b e)
value_exact (Int a) (Words b) e = absurd (true≢false (ap is_lt e))
value_exact (Words a) (Int b) e = absurd (true≢false (ap is_gt e))
value_exact (Words a) (Words b) e = ap Words (exact_bytes a b e)

-- ---- spots
pairs_total : IsTotalOrder (λ (p q : ℤ × ℤ). ordering_then (int_cmp p.0 q.0) (int_cmp p.1 q.1))
pairs_total = then_total (on_total (λ (p : ℤ × ℤ). p.0) int_cmp_total) (on_total (λ (p : ℤ × ℤ). p.1) int_cmp_total)

lists_of_values_total : IsTotalOrder (slice_cmp value_cmp)
lists_of_values_total = lists_total value_cmp_total

spot_back : (a b : Spot) → spot_cmp a b ≡ ordering_reverse (spot_cmp b a)
unfolding spot_cmp
spot_back (Square i j) (Square k l) = pairs_total.antisymm (i, j) (k, l)
spot_back (Square i j) (Values b) = refl
spot_back (Values a) (Square k l) = refl
spot_back (Values a) (Values b) = lists_of_values_total.antisymm a b

spot_trans : (a b c : Spot) → spot_cmp a b ≡ Less → spot_cmp b c ≡ Less → spot_cmp a c ≡ Less
unfolding spot_cmp
spot_trans (Square i j) (Square k l) (Square m n) p q = pairs_total.trans (i, j) (k, l) (m, n) p q
spot_trans (Square i j) b (Values c) p q = refl
spot_trans (Square i j) (Values b) (Square m n) p q = absurd (true≢false (ap is_gt q))
spot_trans (Values a) (Square k l) c p q = absurd (true≢false (ap is_gt p))
spot_trans (Values a) (Values b) (Square m n) p q = absurd (true≢false (ap is_gt q))
spot_trans (Values a) (Values b) (Values c) p q = lists_of_values_total.trans a b c p q

spot_congr : (a b c : Spot) → spot_cmp a b ≡ Equal → spot_cmp a c ≡ spot_cmp b c
unfolding spot_cmp
spot_congr (Square i j) (Square k l) (Square m n) p = pairs_total.congr (i, j) (k, l) (m, n) p
spot_congr (Square i j) (Square k l) (Values c) p = refl
spot_congr (Square i j) (Values b) c p = absurd (true≢false (ap is_lt p))
spot_congr (Values a) (Square k l) c p = absurd (true≢false (ap is_gt p))
spot_congr (Values a) (Values b) (Square m n) p = refl
spot_congr (Values a) (Values b) (Values c) p = lists_of_values_total.congr a b c p

pub spot_cmp_total : IsTotalOrder spot_cmp
spot_cmp_total = record { antisymm = spot_back; trans = spot_trans; congr = spot_congr }

pub spot_cmp_exact : IsAntisymmetric spot_cmp
unfolding spot_cmp
spot_cmp_exact (Square i j) (Square k l) e = ap (λ (p : ℤ × ℤ). Square p.0 p.1) (exact_pairs int_cmp int_cmp exact_signed exact_signed (i, j) (k, l) e)
spot_cmp_exact (Square i j) (Values b) e = absurd (true≢false (ap is_lt e))
spot_cmp_exact (Values a) (Square k l) e = absurd (true≢false (ap is_gt e))
spot_cmp_exact (Values a) (Values b) e = ap Values (slice_cmp-IsAntisymmetric value_exact a b e)

-- ---- sameness
pub same_spot_is : (a b : Spot) → same_spot a b ≡ true → a ≡ b
unfolding same_spot
same_spot_is (Square i j) (Square k l) e =
    let parts = and_parts (int_eq i k) (int_eq j l) e in
    let first = (Decides-int_eq i k).0 parts.0 in
    let second = (Decides-int_eq j l).0 parts.1 in
    λ n. Square (first n) (second n)
same_spot_is (Square i j) (Values b) e = absurd (true≢false (sym e))
same_spot_is (Values a) (Square k l) e = absurd (true≢false (sym e))
same_spot_is (Values a) (Values b) e = ap Values (values_are a b e)

pub same_spot_itself : (a : Spot) → same_spot a a ≡ true
unfolding same_spot
same_spot_itself (Square i j) = and_from _ _ ((Decides-int_eq i i).1 refl) ((Decides-int_eq j j).1 refl)
same_spot_itself (Values a) = values_same a

pub same_spot_decides : (a b : Spot) → Decides (same_spot a b) (a ≡ b)
same_spot_decides a b = (same_spot_is a b, λ e. subst (λ c. same_spot a c ≡ true) e (same_spot_itself a))

tied_same : (a b : Spot) → a ≡ b → eq_by_cmp spot_cmp a b ≡ true
tied_same a b e = subst (λ c. eq_by_cmp spot_cmp a c ≡ true) e ((Equal-is (spot_cmp a a)).1 (tied_itself spot_cmp_total a))

-- spots tie exactly where they are the same
pub spots_tie : (a b : Spot) → same_spot a b ≡ eq_by_cmp spot_cmp a b
spots_tie a b = both_ways (same_spot a b) (eq_by_cmp spot_cmp a b)
    (λ e. tied_same a b (same_spot_is a b e))
    (λ e. (same_spot_decides a b).1 (spot_cmp_exact a b ((Equal-is (spot_cmp a b)).0 e)))

pub same_spot_equiv : IsEquivalence same_spot
same_spot_equiv = record {
  refl = same_spot_itself;
  symm = λ a b. both_ways (same_spot a b) (same_spot b a)
      (λ e. (same_spot_decides b a).1 (sym (same_spot_is a b e)))
      (λ e. (same_spot_decides a b).1 (sym (same_spot_is b a e)));
  congr = λ a b c e. ap (λ s. same_spot s c) (same_spot_is a b e);
}
