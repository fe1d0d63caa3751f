-- The number near a share of a way, which a division gives.
use Rattle.std.proofs.Common.{◌≡◌, ◌≢◌, ℕ, suc, ℤ, pos, neg_ℤ, ◌+ℤ◌, ◌-ℤ◌, ◌*ℤ◌, ◌+◌, ◌*◌, ◌<◌, ◌≤◌, ◌∙◌, unsigned_abs, arith, ap, sym, subst, mul-le-mul, mul-le-mul_left}
use Rattle.std.proofs.lemmas.Int.{by_lt_z, quot-rem, rem_below, unsigned_abs-mul}
use Rattle.std.specs.Prelude.{int_div, int_rem}
use borrow.Author.Differences.{abs_is}
use Rattle.clr_rows.specs.declared.limits.TheConstants.{GREATEST_COORDINATE}
use Rattle.clr_segments.specs.Segments.{part_way}
use Rattle.clr_segments.proofs.Integers.{linear, expand, size-neg, size-sub}
use Rattle.clr_whereabouts.specs.Crossings.{IsNumberNear, IsShare, greatest_reach}

-- what a division leaves, against the share
left_over : (k s D N u q r : ℤ) → s *ℤ D ≡ k *ℤ N → q *ℤ D +ℤ r ≡ u *ℤ N → D *ℤ (k *ℤ q -ℤ s *ℤ u) ≡ neg_ℤ (r *ℤ k)
left_over k s D N u q r share division =
    let by_u = simp expand at (ap (λ (z : ℤ). u *ℤ z) share) in
    let by_k = simp expand at (ap (λ (z : ℤ). k *ℤ z) division) in
    simp expand (omega (arith, linear, by_u, by_k))

-- a number is less than k where D times it is r times k, and r is less than D
less_than_k : (D k z r : ℕ) → 0 < k → r < D → D * z ≡ r * k → z < k
less_than_k D k z r positive small e =
    let more : suc r * k ≤ D * k = mul-le-mul (omega arith) (omega arith) in
    by_lt_z (pos z) (pos k)
    (λ less. omega (arith, linear, less))
    (λ at_least. let whole : D * k ≤ D * z = mul-le-mul_left D (omega (arith, linear, at_least)) in absurd (omega (arith, more, whole, e, positive)))

near_share : (k s : ℕ) (D N u q r : ℤ) → 0 < k → unsigned_abs r < unsigned_abs D → pos s *ℤ D ≡ pos k *ℤ N → q *ℤ D +ℤ r ≡ u *ℤ N
    → unsigned_abs (pos k *ℤ q -ℤ pos s *ℤ u) < k
near_share k s D N u q r positive small share division =
    less_than_k (unsigned_abs D) k (unsigned_abs (pos k *ℤ q -ℤ pos s *ℤ u)) (unsigned_abs r) positive small
    (sym (unsigned_abs-mul D (pos k *ℤ q -ℤ pos s *ℤ u)) ∙ ap unsigned_abs (left_over (pos k) (pos s) D N u q r share division) ∙ size-neg (r *ℤ pos k)
    ∙ unsigned_abs-mul r (pos k))

size_positive : (D : ℤ) → D ≢ pos 0 → 0 < unsigned_abs D
size_positive D n = omega (arith, linear, abs_is)

-- ---- the number that the quotient leads to from the first end
abbrev pub quotient : ℤ → ℤ → ℤ → ℤ → ℤ
quotient from to n D = int_div ((to -ℤ from) *ℤ n) D

near_quotient : (d s : ℕ) (from to n D : ℤ) → IsShare d s n D → unsigned_abs (pos d *ℤ quotient from to n D -ℤ pos s *ℤ (to -ℤ from)) < d
near_quotient d s from to n D h =
    near_share d s D n (to -ℤ from) (quotient from to n D) (int_rem ((to -ℤ from) *ℤ n) D) h.positive
    (rem_below ((to -ℤ from) *ℤ n) D (size_positive D h.divides)) h.equal (quot-rem ((to -ℤ from) *ℤ n) D)

same_offset : (d s : ℕ) (from to q : ℤ) → pos d *ℤ (from +ℤ q) -ℤ part_way d s from to ≡ pos d *ℤ q -ℤ pos s *ℤ (to -ℤ from)
same_offset d s from to q = simp expand (omega (arith, linear))

pub number_near : (d s : ℕ) (from to n D : ℤ) → IsShare d s n D → IsNumberNear d s from to (from +ℤ quotient from to n D)
number_near d s from to n D h = subst (λ (z : ℤ). unsigned_abs z < d) (sym (same_offset d s from to (quotient from to n D))) (near_quotient d s from to n D h)

-- ---- it is no farther from the first end than the other end is
size_parts : (a b : ℤ) → unsigned_abs a ≤ unsigned_abs (a -ℤ b) + unsigned_abs b
size_parts a b = omega (arith, linear, abs_is)

no_farther : (d s x y z : ℕ) → s ≤ d → z < d → d * x ≤ z + s * y → x ≤ y
no_farther d s x y z on_way near parts =
    let shorter : s * y ≤ d * y = mul-le-mul on_way (omega arith) in
    by_lt_z (pos y) (pos x)
    (λ less. let farther : d * suc y ≤ d * x = mul-le-mul_left d (omega (arith, linear, less)) in absurd (omega (arith, farther, parts, shorter, near)))
    (λ at_most. omega (arith, linear, at_most))

pub quotient_bound : (d s : ℕ) (from to n D : ℤ) → IsShare d s n D → unsigned_abs (quotient from to n D) ≤ unsigned_abs (to -ℤ from)
quotient_bound d s from to n D h =
    let q = quotient from to n D in
    let u = to -ℤ from in
    let over : unsigned_abs (pos d *ℤ q) ≡ d * unsigned_abs q = unsigned_abs-mul (pos d) q in
    let under : unsigned_abs (pos s *ℤ u) ≡ s * unsigned_abs u = unsigned_abs-mul (pos s) u in
    no_farther d s (unsigned_abs q) (unsigned_abs u) (unsigned_abs (pos d *ℤ q -ℤ pos s *ℤ u)) h.on_way (near_quotient d s from to n D h)
    (omega (arith, over, under, size_parts (pos d *ℤ q) (pos s *ℤ u)))

size_add : (a b : ℤ) → unsigned_abs (a +ℤ b) ≤ unsigned_abs a + unsigned_abs b
size_add a b = omega (arith, linear, abs_is)

pub in_reach : (from to q : ℤ) → unsigned_abs from ≤ GREATEST_COORDINATE → unsigned_abs to ≤ GREATEST_COORDINATE → unsigned_abs q ≤ unsigned_abs (to -ℤ from)
    → unsigned_abs (from +ℤ q) ≤ greatest_reach
in_reach from to q h k small = omega (arith, size-sub to from, size_add from q, small)
