-- The lines through two parts cross at the point that is common to both, where they aren't parallel.
use Rattle.std.proofs.Common.{◌≡◌, ◌≢◌, ℕ, zero, suc, ℤ, pos, ◌+ℤ◌, ◌-ℤ◌, ◌*ℤ◌, ◌*◌, ◌<◌, ◌≤◌, ◌∙◌, unsigned_abs, arith, ap, sym, refl, mul-le-mul_left}
use Rattle.std.proofs.lemmas.Int.{quot-rem, rem_below, unsigned_abs-mul, int_min_is, int_max_is}
use Rattle.std.specs.Prelude.{int_div, int_rem, ◌≤ℤ◌}
use Rattle.std.specs.Int.{int_min, int_max}
use borrow.Author.Differences.{abs_is}
use Rattle.clr_rows.specs.declared.limits.TheConstants.{GREATEST_COORDINATE}
use Rattle.clr_rows.specs.declared.places.Place.{Place}
use Rattle.clr_rows.specs.Places.{InRange}
use Rattle.clr_segments.specs.Segments.{LiesOn}
use Rattle.clr_segments.proofs.Integers.{linear, expand}
use Rattle.clr_segments.proofs.PointLemmas.{point_boxed, point_on_line}
use Rattle.clr_segments.proofs.Shares.{det}
use Rattle.clr_phrases.specs.Crossings.{IsCoordinateAt, product_of_ways}

-- ---- a division without rest
below_one : (d n : ℕ) → d * n < d → n ≡ 0
below_one d zero h = refl
below_one d (suc n) h = let more : d * 1 ≤ d * suc n = mul-le-mul_left d (omega arith) in absurd (omega (arith, more))

-- a multiple of D that is smaller than D is 0
small_multiple : (D z r : ℤ) → unsigned_abs r < unsigned_abs D → D *ℤ z ≡ r → z ≡ pos 0
small_multiple D z r small e =
    let size : unsigned_abs D * unsigned_abs z ≡ unsigned_abs r = sym (unsigned_abs-mul D z) ∙ ap unsigned_abs e in
    let none : unsigned_abs z ≡ 0 = below_one (unsigned_abs D) (unsigned_abs z) (rw size small) in
    omega (arith, linear, abs_is)

rest_of_multiple : (D y q r : ℤ) → q *ℤ D +ℤ r ≡ D *ℤ y → D *ℤ (y -ℤ q) ≡ r
rest_of_multiple D y q r e = let parts = simp expand at e in simp expand (omega (arith, linear, parts))

same_if_no_rest : (y q : ℤ) → y -ℤ q ≡ pos 0 → q ≡ y
same_if_no_rest y q e = omega (arith, linear)

size_positive : (D : ℤ) → D ≢ pos 0 → 0 < unsigned_abs D
size_positive D n = omega (arith, linear, abs_is)

pub exact_division : (S D y : ℤ) → D ≢ pos 0 → S ≡ D *ℤ y → int_div S D ≡ y
exact_division S D y divides e =
    same_if_no_rest y (int_div S D)
    (small_multiple D (y -ℤ int_div S D) (int_rem S D) (rem_below S D (size_positive D divides))
    (rest_of_multiple D y (int_div S D) (int_rem S D) (quot-rem S D ∙ e)))

-- ---- the common point of two lines, by vectors: u and v along them, w between their beginnings, z from the second's
module _ (ux uy vx vy wx wy zx zy : ℤ) (first : det ux uy (wx +ℤ zx) (wy +ℤ zy) ≡ pos 0) (second : det vx vy zx zy ≡ pos 0) where
  crossing_in_x : det ux uy vx vy *ℤ (wx +ℤ zx) ≡ det wx wy vx vy *ℤ ux
  crossing_in_x =
      let by_vx = simp expand at (ap (λ (n : ℤ). vx *ℤ n) first) in
      let by_ux = simp expand at (ap (λ (n : ℤ). ux *ℤ n) second) in
      simp expand (omega (arith, linear, by_vx, by_ux))

  crossing_in_y : det ux uy vx vy *ℤ (wy +ℤ zy) ≡ det wx wy vx vy *ℤ uy
  crossing_in_y =
      let by_vy = simp expand at (ap (λ (n : ℤ). vy *ℤ n) first) in
      let by_uy = simp expand at (ap (λ (n : ℤ). uy *ℤ n) second) in
      simp expand (omega (arith, linear, by_vy, by_uy))

two_ways : (a c p : ℤ) → p -ℤ a ≡ (c -ℤ a) +ℤ (p -ℤ c)
two_ways a c p = omega (arith, linear)

-- ---- ranges
within : (x p q : ℤ) → unsigned_abs p ≤ GREATEST_COORDINATE → unsigned_abs q ≤ GREATEST_COORDINATE
    → int_min p q ≤ℤ x → x ≤ℤ int_max p q → unsigned_abs x ≤ GREATEST_COORDINATE
within x p q h k least most = omega (arith, linear, abs_is, int_min_is p q, int_max_is p q)

-- a place on a part is in range
pub in_range_of_part : (p a b : Place) → InRange a → InRange b → LiesOn p a b → InRange p
in_range_of_part p a b in_a in_b on =
    let box = point_boxed p a b on in
    record { in_x = within p.x a.x b.x in_a.in_x in_b.in_x box.0.0 box.0.1; in_y = within p.y a.y b.y in_a.in_y in_b.in_y box.1.0 box.1.1 }

-- ---- the place on both parts, by its coordinates
module _ (p a b c d : Place) (in_p : InRange p) (first : LiesOn p a b) (second : LiesOn p c d) (slanted : product_of_ways a b c d ≢ pos 0) where
  on_first : det (b.x -ℤ a.x) (b.y -ℤ a.y) ((c.x -ℤ a.x) +ℤ (p.x -ℤ c.x)) ((c.y -ℤ a.y) +ℤ (p.y -ℤ c.y)) ≡ pos 0
  on_first = rw (← two_ways a.x c.x p.x, ← two_ways a.y c.y p.y) (point_on_line p a b first)

  pub crossing_x : IsCoordinateAt a.x b.x (product_of_ways a c c d) (product_of_ways a b c d) p.x
  crossing_x = record {
    in_range = in_p.in_x;
    divides = slanted;
    share = rw (two_ways a.x c.x p.x)
        (crossing_in_x (b.x -ℤ a.x) (b.y -ℤ a.y) (d.x -ℤ c.x) (d.y -ℤ c.y) (c.x -ℤ a.x) (c.y -ℤ a.y) (p.x -ℤ c.x) (p.y -ℤ c.y)
        on_first (point_on_line p c d second));
  }

  pub crossing_y : IsCoordinateAt a.y b.y (product_of_ways a c c d) (product_of_ways a b c d) p.y
  crossing_y = record {
    in_range = in_p.in_y;
    divides = slanted;
    share = rw (two_ways a.y c.y p.y)
        (crossing_in_y (b.x -ℤ a.x) (b.y -ℤ a.y) (d.x -ℤ c.x) (d.y -ℤ c.y) (c.x -ℤ a.x) (c.y -ℤ a.y) (p.x -ℤ c.x) (p.y -ℤ c.y)
        on_first (point_on_line p c d second));
  }
