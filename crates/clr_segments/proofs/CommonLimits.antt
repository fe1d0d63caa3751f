-- Segments with a common point have one by a d of at most the product of their lengths along the axes.
use Rattle.std.proofs.Common.{◌≡◌, ◌≢◌, ℕ, ℤ, pos, ◌-ℤ◌, ◌*ℤ◌, ◌+◌, ◌*◌, ◌<◌, ◌≤◌, ◌≤ℤ◌, ◌<ℤ◌, unsigned_abs, arith, mul-le-mul, mul-add, add-mul, refl}
use Rattle.std.proofs.lemmas.Int.{by_lt_z, int_min_is, int_max_is, unsigned_abs-mul}
use Rattle.std.specs.Int.{int_min, int_max}
use Rattle.clr_rows.specs.declared.places.Place.{Place}
use Rattle.clr_rows.specs.Places.{Differ}
use Rattle.clr_segments.proofs.Integers.{linear, expand, *ℤ-zero, cancel_eq, by_same, size-sub}
use Rattle.clr_segments.proofs.Shares.{det, det-swap, Shares, SomeShares, first_share, second_share, shares_up, shares_down, slanted_once}
use Rattle.clr_segments.proofs.AxisLemmas.{TwoBounded, some_bounded, two_from_two}
use Rattle.clr_segments.proofs.PointLemmas.{between_ends}
use Rattle.clr_segments.proofs.Crossings.{slant, second_turn, to_shares, from_shares, second_long_x, common_x, from_common_x, two_from_common_x, mirror_of}
use Rattle.clr_segments.proofs.Crossings.{mirrored_both, common_mirrored, mirrored_common, two_mirrored}
use Rattle.clr_segments.specs.Segments.{CommonPoint, TwoCommonPoints}
use Rattle.clr_segments.specs.Turns.{cross_product, AreCollinear}
use Rattle.clr_segments.specs.Axis.{TwoCommonNumbers}
use Rattle.clr_segments.specs.Bounding.{Between}
use Rattle.clr_segments.specs.Searches.{axis_distance}

-- a common point by a d of at most so many
abbrev pub SomeWithin : ℕ → Place → Place → Place → Place → Type 0
SomeWithin most p q r u = (d : ℕ) × (s : ℕ) × (t : ℕ) × CommonPoint p q r u d s t × (d ≤ most)

-- two common points that differ, by a d of at most so many
pub record TwoWithin (most : ℕ) (p q r u : Place) : Type 0 where
  pub two : TwoCommonPoints p q r u
  pub one_within : two.d ≤ most
  pub another_within : two.d' ≤ most

-- ---- the product of the lengths along the axes
first_and_first : (a b c d : ℕ) → a * c ≤ (a + b) * (c + d)
first_and_first a b c d = mul-le-mul (omega arith) (omega arith)

second_and_second : (a b c d : ℕ) → b * d ≤ (a + b) * (c + d)
second_and_second a b c d = mul-le-mul (omega arith) (omega arith)

crosswise : (a b c d : ℕ) → a * d + b * c ≤ (a + b) * (c + d)
crosswise a b c d = omega (arith, add-mul a b (c + d), mul-add a c d, mul-add b c d)

det_size : (ux uy vx vy : ℤ) → unsigned_abs (det ux uy vx vy) ≤ (unsigned_abs ux + unsigned_abs uy) * (unsigned_abs vx + unsigned_abs vy)
det_size ux uy vx vy = omega (
  arith,
  size-sub (ux *ℤ vy) (uy *ℤ vx),
  unsigned_abs-mul ux vy,
  unsigned_abs-mul uy vx,
  crosswise (unsigned_abs ux)
      (unsigned_abs uy) (unsigned_abs vx) (unsigned_abs vy),
)

abbrev limit : Place → Place → Place → Place → ℕ
limit p q r u = axis_distance p q * axis_distance r u

x_within : (p q r u : Place) → unsigned_abs (q.x -ℤ p.x) * unsigned_abs (u.x -ℤ r.x) ≤ limit p q r u
unfolding axis_distance
x_within p q r u = first_and_first (unsigned_abs (q.x -ℤ p.x)) (unsigned_abs (q.y -ℤ p.y)) (unsigned_abs (u.x -ℤ r.x)) (unsigned_abs (u.y -ℤ r.y))

y_within : (p q r u : Place) → unsigned_abs (q.y -ℤ p.y) * unsigned_abs (u.y -ℤ r.y) ≤ limit p q r u
unfolding axis_distance
y_within p q r u = second_and_second (unsigned_abs (q.x -ℤ p.x)) (unsigned_abs (q.y -ℤ p.y)) (unsigned_abs (u.x -ℤ r.x)) (unsigned_abs (u.y -ℤ r.y))

slant_within : (p q r u : Place) → unsigned_abs (slant p q r u) ≤ limit p q r u
unfolding axis_distance
slant_within p q r u = det_size (q.x -ℤ p.x) (q.y -ℤ p.y) (u.x -ℤ r.x) (u.y -ℤ r.y)

-- ---- segments that aren't parallel: the shares of the one common point are quotients of determinants
share_between : (d s : ℕ) (D N : ℤ) → 0 < d → s ≤ d → pos s *ℤ D ≡ pos d *ℤ N → Between (int_min (pos 0) D) N (int_max (pos 0) D)
share_between d s D N h k e = let expanded = simp expand at e in between_ends d s (pos 0) D N h k (simp expand (omega (arith, linear, expanded)))

by_slope : {P : Type 0} (D N M : ℤ) → D ≢ pos 0 → Between (int_min (pos 0) D) N (int_max (pos 0) D) → Between (int_min (pos 0) D) M (int_max (pos 0) D)
    → (pos 0 <ℤ D → pos 0 ≤ℤ N → N ≤ℤ D → pos 0 ≤ℤ M → M ≤ℤ D → P)
    → (D <ℤ pos 0 → D ≤ℤ N → N ≤ℤ pos 0 → D ≤ℤ M → M ≤ℤ pos 0 → P) → P
by_slope D N M slanted n m up down =
    let low = int_min_is (pos 0) D in
    let high = int_max_is (pos 0) D in
    by_lt_z (pos 0) D
    (λ p. up p (omega (arith, linear, low, n.0)) (omega (arith, linear, high, n.1)) (omega (arith, linear, low, m.0)) (omega (arith, linear, high, m.1)))
    (λ p. down (omega (arith, linear)) (omega (arith, linear, low, n.0)) (omega (arith, linear, high, n.1)) (omega (arith, linear, low, m.0))
    (omega (arith, linear, high, m.1)))

least_shares : (ux uy vx vy wx wy : ℤ) (d s t : ℕ) → det ux uy vx vy ≢ pos 0 → Shares ux uy vx vy wx wy d s t → SomeShares ux uy vx vy wx wy
least_shares ux uy vx vy wx wy d s t slanted h =
    by_slope (det ux uy vx vy) (det wx wy vx vy) (det wx wy ux uy) slanted
    (share_between d s (det ux uy vx vy) (det wx wy vx vy) h.positive h.on_first (first_share (pos s) (pos d) (pos t) ux uy vx vy wx wy h.in_x h.in_y))
    (share_between d t (det ux uy vx vy) (det wx wy ux uy) h.positive h.on_second (second_share (pos s) (pos d) (pos t) ux uy vx vy wx wy h.in_x h.in_y))
    (shares_up ux uy vx vy wx wy (det ux uy vx vy) (det wx wy vx vy) (det wx wy ux uy) refl refl refl)
    (shares_down ux uy vx vy wx wy (det ux uy vx vy) (det wx wy vx vy) (det wx wy ux uy) refl refl refl)

slanted_within : (p q r u : Place) (d s t : ℕ) → slant p q r u ≢ pos 0 → CommonPoint p q r u d s t → SomeWithin (limit p q r u) p q r u
slanted_within p q r u d s t slanted h =
    let a = least_shares (q.x -ℤ p.x) (q.y -ℤ p.y) (u.x -ℤ r.x) (u.y -ℤ r.y) (r.x -ℤ p.x) (r.y -ℤ p.y) d s t slanted (to_shares p q r u d s t h) in
    let small : a.0 ≤ unsigned_abs (slant p q r u) = a.4 in
    (a.0, a.1, a.2, from_shares p q r u a.0 a.1 a.2 a.3, omega (arith, small, slant_within p q r u))

slanted_not_two : (p q r u : Place) → slant p q r u ≢ pos 0 → ¬ (TwoCommonPoints p q r u)
slanted_not_two p q r u slanted h = h.differ (slanted_once (q.x -ℤ p.x) (q.y -ℤ p.y) (u.x -ℤ r.x) (u.y -ℤ r.y) (r.x -ℤ p.x) (r.y -ℤ p.y)
    h.d h.s h.t h.d' h.s' h.t' slanted (to_shares p q r u h.d h.s h.t h.one) (to_shares p q r u h.d' h.s' h.t' h.another))

-- ---- parallel segments with a common point are of one line
collinear : (p q r u : Place) (d s t : ℕ) → slant p q r u ≡ pos 0 → CommonPoint p q r u d s t → AreCollinear p q r u
collinear p q r u d s t flat h = (first, omega (arith, linear, second_turn p q r u, first, flat))
  where
    against : pos t *ℤ slant p q r u ≡ pos d *ℤ det (r.x -ℤ p.x) (r.y -ℤ p.y) (q.x -ℤ p.x) (q.y -ℤ p.y)
    against =
        let k = to_shares p q r u d s t h in
        second_share (pos s) (pos d) (pos t) (q.x -ℤ p.x) (q.y -ℤ p.y) (u.x -ℤ r.x) (u.y -ℤ r.y) (r.x -ℤ p.x) (r.y -ℤ p.y) k.in_x k.in_y

    vanishes : (D M : ℤ) → D ≡ pos 0 → pos t *ℤ D ≡ pos d *ℤ M → M ≡ pos 0
    vanishes D M z e = cancel_eq d M (pos 0) h.positive (omega (arith, linear, *ℤ-zero (pos t), *ℤ-zero (pos d), rw z at e))

    first : cross_product p q r ≡ pos 0
    first = omega (
      arith,
      linear,
      det-swap (q.x -ℤ p.x) (q.y -ℤ p.y) (r.x -ℤ p.x) (r.y -ℤ p.y),
      vanishes (slant p q r u) (det (r.x -ℤ p.x) (r.y -ℤ p.y) (q.x -ℤ p.x) (q.y -ℤ p.y)) flat against,
    )

-- along the x axis
some_by_x : (p q r u : Place) (d s t : ℕ) → AreCollinear p q r u → p.x ≢ q.x → Differ r u → CommonPoint p q r u d s t
    → SomeWithin (unsigned_abs (q.x -ℤ p.x) * unsigned_abs (u.x -ℤ r.x)) p q r u
some_by_x p q r u d s t line long l h =
    let a = some_bounded p.x q.x r.x u.x d s t long (second_long_x p q r u line long l) (common_x p q r u d s t h) in
    (a.0, a.1, a.2, from_common_x p q r u a.0 a.1 a.2 line long a.3, rw a.4 (omega arith))

two_by_x : (p q r u : Place) → AreCollinear p q r u → p.x ≢ q.x → Differ r u → TwoCommonPoints p q r u
    → TwoWithin (unsigned_abs (q.x -ℤ p.x) * unsigned_abs (u.x -ℤ r.x)) p q r u
two_by_x p q r u line long l h = within (two_from_two p.x q.x r.x u.x long (second_long_x p q r u line long l) numbers)
  where
    numbers : TwoCommonNumbers p.x q.x r.x u.x
    numbers = record {
      d = h.d;
      s = h.s;
      t = h.t;
      d' = h.d';
      s' = h.s';
      t' = h.t';
      one = common_x p q r u h.d h.s h.t h.one;
      another = common_x p q r u h.d' h.s' h.t' h.another;
      differ = h.differ;
    }

    within : TwoBounded p.x q.x r.x u.x → TwoWithin (unsigned_abs (q.x -ℤ p.x) * unsigned_abs (u.x -ℤ r.x)) p q r u
    within a = record {
      two = two_from_common_x p q r u line long a.two;
      one_within = rw a.one_d (omega arith);
      another_within = rw a.another_d (omega arith);
    }

-- ---- along the y axis: the same with the axes exchanged
some_mirrored : (most : ℕ) (p q r u : Place) → SomeWithin most (mirror_of p) (mirror_of q) (mirror_of r) (mirror_of u) → SomeWithin most p q r u
some_mirrored most p q r u (d, s, t, h, b) = (d, s, t, mirrored_common p q r u d s t h, b)

two_turned : (p q r u : Place) → TwoCommonPoints p q r u → TwoCommonPoints (mirror_of p) (mirror_of q) (mirror_of r) (mirror_of u)
two_turned p q r u h = two_mirrored (mirror_of p) (mirror_of q) (mirror_of r) (mirror_of u) h

two_mirrored_within : (most : ℕ) (p q r u : Place) → TwoWithin most (mirror_of p) (mirror_of q) (mirror_of r) (mirror_of u) → TwoWithin most p q r u
two_mirrored_within most p q r u h = record { two = two_mirrored p q r u h.two; one_within = h.one_within; another_within = h.another_within }

some_by_y : (p q r u : Place) (d s t : ℕ) → AreCollinear p q r u → p.y ≢ q.y → Differ r u → CommonPoint p q r u d s t
    → SomeWithin (unsigned_abs (q.y -ℤ p.y) * unsigned_abs (u.y -ℤ r.y)) p q r u
some_by_y p q r u d s t line long l h = some_mirrored (unsigned_abs (q.y -ℤ p.y) * unsigned_abs (u.y -ℤ r.y)) p q r u
    (some_by_x (mirror_of p) (mirror_of q) (mirror_of r) (mirror_of u) d s t (mirrored_both p q r u line) long (λ i j. l j i) (common_mirrored p q r u d s t h))

two_by_y : (p q r u : Place) → AreCollinear p q r u → p.y ≢ q.y → Differ r u → TwoCommonPoints p q r u
    → TwoWithin (unsigned_abs (q.y -ℤ p.y) * unsigned_abs (u.y -ℤ r.y)) p q r u
two_by_y p q r u line long l h = two_mirrored_within (unsigned_abs (q.y -ℤ p.y) * unsigned_abs (u.y -ℤ r.y)) p q r u
    (two_by_x (mirror_of p) (mirror_of q) (mirror_of r) (mirror_of u) (mirrored_both p q r u line) long (λ i j. l j i) (two_turned p q r u h))

-- ---- some, and two
some_looser : (most more : ℕ) (p q r u : Place) → most ≤ more → SomeWithin most p q r u → SomeWithin more p q r u
some_looser most more p q r u h (d, s, t, k, b) = (d, s, t, k, omega arith)

two_looser : (most more : ℕ) (p q r u : Place) → most ≤ more → TwoWithin most p q r u → TwoWithin more p q r u
two_looser most more p q r u h k = record { two = k.two; one_within = omega arith; another_within = omega arith }

pub some_within : (p q r u : Place) (d s t : ℕ) → Differ p q → Differ r u → CommonPoint p q r u d s t
    → SomeWithin (axis_distance p q * axis_distance r u) p q r u
some_within p q r u d s t l n h = by_same (slant p q r u) (pos 0)
    (λ slanted. slanted_within p q r u d s t slanted h)
    (λ flat. let line = collinear p q r u d s t flat h in by_same p.x q.x
    (λ long. some_looser (unsigned_abs (q.x -ℤ p.x) * unsigned_abs (u.x -ℤ r.x)) (limit p q r u) p q r u (x_within p q r u)
    (some_by_x p q r u d s t line long n h))
    (λ same. some_looser (unsigned_abs (q.y -ℤ p.y) * unsigned_abs (u.y -ℤ r.y)) (limit p q r u) p q r u (y_within p q r u)
    (some_by_y p q r u d s t line (l same) n h)))

pub two_within : (p q r u : Place) → Differ p q → Differ r u → TwoCommonPoints p q r u → TwoWithin (axis_distance p q * axis_distance r u) p q r u
two_within p q r u l n h = by_same (slant p q r u) (pos 0)
    (λ slanted. absurd (slanted_not_two p q r u slanted h))
    (λ flat. let line = collinear p q r u h.d h.s h.t flat h.one in by_same p.x q.x
    (λ long. two_looser (unsigned_abs (q.x -ℤ p.x) * unsigned_abs (u.x -ℤ r.x)) (limit p q r u) p q r u (x_within p q r u) (two_by_x p q r u line long n h))
    (λ same. two_looser (unsigned_abs (q.y -ℤ p.y) * unsigned_abs (u.y -ℤ r.y)) (limit p q r u) p q r u (y_within p q r u)
    (two_by_y p q r u line (l same) n h)))
