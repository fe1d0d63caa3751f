-- Common points as shares of vectors. For segments p-q and r-u the vectors are u = q - p, v = u - r and w = r - p,
-- and the point s / d of the way along the first is the one t / d of the way along the second where s u = d w + t v.
use Rattle.std.proofs.Common.{◌≡◌, ◌≢◌, ◌⊎◌, inl, inr, ℕ, ℤ, pos, negsuc, neg_ℤ, ◌+ℤ◌, ◌-ℤ◌, ◌*ℤ◌, ◌+◌, ◌-◌, ◌*◌, ◌<◌, ◌≤◌, ◌≤ℤ◌, ◌<ℤ◌, ◌∙◌, unsigned_abs}
use Rattle.std.proofs.Common.{arith, ap, sym}
use Rattle.std.proofs.lemmas.Int.{by_lt_z}
use borrow.Author.Differences.{up, product_is}
use Rattle.clr_segments.proofs.Integers.{linear, expand, *ℤ-add, *ℤ-neg, neg-*ℤ, add-*ℤ, times_le, cancel, natural, up_le, up_positive, up_is_size, size-neg}
use Rattle.clr_segments.specs.Segments.{part_way}
use Rattle.clr_segments.specs.Turns.{SameSign}

-- ---- the equation of a common point in one coordinate
pub shares_from_ways : (d s t : ℕ) (p q r u : ℤ) → part_way d s p q ≡ part_way d t r u → pos s *ℤ (q -ℤ p) ≡ pos d *ℤ (r -ℤ p) +ℤ pos t *ℤ (u -ℤ r)
shares_from_ways d s t p q r u h = let expanded = simp expand at h in simp expand (omega (arith, linear, expanded))

pub ways_from_shares : (d s t : ℕ) (p q r u : ℤ) → pos s *ℤ (q -ℤ p) ≡ pos d *ℤ (r -ℤ p) +ℤ pos t *ℤ (u -ℤ r) → part_way d s p q ≡ part_way d t r u
ways_from_shares d s t p q r u h = let expanded = simp expand at h in simp expand (omega (arith, linear, expanded))

-- the vectors have these shares in common
pub record Shares (ux uy vx vy wx wy : ℤ) (d s t : ℕ) : Type 0 where
  pub positive : 0 < d
  pub on_first : s ≤ d
  pub on_second : t ≤ d
  pub in_x : pos s *ℤ ux ≡ pos d *ℤ wx +ℤ pos t *ℤ vx
  pub in_y : pos s *ℤ uy ≡ pos d *ℤ wy +ℤ pos t *ℤ vy

-- ---- determinants
abbrev pub det : ℤ → ℤ → ℤ → ℤ → ℤ
det ux uy vx vy = ux *ℤ vy -ℤ uy *ℤ vx

-- some shares with a d of at most the size of the determinant
abbrev pub SomeShares : ℤ → ℤ → ℤ → ℤ → ℤ → ℤ → Type 0
SomeShares ux uy vx vy wx wy = (d : ℕ) × (s : ℕ) × (t : ℕ) × Shares ux uy vx vy wx wy d s t × (d ≤ unsigned_abs (det ux uy vx vy))

pub det-swap : (ux uy vx vy : ℤ) → det ux uy vx vy ≡ neg_ℤ (det vx vy ux uy)
det-swap ux uy vx vy = simp expand (omega (arith, linear))

-- s u = d w + t v, against v: the term of t falls away
pub first_share : (s d t ux uy vx vy wx wy : ℤ) → s *ℤ ux ≡ d *ℤ wx +ℤ t *ℤ vx → s *ℤ uy ≡ d *ℤ wy +ℤ t *ℤ vy → s *ℤ det ux uy vx vy ≡ d *ℤ det wx wy vx vy
first_share s d t ux uy vx vy wx wy hx hy =
    let by_vy = simp expand at (ap (λ (z : ℤ). z *ℤ vy) hx) in
    let by_vx = simp expand at (ap (λ (z : ℤ). z *ℤ vx) hy) in
    simp expand (omega (arith, linear, by_vy, by_vx))

-- s u = d w + t v, against u: the left side falls away
pub second_share : (s d t ux uy vx vy wx wy : ℤ) → s *ℤ ux ≡ d *ℤ wx +ℤ t *ℤ vx → s *ℤ uy ≡ d *ℤ wy +ℤ t *ℤ vy → t *ℤ det ux uy vx vy ≡ d *ℤ det wx wy ux uy
second_share s d t ux uy vx vy wx wy hx hy =
    let by_uy = simp expand at (ap (λ (z : ℤ). z *ℤ uy) hx) in
    let by_ux = simp expand at (ap (λ (z : ℤ). z *ℤ ux) hy) in
    simp expand (omega (arith, linear, by_uy, by_ux))

-- Cramer's identity of three vectors, one coordinate at a time
cramer_x : (ux uy vx vy wx wy : ℤ) → det wx wy vx vy *ℤ ux ≡ det ux uy vx vy *ℤ wx +ℤ det wx wy ux uy *ℤ vx
cramer_x ux uy vx vy wx wy = simp expand (omega (arith, linear))

cramer_y : (ux uy vx vy wx wy : ℤ) → det wx wy vx vy *ℤ uy ≡ det ux uy vx vy *ℤ wy +ℤ det wx wy ux uy *ℤ vy
cramer_y ux uy vx vy wx wy = simp expand (omega (arith, linear))

-- ---- vectors that aren't parallel have one common point at most
one_ratio : (D N : ℤ) (s d s' d' : ℕ) → D ≢ pos 0 → pos s *ℤ D ≡ pos d *ℤ N → pos s' *ℤ D ≡ pos d' *ℤ N → s * d' ≡ s' * d
one_ratio D N s d s' d' slanted e f =
    let by_d' = simp expand at (ap (λ (z : ℤ). pos d' *ℤ z) e) in
    let by_d = simp expand at (ap (λ (z : ℤ). pos d *ℤ z) f) in
    let both : D *ℤ (pos s *ℤ pos d') ≡ D *ℤ (pos s' *ℤ pos d) = simp expand (omega (arith, linear, by_d', by_d)) in
    let whole : pos (s * d') ≡ pos (s' * d) = cancel D (pos s *ℤ pos d') (pos s' *ℤ pos d) slanted both in
    omega (arith, linear, whole)

pub slanted_once : (ux uy vx vy wx wy : ℤ) (d s t d' s' t' : ℕ) → det ux uy vx vy ≢ pos 0 → Shares ux uy vx vy wx wy d s t → Shares ux uy vx vy wx wy d' s' t'
    → s * d' ≡ s' * d
slanted_once ux uy vx vy wx wy d s t d' s' t' slanted h k =
    one_ratio (det ux uy vx vy) (det wx wy vx vy) s d s' d' slanted
    (first_share (pos s) (pos d) (pos t) ux uy vx vy wx wy h.in_x h.in_y)
    (first_share (pos s') (pos d') (pos t') ux uy vx vy wx wy k.in_x k.in_y)

-- ---- sides: the weighted mean of two numbers of one sign isn't 0
mean_not_zero : (k t : ℕ) (m n : ℤ) → 0 < k + t → pos k *ℤ m +ℤ pos t *ℤ n ≡ pos 0 → ¬ (SameSign m n)
mean_not_zero k t m n h e (inl (p, q)) =
    let a : (pos k *ℤ pos 1) ≤ℤ (pos k *ℤ m) = times_le k (pos 1) m (omega (arith, linear)) in
    let b : (pos t *ℤ pos 1) ≤ℤ (pos t *ℤ n) = times_le t (pos 1) n (omega (arith, linear)) in
    omega (arith, linear)
mean_not_zero k t m n h e (inr (p, q)) =
    let a : (pos k *ℤ m) ≤ℤ (pos k *ℤ negsuc 0) = times_le k m (negsuc 0) (omega (arith, linear)) in
    let b : (pos t *ℤ n) ≤ℤ (pos t *ℤ negsuc 0) = times_le t n (negsuc 0) (omega (arith, linear)) in
    omega (arith, linear, product_is (pos k) (negsuc 0), product_is (pos t) (negsuc 0))

-- m is the share s / d of m - n: n itself is on the other side of 0, or on it
share_of_sides : (d s : ℕ) (m n : ℤ) → 0 < d → s ≤ d → pos s *ℤ (m -ℤ n) ≡ pos d *ℤ m → ¬ (SameSign m n)
share_of_sides d s m n p q e = mean_not_zero (d - s) s m n (omega arith) (omega (arith, linear, parts, expanded))
  where
    parts : pos (d - s) *ℤ m +ℤ pos s *ℤ m ≡ pos d *ℤ m
    parts = sym (add-*ℤ (pos (d - s)) (pos s) m) ∙ ap (λ (n : ℕ). pos n *ℤ m) (omega arith)

    expanded : pos s *ℤ m -ℤ pos s *ℤ n ≡ pos d *ℤ m
    expanded = omega (arith, linear, e, *ℤ-add (pos s) m (neg_ℤ n), *ℤ-neg (pos s) n)

-- with a common point, neither segment has both ends of the other strictly on one side
pub ends_of_second : (ux uy vx vy wx wy : ℤ) (d s t : ℕ) → Shares ux uy vx vy wx wy d s t → ¬ (SameSign (det ux uy wx wy) (det ux uy wx wy +ℤ det ux uy vx vy))
ends_of_second ux uy vx vy wx wy d s t h =
    sides (det ux uy wx wy) (det ux uy vx vy) (det wx wy ux uy) (det-swap wx wy ux uy)
    (second_share (pos s) (pos d) (pos t) ux uy vx vy wx wy h.in_x h.in_y)
  where
    sides : (m D o : ℤ) → o ≡ neg_ℤ m → pos t *ℤ D ≡ pos d *ℤ o → ¬ (SameSign m (m +ℤ D))
    sides m D o e f = share_of_sides d t m (m +ℤ D) h.positive h.on_second
        (let turned : pos t *ℤ neg_ℤ D ≡ pos d *ℤ m = omega (arith, linear, *ℤ-neg (pos t) D, *ℤ-neg (pos d) m, rw e at f) in
        let same : m -ℤ (m +ℤ D) ≡ neg_ℤ D = omega (arith, linear) in
        rw same turned)

pub ends_of_first : (ux uy vx vy wx wy : ℤ) (d s t : ℕ) → Shares ux uy vx vy wx wy d s t → ¬ (SameSign (det wx wy vx vy) (det wx wy vx vy -ℤ det ux uy vx vy))
ends_of_first ux uy vx vy wx wy d s t h =
    sides (det wx wy vx vy) (det ux uy vx vy)
    (first_share (pos s) (pos d) (pos t) ux uy vx vy wx wy h.in_x h.in_y)
  where
    sides : (m D : ℤ) → pos s *ℤ D ≡ pos d *ℤ m → ¬ (SameSign m (m -ℤ D))
    sides m D f = share_of_sides d s m (m -ℤ D) h.positive h.on_first
        (let same : m -ℤ (m -ℤ D) ≡ D = omega (arith, linear) in
        rw same f)

-- ---- vectors that aren't parallel, with ends on both sides, have a common point: the shares are quotients of determinants
-- two numbers that are not of one sign are on both sides of 0, in one order or the other
on_both_sides : (m n : ℤ) → ¬ (SameSign m n) → ((m ≤ℤ pos 0) × (pos 0 ≤ℤ n)) ⊎ ((pos 0 ≤ℤ m) × (n ≤ℤ pos 0))
on_both_sides m n h = by_lt_z (pos 0) m
    (λ p. by_lt_z (pos 0) n (λ q. absurd (h (inl (p, q)))) (λ q. inr (omega (arith, linear), q)))
    (λ p. by_lt_z n (pos 0)
    (λ q. by_lt_z m (pos 0) (λ r. absurd (h (inr (r, q)))) (λ r. inr (r, omega (arith, linear))))
    (λ q. inl (p, q)))

-- for the determinants D of u and v, N of w and v, and M of w and u: N / D and M / D are the shares
pub shares_up : (ux uy vx vy wx wy D N M : ℤ) → D ≡ det ux uy vx vy → N ≡ det wx wy vx vy → M ≡ det wx wy ux uy → pos 0 <ℤ D → pos 0 ≤ℤ N → N ≤ℤ D → pos 0 ≤ℤ M
    → M ≤ℤ D → SomeShares ux uy vx vy wx wy
shares_up ux uy vx vy wx wy D N M e f g p n0 nd m0 md = (
  up D,
  up N,
  up M,
  record {
    positive = up_positive D p;
    on_first = up_le N D n0 nd;
    on_second = up_le M D m0 md;
    in_x = rw (← natural D (omega (arith, linear)), ← natural N n0, ← natural M m0, e, f, g) (cramer_x ux uy vx vy wx wy);
    in_y = rw (← natural D (omega (arith, linear)), ← natural N n0, ← natural M m0, e, f, g) (cramer_y ux uy vx vy wx wy);
  },
  rw (← e, ← up_is_size D (omega (arith, linear))) (omega arith),
)

pub shares_down : (ux uy vx vy wx wy D N M : ℤ) → D ≡ det ux uy vx vy → N ≡ det wx wy vx vy → M ≡ det wx wy ux uy → D <ℤ pos 0 → D ≤ℤ N → N ≤ℤ pos 0 → D ≤ℤ M
    → M ≤ℤ pos 0 → SomeShares ux uy vx vy wx wy
shares_down ux uy vx vy wx wy D N M e f g p nd n0 md m0 =
    let positive : pos 0 <ℤ neg_ℤ D = omega (arith, linear) in
    let d : neg_ℤ D ≡ pos (up (neg_ℤ D)) = natural (neg_ℤ D) (omega (arith, linear)) in
    let n : neg_ℤ N ≡ pos (up (neg_ℤ N)) = natural (neg_ℤ N) (omega (arith, linear)) in
    let m : neg_ℤ M ≡ pos (up (neg_ℤ M)) = natural (neg_ℤ M) (omega (arith, linear)) in (
      up (neg_ℤ D),
      up (neg_ℤ N),
      up (neg_ℤ M),
      record {
        positive = up_positive (neg_ℤ D) positive;
        on_first = up_le (neg_ℤ N) (neg_ℤ D) (omega (arith, linear)) (omega (arith, linear));
        on_second = up_le (neg_ℤ M) (neg_ℤ D) (omega (arith, linear)) (omega (arith, linear));
        in_x = rw (← d, ← n, ← m) (negated D N M ux wx vx (rw (e, f, g) (cramer_x ux uy vx vy wx wy)));
        in_y = rw (← d, ← n, ← m) (negated D N M uy wy vy (rw (e, f, g) (cramer_y ux uy vx vy wx wy)));
      },
      rw (← e, ← size-neg D, ← up_is_size (neg_ℤ D) (omega (arith, linear))) (omega arith),
    )
  where
    negated : (D N M u w v : ℤ) → N *ℤ u ≡ D *ℤ w +ℤ M *ℤ v → neg_ℤ N *ℤ u ≡ neg_ℤ D *ℤ w +ℤ neg_ℤ M *ℤ v
    negated D N M u w v h = rw (neg-*ℤ N u, neg-*ℤ D w, neg-*ℤ M v) (omega (arith, linear, h))

pub slanted_meet : (ux uy vx vy wx wy : ℤ) → det ux uy vx vy ≢ pos 0 → ¬ (SameSign (det ux uy wx wy) (det ux uy wx wy +ℤ det ux uy vx vy))
    → ¬ (SameSign (det wx wy vx vy) (det wx wy vx vy -ℤ det ux uy vx vy)) → SomeShares ux uy vx vy wx wy
slanted_meet ux uy vx vy wx wy slanted h k =
    by_signs (det ux uy vx vy) (det wx wy vx vy) (det wx wy ux uy) (det ux uy wx wy) slanted (det-swap wx wy ux uy)
    (on_both_sides (det ux uy wx wy) (det ux uy wx wy +ℤ det ux uy vx vy) h)
    (on_both_sides (det wx wy vx vy) (det wx wy vx vy -ℤ det ux uy vx vy) k)
    (shares_up ux uy vx vy wx wy (det ux uy vx vy) (det wx wy vx vy) (det wx wy ux uy) (omega (arith, linear)) (omega (arith, linear)) (omega (arith, linear)))
    (shares_down ux uy vx vy wx wy (det ux uy vx vy) (det wx wy vx vy) (det wx wy ux uy) (omega (arith, linear)) (omega (arith, linear))
    (omega (arith, linear)))
  where
    by_signs : {P : Type 0} (D N M O : ℤ) → D ≢ pos 0 → M ≡ neg_ℤ O
        → ((O ≤ℤ pos 0) × (pos 0 ≤ℤ (O +ℤ D))) ⊎ ((pos 0 ≤ℤ O) × ((O +ℤ D) ≤ℤ pos 0))
        → ((N ≤ℤ pos 0) × (pos 0 ≤ℤ (N -ℤ D))) ⊎ ((pos 0 ≤ℤ N) × ((N -ℤ D) ≤ℤ pos 0))
        → (pos 0 <ℤ D → pos 0 ≤ℤ N → N ≤ℤ D → pos 0 ≤ℤ M → M ≤ℤ D → P)
        → (D <ℤ pos 0 → D ≤ℤ N → N ≤ℤ pos 0 → D ≤ℤ M → M ≤ℤ pos 0 → P) → P
    by_signs D N M O n e (inl a) (inl b) f g = absurd (n (omega (arith, linear, a.0, a.1, b.0, b.1)))
    by_signs D N M O n e (inl a) (inr b) f g = by_lt_z (pos 0) D
        (λ p. f p b.0 (omega (arith, linear, b.1)) (omega (arith, linear, a.0)) (omega (arith, linear, a.1)))
        (λ p. absurd (n (omega (arith, linear, a.0, a.1, b.0, b.1))))
    by_signs D N M O n e (inr a) (inl b) f g = by_lt_z D (pos 0)
        (λ p. g p (omega (arith, linear, b.1)) b.0 (omega (arith, linear, a.1)) (omega (arith, linear, a.0)))
        (λ p. absurd (n (omega (arith, linear, a.0, a.1, b.0, b.1))))
    by_signs D N M O n e (inr a) (inr b) f g = absurd (n (omega (arith, linear, a.0, a.1, b.0, b.1)))

-- ---- parallel vectors: the equation in one coordinate carries the other
pub other_coordinate : (ux uy vx vy wx wy s d t : ℤ) → ux ≢ pos 0 → det ux uy vx vy ≡ pos 0 → det ux uy wx wy ≡ pos 0 → s *ℤ ux ≡ d *ℤ wx +ℤ t *ℤ vx → s *ℤ uy
    ≡ d *ℤ wy +ℤ t *ℤ vy
other_coordinate ux uy vx vy wx wy s d t long e f h =
    let by_uy = simp expand at (ap (λ (z : ℤ). uy *ℤ z) h) in
    let by_t = simp expand at (ap (λ (z : ℤ). t *ℤ z) e) in
    let by_d = simp expand at (ap (λ (z : ℤ). d *ℤ z) f) in
    cancel ux (s *ℤ uy) (d *ℤ wy +ℤ t *ℤ vy) long (simp expand (omega (arith, linear, by_uy, by_t, by_d)))

-- the second vector, too, has length in that coordinate
pub second_long : (ux uy vx vy : ℤ) → ux ≢ pos 0 → det ux uy vx vy ≡ pos 0 → (vx ≡ pos 0 → vy ≡ pos 0 → ⊥) → vx ≢ pos 0
second_long ux uy vx vy long e h z = h z (cancel ux vy (pos 0) long (omega (arith, linear, product_is ux (pos 0), product_is uy (pos 0), rw z at e)))
