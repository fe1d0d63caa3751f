-- Points of segments in one coordinate, and the ranges of two segments of one line.
use Rattle.std.proofs.Common.{◌≡◌, ◌≢◌, ℕ, ℤ, pos, ◌+ℤ◌, ◌-ℤ◌, ◌*ℤ◌, ◌-◌, ◌*◌, ◌<◌, ◌≤◌, ◌≤ℤ◌, ◌<ℤ◌, ◌∙◌, unsigned_abs, arith, ap, ap₂, mul-pos}
use Rattle.std.proofs.Common.{mul-le-mul_right, mul_comm}
use Rattle.std.proofs.lemmas.Int.{by_lt_z, int_min_is, int_max_is}
use Rattle.std.specs.Int.{int_min, int_max}
use borrow.Author.Differences.{up}
use Rattle.clr_segments.proofs.Integers.{linear, expand, times_le, cancel, cancel_eq, cancel_le, natural, up_le, up_positive, difference_apart, up_is_size}
use Rattle.clr_segments.proofs.Integers.{size-turned}
use Rattle.clr_segments.specs.Segments.{part_way}
use Rattle.clr_segments.specs.Bounding.{Between}
use Rattle.clr_segments.specs.Axis.{CommonNumber, TwoCommonNumbers, RangesMeet, greater_low, lesser_high}
use Rattle.clr_segments.specs.declared.meeting.Meet.TheVariants.{Apart, Once, Overlap}

-- x stands s / d of the way from p to q
pub record NumberAt (x p q : ℤ) (d s : ℕ) : Type 0 where
  pub positive : 0 < d
  pub on_segment : s ≤ d
  pub equal : part_way d s p q ≡ pos d *ℤ x

-- ---- what stands between two ends is between the lesser and the greater of them
weighted : (d s : ℕ) (p q : ℤ) → s ≤ d → part_way d s p q ≡ pos (d - s) *ℤ p +ℤ pos s *ℤ q
weighted d s p q h =
    let parts : pos d ≡ pos (d - s) +ℤ pos s = ap pos (omega arith) in
    rw parts (simp expand (omega (arith, linear)))

constant : (d s : ℕ) (x : ℤ) → s ≤ d → pos d *ℤ x ≡ pos (d - s) *ℤ x +ℤ pos s *ℤ x
constant d s x h = rw (← weighted d s x x h) (simp expand (omega (arith, linear)))

pub part_way-above : (d s : ℕ) (p q low : ℤ) → s ≤ d → low ≤ℤ p → low ≤ℤ q → (pos d *ℤ low) ≤ℤ part_way d s p q
part_way-above d s p q low h f g = rw (weighted d s p q h, constant d s low h)
    (omega (arith, linear, times_le (d - s) low p f, times_le s low q g))

pub part_way-below : (d s : ℕ) (p q high : ℤ) → s ≤ d → p ≤ℤ high → q ≤ℤ high → part_way d s p q ≤ℤ (pos d *ℤ high)
part_way-below d s p q high h f g = rw (weighted d s p q h, constant d s high h)
    (omega (arith, linear, times_le (d - s) p high f, times_le s q high g))

pub part_way-boxed : (d s : ℕ) (p q : ℤ) → s ≤ d → Between (pos d *ℤ int_min p q) (part_way d s p q) (pos d *ℤ int_max p q)
part_way-boxed d s p q h =
    let least = int_min_is p q in
    let most = int_max_is p q in (
      part_way-above d s p q (int_min p q) h (omega (arith, linear, least)) (omega (arith, linear, least)),
      part_way-below d s p q (int_max p q) h (omega (arith, linear, most)) (omega (arith, linear, most)),
    )

-- ---- every whole number between two ends that differ stands somewhere on the way
rising : (x p q : ℤ) → p <ℤ q → p ≤ℤ x → x ≤ℤ q → NumberAt x p q (up (q -ℤ p)) (up (x -ℤ p))
rising x p q less above below =
    let whole : pos 0 ≤ℤ (q -ℤ p) = omega (arith, linear) in
    let part : pos 0 ≤ℤ (x -ℤ p) = omega (arith, linear) in
    record {
      positive = up_positive (q -ℤ p) (omega (arith, linear));
      on_segment = up_le (x -ℤ p) (q -ℤ p) part (omega (arith, linear));
      equal = rw (← natural (q -ℤ p) whole, ← natural (x -ℤ p) part) (simp expand (omega (arith, linear)));
    }

falling : (x p q : ℤ) → q <ℤ p → q ≤ℤ x → x ≤ℤ p → NumberAt x p q (up (p -ℤ q)) (up (p -ℤ x))
falling x p q less above below =
    let whole : pos 0 ≤ℤ (p -ℤ q) = omega (arith, linear) in
    let part : pos 0 ≤ℤ (p -ℤ x) = omega (arith, linear) in
    record {
      positive = up_positive (p -ℤ q) (omega (arith, linear));
      on_segment = up_le (p -ℤ x) (p -ℤ q) part (omega (arith, linear));
      equal = rw (← natural (p -ℤ q) whole, ← natural (p -ℤ x) part) (simp expand (omega (arith, linear)));
    }

pub number_at : (x p q : ℤ) → p ≢ q → Between (int_min p q) x (int_max p q) → (d : ℕ) × (s : ℕ) × NumberAt x p q d s × (d ≡ unsigned_abs (q -ℤ p))
number_at x p q n b =
    let least = int_min_is p q in
    let most = int_max_is p q in
    let low = b.0 in
    let high = b.1 in
    by_lt_z p q
    (λ less. (
      up (q -ℤ p),
      up (x -ℤ p),
      rising x p q less (omega (arith, linear, least)) (omega (arith, linear, most)),
      up_is_size (q -ℤ p)
          (omega (arith, linear)),
    ))
    (λ more. (
      up (p -ℤ q),
      up (p -ℤ x),
      falling x p q (omega (arith, linear)) (omega (arith, linear, least)) (omega (arith, linear, most)),
      up_is_size (p -ℤ q)
          (omega (arith, linear)) ∙ size-turned p q,
    ))

-- ---- shares and numbers
-- equal shares are one number
same_number : (x x' p q : ℤ) (d s d' s' : ℕ) → NumberAt x p q d s → NumberAt x' p q d' s' → s * d' ≡ s' * d → x ≡ x'
same_number x x' p q d s d' s' h k e =
    let by_d' = simp expand at (ap (λ (z : ℤ). pos d' *ℤ z) h.equal) in
    let by_d = simp expand at (ap (λ (z : ℤ). pos d *ℤ z) k.equal) in
    let shares : (pos s *ℤ pos d') *ℤ (q -ℤ p) ≡ (pos s' *ℤ pos d) *ℤ (q -ℤ p) = ap (λ (n : ℕ). pos n *ℤ (q -ℤ p)) e in
    let both : pos d' *ℤ (pos d *ℤ x) ≡ pos d' *ℤ (pos d *ℤ x') = simp expand (omega (arith, linear, by_d', by_d, simp expand at shares)) in
    cancel_eq d x x' h.positive (cancel_eq d' (pos d *ℤ x) (pos d *ℤ x') k.positive both)

-- one number is one share, where the ends differ
one_share : (x p q : ℤ) (d s d' s' : ℕ) → p ≢ q → part_way d s p q ≡ pos d *ℤ x → part_way d' s' p q ≡ pos d' *ℤ x → s * d' ≡ s' * d
one_share x p q d s d' s' n h k =
    let by_d' = simp expand at (ap (λ (z : ℤ). pos d' *ℤ z) h) in
    let by_d = simp expand at (ap (λ (z : ℤ). pos d *ℤ z) k) in
    let both : (q -ℤ p) *ℤ (pos s *ℤ pos d') ≡ (q -ℤ p) *ℤ (pos s' *ℤ pos d) = simp expand (omega (arith, linear, by_d', by_d)) in
    let whole : pos (s * d') ≡ pos (s' * d) = cancel (q -ℤ p) (pos s *ℤ pos d') (pos s' *ℤ pos d) (difference_apart p q n) both in
    omega (arith, linear, whole)

-- a number on both ways is a common one
common : (x p q r u : ℤ) (d s d' t : ℕ) → NumberAt x p q d s → NumberAt x r u d' t → CommonNumber p q r u (d * d') (s * d') (t * d)
common x p q r u d s d' t h k = record {
  positive = omega (arith, mul-pos h.positive k.positive);
  on_first = mul-le-mul_right d' h.on_segment;
  on_second = rw (mul_comm d d') (mul-le-mul_right d k.on_segment);
  equal = scaled;
}
  where
    scaled : part_way (d * d') (s * d') p q ≡ part_way (d * d') (t * d) r u
    scaled =
        let by_d' = simp expand at (ap (λ (z : ℤ). pos d' *ℤ z) h.equal) in
        let by_d = simp expand at (ap (λ (z : ℤ). pos d *ℤ z) k.equal) in
        let products : (pos d *ℤ pos d') *ℤ p +ℤ (pos s *ℤ pos d') *ℤ (q -ℤ p) ≡ (pos d *ℤ pos d') *ℤ r +ℤ (pos t *ℤ pos d) *ℤ (u -ℤ r) =
        simp expand (omega (arith, linear, by_d', by_d)) in
        products

scaled_number : (x p q : ℤ) (d s k : ℕ) → 0 < k → NumberAt x p q d s → NumberAt x p q (d * k) (s * k)
scaled_number x p q d s k f h = record {
  positive = omega (arith, mul-pos h.positive f);
  on_segment = mul-le-mul_right k h.on_segment;
  equal = scaled;
}
  where
    scaled : part_way (d * k) (s * k) p q ≡ pos (d * k) *ℤ x
    scaled =
        let by_k = simp expand at (ap (λ (z : ℤ). pos k *ℤ z) h.equal) in
        let products : (pos d *ℤ pos k) *ℤ p +ℤ (pos s *ℤ pos k) *ℤ (q -ℤ p) ≡ (pos d *ℤ pos k) *ℤ x = simp expand (omega (arith, linear, by_k)) in
        products

-- ---- the greater of the lower ends against the lesser of the upper ends
-- what is in both ranges is from the one to the other
pub common_range : (d : ℕ) (m p q r u : ℤ) → Between (pos d *ℤ int_min p q) m (pos d *ℤ int_max p q) → Between (pos d *ℤ int_min r u) m (pos d *ℤ int_max r u)
    → Between (pos d *ℤ greater_low p q r u) m (pos d *ℤ lesser_high p q r u)
common_range d m p q r u h k = (
  by_lt_z (int_min r u) (int_min p q)
      (λ l. let e : greater_low p q r u ≡ int_min p q = omega (arith, linear, int_max_is (int_min p q) (int_min r u)) in rw e h.0)
      (λ l. let e : greater_low p q r u ≡ int_min r u = omega (arith, linear, int_max_is (int_min p q) (int_min r u)) in rw e k.0),
  by_lt_z (int_max p q) (int_max r u)
      (λ l. let e : lesser_high p q r u ≡ int_max p q = omega (arith, linear, int_min_is (int_max p q) (int_max r u)) in rw e h.1)
      (λ l. let e : lesser_high p q r u ≡ int_max r u = omega (arith, linear, int_min_is (int_max p q) (int_max r u)) in rw e k.1),
)

common_between : (p q r u : ℤ) (d s t : ℕ) → CommonNumber p q r u d s t
    → Between (pos d *ℤ greater_low p q r u) (part_way d s p q) (pos d *ℤ lesser_high p q r u)
common_between p q r u d s t h =
    let first = part_way-boxed d s p q h.on_first in
    let second = part_way-boxed d t r u h.on_second in
    common_range d (part_way d s p q) p q r u first (rw h.equal second)

pub ranges_apart : (p q r u : ℤ) → lesser_high p q r u <ℤ greater_low p q r u → RangesMeet Apart p q r u
ranges_apart p q r u less d s t h =
    let b = common_between p q r u d s t h in
    let at_most : greater_low p q r u ≤ℤ lesser_high p q r u = cancel_le d (greater_low p q r u) (lesser_high p q r u) h.positive
    (omega (arith, linear, b.0, b.1)) in
    omega (arith, linear)

same_product : (a b c d : ℕ) → a ≡ c → b ≡ d → a * b ≡ c * d
same_product a b c d h k = ap₂ (λ (m n : ℕ). m * n) h k

-- each whole number from the one to the other is common to both
common_at : (x p q r u : ℤ) → p ≢ q → r ≢ u → greater_low p q r u ≤ℤ x → x ≤ℤ lesser_high p q r u → (d : ℕ) × (s : ℕ) × (t : ℕ) × CommonNumber p q r u d s t
    × NumberAt x p q d s × (d ≡ unsigned_abs (q -ℤ p) * unsigned_abs (u -ℤ r))
common_at x p q r u n m low high =
    let lows = int_max_is (int_min p q) (int_min r u) in
    let highs = int_min_is (int_max p q) (int_max r u) in
    let a = number_at x p q n (omega (arith, linear, lows), omega (arith, linear, highs)) in
    let b = number_at x r u m (omega (arith, linear, lows), omega (arith, linear, highs)) in (
      a.0 * b.0,
      a.1 * b.0,
      b.1 * a.0,
      common x p q r u a.0 a.1 b.0 b.1 a.2 b.2,
      scaled_number x p q a.0 a.1 b.0 b.2.positive a.2,
      same_product a.0 b.0
          (unsigned_abs (q -ℤ p)) (unsigned_abs (u -ℤ r)) a.3 b.3,
    )

pub ranges_once : (p q r u : ℤ) → p ≢ q → r ≢ u → greater_low p q r u ≡ lesser_high p q r u → RangesMeet Once p q r u
ranges_once p q r u n m e =
    let x : ℤ = greater_low p q r u in
    let a = common_at x p q r u n m (omega (arith, linear)) (omega (arith, linear)) in
    ((a.0, a.1, a.2, a.3), λ d s t d' s' t' h k. one_share x p q d s d' s' n (at_x d s t h) (at_x d' s' t' k))
  where
    at_x : (d s t : ℕ) → CommonNumber p q r u d s t → part_way d s p q ≡ pos d *ℤ greater_low p q r u
    at_x d s t h =
        let b = common_between p q r u d s t h in
        let same : pos d *ℤ greater_low p q r u ≡ pos d *ℤ lesser_high p q r u = ap (λ (z : ℤ). pos d *ℤ z) e in
        omega (arith, linear, b.0, b.1)

-- two common numbers that differ, with a d of at most the product of the lengths
pub record TwoBounded (p q r u : ℤ) : Type 0 where
  pub two : TwoCommonNumbers p q r u
  pub one_d : two.d ≡ unsigned_abs (q -ℤ p) * unsigned_abs (u -ℤ r)
  pub another_d : two.d' ≡ unsigned_abs (q -ℤ p) * unsigned_abs (u -ℤ r)

two_bounded : (p q r u : ℤ) → p ≢ q → r ≢ u → greater_low p q r u <ℤ lesser_high p q r u → TwoBounded p q r u
two_bounded p q r u n m less =
    let low : ℤ = greater_low p q r u in
    let high : ℤ = lesser_high p q r u in
    let a = common_at low p q r u n m (omega (arith, linear)) (omega (arith, linear)) in
    let b = common_at high p q r u n m (omega (arith, linear)) (omega (arith, linear)) in
    record {
      two = record {
        d = a.0;
        s = a.1;
        t = a.2;
        d' = b.0;
        s' = b.1;
        t' = b.2;
        one = a.3;
        another = b.3;
        differ = λ e. let same : greater_low p q r u ≡ lesser_high p q r u = same_number low high p q a.0 a.1 b.0 b.1 a.4 b.4 e in omega (arith, linear);
      };
      one_d = a.5;
      another_d = b.5;
    }

pub ranges_overlap : (p q r u : ℤ) → p ≢ q → r ≢ u → greater_low p q r u <ℤ lesser_high p q r u → RangesMeet Overlap p q r u
ranges_overlap p q r u n m less = (two_bounded p q r u n m less).two

-- ---- where there are common numbers, there are some with that d
pub some_bounded : (p q r u : ℤ) (d s t : ℕ) → p ≢ q → r ≢ u → CommonNumber p q r u d s t
    → (e : ℕ) × (f : ℕ) × (g : ℕ) × CommonNumber p q r u e f g × (e ≡ unsigned_abs (q -ℤ p) * unsigned_abs (u -ℤ r))
some_bounded p q r u d s t n m h =
    let b = common_between p q r u d s t h in
    let low : ℤ = greater_low p q r u in
    let at_most : low ≤ℤ lesser_high p q r u = cancel_le d low (lesser_high p q r u) h.positive (omega (arith, linear, b.0, b.1)) in
    let a = common_at low p q r u n m (omega (arith, linear)) at_most in
    (a.0, a.1, a.2, a.3, a.5)

pub two_from_two : (p q r u : ℤ) → p ≢ q → r ≢ u → TwoCommonNumbers p q r u → TwoBounded p q r u
two_from_two p q r u n m h = by_lt_z (greater_low p q r u) (lesser_high p q r u)
    (λ less. two_bounded p q r u n m less)
    (λ at_most. absurd (h.differ (one_at_most at_most)))
  where
    one_at_most : lesser_high p q r u ≤ℤ greater_low p q r u → h.s * h.d' ≡ h.s' * h.d
    one_at_most at_most =
        let b = common_between p q r u h.d h.s h.t h.one in
        let at_least : greater_low p q r u ≤ℤ lesser_high p q r u = cancel_le h.d (greater_low p q r u) (lesser_high p q r u) h.one.positive
        (omega (arith, linear, b.0, b.1)) in
        let once = ranges_once p q r u n m (omega (arith, linear)) in
        once.1 h.d h.s h.t h.d' h.s' h.t' h.one h.another
