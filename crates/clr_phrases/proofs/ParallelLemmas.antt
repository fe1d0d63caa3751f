-- Two parallel parts with one common point have an end in common.
use Rattle.std.proofs.Common.{◌≡◌, ◌≢◌, ◌⊎◌, inl, inr, ℕ, ℤ, pos, neg_ℤ, ◌-ℤ◌, ◌*ℤ◌, ◌<◌, ◌∙◌, arith, ap, sym}
use Rattle.std.proofs.lemmas.Int.{by_lt_z, int_min_is, int_max_is}
use Rattle.std.specs.Int.{int_min, int_max}
use Rattle.clr_rows.specs.declared.places.Place.{Place}
use Rattle.clr_rows.specs.Places.{Differ}
use Rattle.clr_segments.specs.Axis.{OneCommonNumber, SomeCommonNumber, TwoCommonNumbers, greater_low, lesser_high}
use Rattle.clr_segments.specs.Bounding.{Between}
use Rattle.clr_segments.specs.Segments.{LiesOn, OneCommonPoint, SomeCommonPoint, part_way}
use Rattle.clr_segments.specs.Turns.{AreCollinear, cross_product}
use Rattle.clr_segments.proofs.Integers.{linear, expand, *ℤ-zero, by_same, cancel_eq}
use Rattle.clr_segments.proofs.Shares.{det, det-swap, second_share}
use Rattle.clr_segments.proofs.AxisLemmas.{number_at, ranges_apart, ranges_overlap}
use Rattle.clr_segments.proofs.Crossings.{common_mirrored, common_x, from_common_x, mirror_of, mirrored_both, mirrored_common, second_long_x, second_turn, slant, to_shares}

-- ---- on one line
-- with a common point, the ends of a parallel part are on the line of the other
no_offset : (D M : ℤ) (k t : ℕ) → 0 < k → D ≡ pos 0 → pos t *ℤ D ≡ pos k *ℤ M → M ≡ pos 0
no_offset D M k t positive parallel e =
    cancel_eq k M (pos 0) positive (sym e ∙ ap (λ (z : ℤ). pos t *ℤ z) parallel ∙ *ℤ-zero (pos t) ∙ sym (*ℤ-zero (pos k)))

pub on_one_line : (a b c d : Place) → slant a b c d ≡ pos 0 → SomeCommonPoint a b c d → AreCollinear a b c d
on_one_line a b c d parallel (k, s, t, h) =
    let shares = to_shares a b c d k s t h in
    let turned = second_share (pos s) (pos k) (pos t) (b.x -ℤ a.x) (b.y -ℤ a.y) (d.x -ℤ c.x) (d.y -ℤ c.y) (c.x -ℤ a.x) (c.y -ℤ a.y) shares.in_x shares.in_y in
    let first : cross_product a b c ≡ pos 0 =
    det-swap (b.x -ℤ a.x) (b.y -ℤ a.y) (c.x -ℤ a.x) (c.y -ℤ a.y)
    ∙ ap neg_ℤ (no_offset (slant a b c d) (det (c.x -ℤ a.x) (c.y -ℤ a.y) (b.x -ℤ a.x) (b.y -ℤ a.y)) k t h.positive parallel turned) in
    (first, omega (arith, linear, first, parallel, second_turn a b c d))

-- ---- along one axis
-- ranges with one common number reach from an end of the first to the other side
ranges_touch : (p q r u : ℤ) → p ≢ q → r ≢ u → SomeCommonNumber p q r u → OneCommonNumber p q r u → greater_low p q r u ≡ lesser_high p q r u
ranges_touch p q r u n m (d, s, t, h) one = by_lt_z (greater_low p q r u) (lesser_high p q r u)
    (λ less. let two : TwoCommonNumbers p q r u = ranges_overlap p q r u n m less in absurd (two.differ (one two.d two.s two.t two.d' two.s' two.t' two.one two.another)))
    (λ at_most. by_lt_z (lesser_high p q r u) (greater_low p q r u)
    (λ less. absurd (ranges_apart p q r u less d s t h))
    (λ at_least. omega (arith, linear)))

end_between : (p q r u : ℤ) → r ≢ u → greater_low p q r u ≡ lesser_high p q r u
    → Between (int_min r u) p (int_max r u) ⊎ Between (int_min r u) q (int_max r u)
end_between p q r u n e =
    let least = int_min_is p q in
    let most = int_max_is p q in
    let low = int_min_is r u in
    let high = int_max_is r u in
    let lows = int_max_is (int_min p q) (int_min r u) in
    let highs = int_min_is (int_max p q) (int_max r u) in
    by_lt_z p (int_min r u)
    (λ below. inr (omega (arith, linear, least, most, low, high, lows, highs), omega (arith, linear, least, most, low, high, lows, highs)))
    (λ at_least. by_lt_z (int_max r u) p
    (λ above. inr (omega (arith, linear, least, most, low, high, lows, highs), omega (arith, linear, least, most, low, high, lows, highs)))
    (λ at_most. inl (at_least, at_most)))

-- ---- the ends of a part are its first and its last point
first_number : (k : ℕ) (p q : ℤ) → part_way k 0 p q ≡ pos k *ℤ p
first_number k p q = simp expand (omega (arith, linear))

last_number : (k : ℕ) (p q : ℤ) → part_way k k p q ≡ pos k *ℤ q
last_number k p q = simp expand (omega (arith, linear))

pub first_end : (a b : Place) → LiesOn a a b
first_end a b = (1, 0, record { positive = omega arith; on_segment = omega arith; equal_x = first_number 1 a.x b.x; equal_y = first_number 1 a.y b.y })

pub last_end : (a b : Place) → LiesOn b a b
last_end a b = (1, 1, record { positive = omega arith; on_segment = omega arith; equal_x = last_number 1 a.x b.x; equal_y = last_number 1 a.y b.y })

-- ---- an end of the first part is on the second
first_on_second : (a b c d : Place) → AreCollinear a b c d → a.x ≢ b.x → c.x ≢ d.x → Between (int_min c.x d.x) a.x (int_max c.x d.x) → LiesOn a c d
first_on_second a b c d line n m between =
    let found = number_at a.x c.x d.x m between in
    let common = from_common_x a b c d found.0 0 found.1 line n
    (record { positive = found.2.positive; on_first = omega arith; on_second = found.2.on_segment; equal = first_number found.0 a.x b.x ∙ sym found.2.equal }) in (
      found.0,
      found.1,
      record { positive = found.2.positive; on_segment = found.2.on_segment; equal_x = found.2.equal; equal_y = sym common.equal_y ∙ first_number found.0 a.y b.y },
    )

last_on_second : (a b c d : Place) → AreCollinear a b c d → a.x ≢ b.x → c.x ≢ d.x → Between (int_min c.x d.x) b.x (int_max c.x d.x) → LiesOn b c d
last_on_second a b c d line n m between =
    let found = number_at b.x c.x d.x m between in
    let common = from_common_x a b c d found.0 found.0 found.1 line n
    (record { positive = found.2.positive; on_first = omega arith; on_second = found.2.on_segment; equal = last_number found.0 a.x b.x ∙ sym found.2.equal }) in (
      found.0,
      found.1,
      record { positive = found.2.positive; on_segment = found.2.on_segment; equal_x = found.2.equal; equal_y = sym common.equal_y ∙ last_number found.0 a.y b.y },
    )

end_by_x : (a b c d : Place) → AreCollinear a b c d → a.x ≢ b.x → Differ c d → SomeCommonPoint a b c d → OneCommonPoint a b c d → LiesOn a c d ⊎ LiesOn b c d
end_by_x a b c d line n differ (k, s, t, h) one =
    let m = second_long_x a b c d line n differ in
    let touch = ranges_touch a.x b.x c.x d.x n m (k, s, t, common_x a b c d k s t h)
    (λ k s t k' s' t' h h'. one k s t k' s' t' (from_common_x a b c d k s t line n h) (from_common_x a b c d k' s' t' line n h')) in
    elim (end_between a.x b.x c.x d.x m touch) [ inl f ↦ inl (first_on_second a b c d line n m f) | inr l ↦ inr (last_on_second a b c d line n m l) ]

-- ---- by the other axis
lies_mirrored : (p a b : Place) → LiesOn (mirror_of p) (mirror_of a) (mirror_of b) → LiesOn p a b
lies_mirrored p a b (d, s, h) = (d, s, record { positive = h.positive; on_segment = h.on_segment; equal_x = h.equal_y; equal_y = h.equal_x })

end_by_y : (a b c d : Place) → AreCollinear a b c d → a.y ≢ b.y → Differ c d → SomeCommonPoint a b c d → OneCommonPoint a b c d → LiesOn a c d ⊎ LiesOn b c d
end_by_y a b c d line n differ (k, s, t, h) one =
    elim
    (end_by_x (mirror_of a) (mirror_of b) (mirror_of c) (mirror_of d) (mirrored_both a b c d line) n (λ i j. differ j i)
    (k, s, t, common_mirrored a b c d k s t h)
    (λ k s t k' s' t' h h'. one k s t k' s' t' (mirrored_common a b c d k s t h) (mirrored_common a b c d k' s' t' h'))) [
      | inl f ↦ inl (lies_mirrored a c d f)
      | inr l ↦ inr (lies_mirrored b c d l)
    ]

pub end_on_second : (a b c d : Place) → Differ a b → Differ c d → slant a b c d ≡ pos 0 → SomeCommonPoint a b c d → OneCommonPoint a b c d
    → LiesOn a c d ⊎ LiesOn b c d
end_on_second a b c d long differ parallel some one =
    let line = on_one_line a b c d parallel some in
    by_same a.x b.x
    (λ n. end_by_x a b c d line n differ some one)
    (λ same. end_by_y a b c d line (λ e. long same e) differ some one)
