-- What the turns of the ends of two segments say of their common points.
use Rattle.std.proofs.Common.{◌≡◌, ◌≢◌, inl, inr, ℕ, ℤ, pos, neg_ℤ, ◌+ℤ◌, ◌-ℤ◌, ◌∙◌, arith, ap, subst, subst₂}
use Rattle.std.proofs.lemmas.Int.{by_lt_z}
use Rattle.clr_rows.specs.declared.places.Place.{Place}
use Rattle.clr_rows.specs.Places.{Differ}
use Rattle.clr_segments.proofs.Integers.{linear, expand, difference_apart}
use Rattle.clr_segments.proofs.Shares.{det, Shares, shares_from_ways, ways_from_shares, slanted_once, slanted_meet, ends_of_first, ends_of_second}
use Rattle.clr_segments.proofs.Shares.{other_coordinate, second_long}
use Rattle.clr_segments.specs.Segments.{CommonPoint, NoCommonPoint, TwoCommonPoints, MeetIs}
use Rattle.clr_segments.specs.Turns.{cross_product, SameSign, OnOneSide, AreParted, AreCollinear}
use Rattle.clr_segments.specs.Axis.{CommonNumber, TwoCommonNumbers, RangesMeet}
use Rattle.clr_segments.specs.declared.meeting.Meet.{Meet}
use Rattle.clr_segments.specs.declared.meeting.Meet.TheVariants.{Apart, Once, Overlap}

-- ---- the four turns by two determinants and the first turn
-- how far the second segment turns from the first
abbrev pub slant : Place → Place → Place → Place → ℤ
slant a b c d = det (b.x -ℤ a.x) (b.y -ℤ a.y) (d.x -ℤ c.x) (d.y -ℤ c.y)

-- how far it turns from the way between the first ends
abbrev pub offset : Place → Place → Place → Place → ℤ
offset a b c d = det (c.x -ℤ a.x) (c.y -ℤ a.y) (d.x -ℤ c.x) (d.y -ℤ c.y)

pub second_turn : (a b c d : Place) → cross_product a b d ≡ cross_product a b c +ℤ slant a b c d
second_turn a b c d = simp expand (omega (arith, linear))

third_turn : (a b c d : Place) → cross_product c d a ≡ offset a b c d
third_turn a b c d = simp expand (omega (arith, linear))

fourth_turn : (a b c d : Place) → cross_product c d b ≡ offset a b c d -ℤ slant a b c d
fourth_turn a b c d = simp expand (omega (arith, linear))

-- ---- a common point, as shares of vectors
abbrev pub Common : Place → Place → Place → Place → ℕ → ℕ → ℕ → Type 0
Common a b c d k s t = Shares (b.x -ℤ a.x) (b.y -ℤ a.y) (d.x -ℤ c.x) (d.y -ℤ c.y) (c.x -ℤ a.x) (c.y -ℤ a.y) k s t

pub to_shares : (a b c d : Place) (k s t : ℕ) → CommonPoint a b c d k s t → Common a b c d k s t
to_shares a b c d k s t h = record {
  positive = h.positive;
  on_first = h.on_first;
  on_second = h.on_second;
  in_x = shares_from_ways k s t a.x b.x c.x d.x h.equal_x;
  in_y = shares_from_ways k s t a.y b.y c.y d.y h.equal_y;
}

pub from_shares : (a b c d : Place) (k s t : ℕ) → Common a b c d k s t → CommonPoint a b c d k s t
from_shares a b c d k s t h = record {
  positive = h.positive;
  on_first = h.on_first;
  on_second = h.on_second;
  equal_x = ways_from_shares k s t a.x b.x c.x d.x h.in_x;
  equal_y = ways_from_shares k s t a.y b.y c.y d.y h.in_y;
}

-- ---- both ends of one segment strictly on one side of the other
side_of_first : (a b c d : Place) → OnOneSide a b c d → SameSign (cross_product a b c) (cross_product a b c +ℤ slant a b c d)
side_of_first a b c d h = subst (λ (z : ℤ). SameSign (cross_product a b c) z) (second_turn a b c d) h

side_of_second : (a b c d : Place) → OnOneSide c d a b → SameSign (offset a b c d) (offset a b c d -ℤ slant a b c d)
side_of_second a b c d h = subst₂ (λ (y z : ℤ). SameSign y z) (third_turn a b c d) (fourth_turn a b c d) h

pub parted_apart : (a b c d : Place) → AreParted a b c d → NoCommonPoint a b c d
parted_apart a b c d (inl h) k s t p =
    ends_of_second (b.x -ℤ a.x) (b.y -ℤ a.y) (d.x -ℤ c.x) (d.y -ℤ c.y) (c.x -ℤ a.x) (c.y -ℤ a.y) k s t (to_shares a b c d k s t p) (side_of_first a b c d h)
parted_apart a b c d (inr h) k s t p =
    ends_of_first (b.x -ℤ a.x) (b.y -ℤ a.y) (d.x -ℤ c.x) (d.y -ℤ c.y) (c.x -ℤ a.x) (c.y -ℤ a.y) k s t (to_shares a b c d k s t p) (side_of_second a b c d h)

-- ---- neither so, and not of one line: they cross
-- the turns of both ends of parallel segments are equal, so they are 0 or of one sign
not_parallel : (m D : ℤ) → ¬ (SameSign m (m +ℤ D)) → ¬ (m ≡ pos 0 × (m +ℤ D) ≡ pos 0) → D ≢ pos 0
not_parallel m D h n z = by_lt_z m (pos 0)
    (λ less. h (inr (less, omega (arith, linear))))
    (λ at_least. by_lt_z (pos 0) m
    (λ more. h (inl (more, omega (arith, linear))))
    (λ at_most. n (omega (arith, linear), omega (arith, linear))))

pub crossing_once : (a b c d : Place) → ¬ (AreParted a b c d) → ¬ (AreCollinear a b c d) → MeetIs Once a b c d
crossing_once a b c d f n =
    let first : ¬ (SameSign (cross_product a b c) (cross_product a b c +ℤ slant a b c d)) =
    subst (λ (z : ℤ). ¬ (SameSign (cross_product a b c) z)) (second_turn a b c d) (λ h. f (inl h)) in
    let second : ¬ (SameSign (offset a b c d) (offset a b c d -ℤ slant a b c d)) =
    subst₂ (λ (y z : ℤ). ¬ (SameSign y z)) (third_turn a b c d) (fourth_turn a b c d) (λ h. f (inr h)) in
    let line : ¬ (cross_product a b c ≡ pos 0 × (cross_product a b c +ℤ slant a b c d) ≡ pos 0) = subst (λ (z : ℤ). ¬ (cross_product a b c ≡ pos 0 × z ≡ pos 0))
    (second_turn a b c d) n in
    let slanted : slant a b c d ≢ pos 0 = not_parallel (cross_product a b c) (slant a b c d) first line in
    let w = slanted_meet (b.x -ℤ a.x) (b.y -ℤ a.y) (d.x -ℤ c.x) (d.y -ℤ c.y) (c.x -ℤ a.x) (c.y -ℤ a.y) slanted first second in (
      (w.0, w.1, w.2, from_shares a b c d w.0 w.1 w.2 w.3),
      λ k s t k' s' t' h h'. slanted_once (b.x -ℤ a.x) (b.y -ℤ a.y) (d.x -ℤ c.x) (d.y -ℤ c.y) (c.x -ℤ a.x) (c.y -ℤ a.y) k s t k' s' t' slanted
          (to_shares a b c d k s t h) (to_shares a b c d k' s' t' h'),
    )

-- ---- of one line: the x coordinates decide, where the first segment has length in x
parallel : (a b c d : Place) → AreCollinear a b c d → slant a b c d ≡ pos 0
parallel a b c d line = omega (arith, linear, second_turn a b c d, line.0, line.1)

pub second_long_x : (a b c d : Place) → AreCollinear a b c d → a.x ≢ b.x → Differ c d → c.x ≢ d.x
second_long_x a b c d line n l z =
    second_long (b.x -ℤ a.x) (b.y -ℤ a.y) (d.x -ℤ c.x) (d.y -ℤ c.y) (difference_apart a.x b.x n) (parallel a b c d line)
    (λ i j. l (omega (arith, linear)) (omega (arith, linear))) (omega (arith, linear))

-- a common point has a common x
pub common_x : (a b c d : Place) (k s t : ℕ) → CommonPoint a b c d k s t → CommonNumber a.x b.x c.x d.x k s t
common_x a b c d k s t h = record { positive = h.positive; on_first = h.on_first; on_second = h.on_second; equal = h.equal_x }

-- a common x is that of a common point
pub from_common_x : (a b c d : Place) (k s t : ℕ) → AreCollinear a b c d → a.x ≢ b.x → CommonNumber a.x b.x c.x d.x k s t → CommonPoint a b c d k s t
from_common_x a b c d k s t line n h = record {
  positive = h.positive;
  on_first = h.on_first;
  on_second = h.on_second;
  equal_x = h.equal;
  equal_y = ways_from_shares k s t a.y b.y c.y d.y
      (other_coordinate (b.x -ℤ a.x) (b.y -ℤ a.y) (d.x -ℤ c.x) (d.y -ℤ c.y) (c.x -ℤ a.x) (c.y -ℤ a.y) (pos s) (pos k) (pos t) (difference_apart a.x b.x n)
      (parallel a b c d line) line.0
      (shares_from_ways k s t a.x b.x c.x d.x h.equal));
}

abbrev pub two_from_common_x : (a b c d : Place) → AreCollinear a b c d → a.x ≢ b.x → TwoCommonNumbers a.x b.x c.x d.x → TwoCommonPoints a b c d
two_from_common_x a b c d line n h = record {
  d = h.d;
  s = h.s;
  t = h.t;
  d' = h.d';
  s' = h.s';
  t' = h.t';
  one = from_common_x a b c d h.d h.s h.t line n h.one;
  another = from_common_x a b c d h.d' h.s' h.t' line n h.another;
  differ = h.differ;
}

pub meet_by_x : (m : Meet) (a b c d : Place) → AreCollinear a b c d → a.x ≢ b.x → RangesMeet m a.x b.x c.x d.x → MeetIs m a b c d
meet_by_x Apart a b c d line n h = λ k s t p. h k s t (common_x a b c d k s t p)
meet_by_x Once a b c d line n h = (
  (h.0.0, h.0.1, h.0.2, from_common_x a b c d h.0.0 h.0.1 h.0.2 line n h.0.3),
  λ k s t k' s' t' p p'. h.1 k s t k' s' t' (common_x a b c d k s t p) (common_x a b c d k' s' t' p'),
)
meet_by_x Overlap a b c d line n h = two_from_common_x a b c d line n h

-- ---- the y coordinates otherwise, by an exchange of the axes
abbrev pub mirror_of : Place → Place
mirror_of p = record { x = p.y; y = p.x }

det-mirrored : (ux uy vx vy : ℤ) → det uy ux vy vx ≡ neg_ℤ (det ux uy vx vy)
det-mirrored ux uy vx vy = simp expand (omega (arith, linear))

pub mirrored_line : (a b c : Place) → cross_product a b c ≡ pos 0 → cross_product (mirror_of a) (mirror_of b) (mirror_of c) ≡ pos 0
mirrored_line a b c e = det-mirrored (b.x -ℤ a.x) (b.y -ℤ a.y) (c.x -ℤ a.x) (c.y -ℤ a.y) ∙ ap neg_ℤ e

pub mirrored_both : (a b c d : Place) → AreCollinear a b c d → AreCollinear (mirror_of a) (mirror_of b) (mirror_of c) (mirror_of d)
mirrored_both a b c d line = (mirrored_line a b c line.0, mirrored_line a b d line.1)

pub common_mirrored : (a b c d : Place) (k s t : ℕ) → CommonPoint a b c d k s t → CommonPoint (mirror_of a) (mirror_of b) (mirror_of c) (mirror_of d) k s t
common_mirrored a b c d k s t h = record { positive = h.positive; on_first = h.on_first; on_second = h.on_second; equal_x = h.equal_y; equal_y = h.equal_x }

pub mirrored_common : (a b c d : Place) (k s t : ℕ) → CommonPoint (mirror_of a) (mirror_of b) (mirror_of c) (mirror_of d) k s t → CommonPoint a b c d k s t
mirrored_common a b c d k s t h = record { positive = h.positive; on_first = h.on_first; on_second = h.on_second; equal_x = h.equal_y; equal_y = h.equal_x }

abbrev pub two_mirrored : (a b c d : Place) → TwoCommonPoints (mirror_of a) (mirror_of b) (mirror_of c) (mirror_of d) → TwoCommonPoints a b c d
two_mirrored a b c d h = record {
  d = h.d;
  s = h.s;
  t = h.t;
  d' = h.d';
  s' = h.s';
  t' = h.t';
  one = mirrored_common a b c d h.d h.s h.t h.one;
  another = mirrored_common a b c d h.d' h.s' h.t' h.another;
  differ = h.differ;
}

meet_mirrored : (m : Meet) (a b c d : Place) → MeetIs m (mirror_of a) (mirror_of b) (mirror_of c) (mirror_of d) → MeetIs m a b c d
meet_mirrored Apart a b c d h = λ k s t p. h k s t (common_mirrored a b c d k s t p)
meet_mirrored Once a b c d h = (
  (h.0.0, h.0.1, h.0.2, mirrored_common a b c d h.0.0 h.0.1 h.0.2 h.0.3),
  λ k s t k' s' t' p p'. h.1 k s t k' s' t' (common_mirrored a b c d k s t p) (common_mirrored a b c d k' s' t' p'),
)
meet_mirrored Overlap a b c d h = two_mirrored a b c d h

pub second_long_y : (a b c d : Place) → AreCollinear a b c d → a.y ≢ b.y → Differ c d → c.y ≢ d.y
second_long_y a b c d line n l = second_long_x (mirror_of a) (mirror_of b) (mirror_of c) (mirror_of d) (mirrored_both a b c d line) n (λ i j. l j i)

pub meet_by_y : (m : Meet) (a b c d : Place) → AreCollinear a b c d → a.y ≢ b.y → RangesMeet m a.y b.y c.y d.y → MeetIs m a b c d
meet_by_y m a b c d line n h =
    meet_mirrored m a b c d (meet_by_x m (mirror_of a) (mirror_of b) (mirror_of c) (mirror_of d) (mirrored_both a b c d line) n h)
