-- Two segments meet in one way alone, whichever segment and whichever end of each is named first.
use Rattle.std.proofs.Common.{◌≡◌, ◌≢◌, ℕ, ℤ, pos, ◌+ℤ◌, ◌-ℤ◌, ◌*ℤ◌, ◌-◌, ◌+◌, ◌*◌, ◌≤◌, ◌∙◌, arith, ap, sym, mul_comm, add-mul}
use Rattle.clr_rows.specs.declared.places.Place.{Place}
use Rattle.clr_rows.specs.Places.{Differ}
use Rattle.clr_segments.proofs.Integers.{linear, expand, cancel, difference_apart, by_same}
use Rattle.clr_segments.specs.Segments.{part_way, CommonPoint, MeetIs}
use Rattle.clr_segments.specs.declared.meeting.Meet.{Meet}
use Rattle.clr_segments.specs.declared.meeting.Meet.TheVariants.{Apart, Once, Overlap}

-- ---- the other segment first
exchanged : (p q r u : Place) (d s t : ℕ) → CommonPoint p q r u d s t → CommonPoint r u p q d t s
exchanged p q r u d s t h = record { positive = h.positive; on_first = h.on_second; on_second = h.on_first; equal_x = sym h.equal_x; equal_y = sym h.equal_y }

-- where the shares of the first segment are the same, so are those of the second, whose ends differ in this coordinate
same_in_one : (p q r u : ℤ) (d s t d' s' t' : ℕ) → r ≢ u → part_way d s p q ≡ part_way d t r u → part_way d' s' p q ≡ part_way d' t' r u → s * d' ≡ s' * d
    → t * d' ≡ t' * d
same_in_one p q r u d s t d' s' t' n h k e =
    let first : (pos s *ℤ pos d') *ℤ (q -ℤ p) ≡ (pos s' *ℤ pos d) *ℤ (q -ℤ p) = ap (λ (z : ℕ). pos z *ℤ (q -ℤ p)) e in
    let by_first = simp expand at first in
    let by_d' = simp expand at (ap (λ (z : ℤ). pos d' *ℤ z) h) in
    let by_d = simp expand at (ap (λ (z : ℤ). pos d *ℤ z) k) in
    let both : (u -ℤ r) *ℤ (pos t *ℤ pos d') ≡ (u -ℤ r) *ℤ (pos t' *ℤ pos d) = simp expand (omega (arith, linear, by_first, by_d', by_d)) in
    let whole : pos (t * d') ≡ pos (t' * d) = cancel (u -ℤ r) (pos t *ℤ pos d') (pos t' *ℤ pos d) (difference_apart r u n) both in
    omega (arith, linear, whole)

same_on_second : (p q r u : Place) (d s t d' s' t' : ℕ) → Differ r u → CommonPoint p q r u d s t → CommonPoint p q r u d' s' t' → s * d' ≡ s' * d → t * d'
    ≡ t' * d
same_on_second p q r u d s t d' s' t' l h k e = by_same r.x u.x
    (λ n. same_in_one p.x q.x r.x u.x d s t d' s' t' n h.equal_x k.equal_x e)
    (λ same. same_in_one p.y q.y r.y u.y d s t d' s' t' (l same) h.equal_y k.equal_y e)

pub segments_swapped : (m : Meet) (p q r u : Place) → Differ p q → Differ r u → MeetIs m p q r u → MeetIs m r u p q
segments_swapped Apart p q r u l n h = λ d s t k. h d t s (exchanged r u p q d s t k)
segments_swapped Once p q r u l n h = (
  (h.0.0, h.0.2, h.0.1, exchanged p q r u h.0.0 h.0.1 h.0.2 h.0.3),
  λ d s t d' s' t' k k'. same_on_second p q r u d t s d' t' s' n (exchanged r u p q d s t k) (exchanged r u p q d' s' t' k')
      (h.1 d t s d' t' s' (exchanged r u p q d s t k) (exchanged r u p q d' s' t' k')),
)
segments_swapped Overlap p q r u l n h = record {
  d = h.d;
  s = h.t;
  t = h.s;
  d' = h.d';
  s' = h.t';
  t' = h.s';
  one = exchanged p q r u h.d h.s h.t h.one;
  another = exchanged p q r u h.d' h.s' h.t' h.another;
  differ = λ e. h.differ (same_on_second r u p q h.d h.t h.s h.d' h.t' h.s' l (exchanged p q r u h.d h.s h.t h.one) (exchanged p q r u h.d' h.s' h.t' h.another)
      e);
}

-- ---- the other end first: the share of the way back is what is left of the way
way_back : (d s : ℕ) (p q : ℤ) → s ≤ d → part_way d (d - s) q p ≡ part_way d s p q
way_back d s p q h =
    let parts : pos d ≡ pos (d - s) +ℤ pos s = ap pos (omega arith) in
    rw parts (simp expand (omega (arith, linear)))

rest_share : (d s d' s' : ℕ) → s ≤ d → s' ≤ d' → (d - s) * d' ≡ (d' - s') * d → s * d' ≡ s' * d
rest_share d s d' s' h h' e =
    let first : (d - s) * d' + s * d' ≡ d * d' = both_parts d s d' h in
    let second : (d' - s') * d + s' * d ≡ d' * d = both_parts d' s' d h' in
    omega (arith, first, second, e, mul_comm d d')
  where
    both_parts : (d s k : ℕ) → s ≤ d → (d - s) * k + s * k ≡ d * k
    both_parts d s k h = sym (add-mul (d - s) s k) ∙ ap (λ (n : ℕ). n * k) (omega arith)

first_turned : (p q r u : Place) (d s t : ℕ) → CommonPoint p q r u d s t → CommonPoint q p r u d (d - s) t
first_turned p q r u d s t h = record {
  positive = h.positive;
  on_first = omega arith;
  on_second = h.on_second;
  equal_x = way_back d s p.x q.x h.on_first ∙ h.equal_x;
  equal_y = way_back d s p.y q.y h.on_first ∙ h.equal_y;
}

second_turned : (p q r u : Place) (d s t : ℕ) → CommonPoint p q r u d s t → CommonPoint p q u r d s (d - t)
second_turned p q r u d s t h = record {
  positive = h.positive;
  on_first = h.on_first;
  on_second = omega arith;
  equal_x = h.equal_x ∙ sym (way_back d t r.x u.x h.on_second);
  equal_y = h.equal_y ∙ sym (way_back d t r.y u.y h.on_second);
}

first_ends_swapped : (m : Meet) (p q r u : Place) → MeetIs m p q r u → MeetIs m q p r u
first_ends_swapped Apart p q r u h = λ d s t k. h d (d - s) t (first_turned q p r u d s t k)
first_ends_swapped Once p q r u h = (
  (h.0.0, h.0.0 - h.0.1, h.0.2, first_turned p q r u h.0.0 h.0.1 h.0.2 h.0.3),
  λ d s t d' s' t' k k'. rest_share d s d' s' k.on_first k'.on_first
      (h.1 d (d - s) t d' (d' - s') t' (first_turned q p r u d s t k) (first_turned q p r u d' s' t' k')),
)
first_ends_swapped Overlap p q r u h = record {
  d = h.d;
  s = h.d - h.s;
  t = h.t;
  d' = h.d';
  s' = h.d' - h.s';
  t' = h.t';
  one = first_turned p q r u h.d h.s h.t h.one;
  another = first_turned p q r u h.d' h.s' h.t' h.another;
  differ = λ e. h.differ (rest_share h.d h.s h.d' h.s' h.one.on_first h.another.on_first e);
}

second_ends_swapped : (m : Meet) (p q r u : Place) → MeetIs m p q r u → MeetIs m p q u r
second_ends_swapped Apart p q r u h = λ d s t k. h d s (d - t) (second_turned p q u r d s t k)
second_ends_swapped Once p q r u h = (
  (h.0.0, h.0.1, h.0.0 - h.0.2, second_turned p q r u h.0.0 h.0.1 h.0.2 h.0.3),
  λ d s t d' s' t' k k'. h.1 d s (d - t) d' s' (d' - t') (second_turned p q u r d s t k) (second_turned p q u r d' s' t' k'),
)
second_ends_swapped Overlap p q r u h = record {
  d = h.d;
  s = h.s;
  t = h.d - h.t;
  d' = h.d';
  s' = h.s';
  t' = h.d' - h.t';
  one = second_turned p q r u h.d h.s h.t h.one;
  another = second_turned p q r u h.d' h.s' h.t' h.another;
  differ = h.differ;
}

pub ends_swapped : (m : Meet) (p q r u : Place) → MeetIs m p q r u → MeetIs m q p r u × MeetIs m p q u r
ends_swapped m p q r u h = (first_ends_swapped m p q r u h, second_ends_swapped m p q r u h)
