-- The searches of shares find what the relations speak of.
use Rattle.std.proofs.Common.{◌≡◌, ◌≢◌, ◌⊎◌, inl, inr, ℕ, zero, suc, pos, ◌*ℤ◌, ◌*◌, ◌≤◌, Bool, true, false, not, ◌&&◌, ◌||◌, nat_lt, nat_le, nat_eq}
use Rattle.std.proofs.Common.{true≢false, arith, refl, subst, ◌∙◌, sym}
use Rattle.std.specs.Bool.{Decides}
use Rattle.std.specs.Ordering.{int_eq}
use Rattle.std.proofs.lemmas.Bool.{leb-true, le-leb, eq-eqb, ne_eqb, cases_eq, and_parts, and_from, or_cases, or_left, or_right, not-true, not_from_false}
use Rattle.std.proofs.lemmas.Bool.{false_from_ne_true}
use Rattle.std.proofs.lemmas.Bool.Decides.{Decides-and, Decides-ltb, Decides-int_eq}
use Rattle.clr_rows.specs.declared.places.Place.{Place}
use Rattle.clr_rows.specs.Places.{Differ}
use Rattle.clr_segments.proofs.PointLemmas.{point_on_line, point_boxed, point_on_segment}
use Rattle.clr_segments.proofs.CommonLimits.{some_within, two_within}
use Rattle.clr_segments.specs.declared.meeting.Meet.{Meet}
use Rattle.clr_segments.specs.declared.meeting.Meet.TheVariants.{Apart, Once, Overlap}
use Rattle.clr_segments.specs.Segments.{part_way, PointAt, LiesOn, CommonPoint, SomeCommonPoint, TwoCommonPoints, MeetIs}
use Rattle.clr_segments.specs.Searches.{any_up_to, axis_distance, is_point_at, lies_on, is_common_point, any_common_point, have_common_point}
use Rattle.clr_segments.specs.Searches.{have_two_common_points}

-- ---- a search up to a number
found_up_to : (most : ℕ) (test : ℕ → Bool) → any_up_to most test ≡ true → (k : ℕ) × (k ≤ most) × (test k ≡ true)
unfolding any_up_to
found_up_to zero test e = (0, omega arith, e)
found_up_to (suc most) test e = by_part (found_up_to most test) (or_cases (any_up_to most test) (test (suc most)) e)
  where
    by_part : (any_up_to most test ≡ true → (k : ℕ) × (k ≤ most) × (test k ≡ true)) → (any_up_to most test ≡ true) ⊎ (test (suc most) ≡ true) → (k : ℕ)
        × (k ≤ suc most) × (test k ≡ true)
    by_part below (inl h) = let a = below h in (a.0, omega arith, a.2)
    by_part below (inr h) = (suc most, omega arith, h)

find_up_to : (most k : ℕ) (test : ℕ → Bool) → k ≤ most → test k ≡ true → any_up_to most test ≡ true
unfolding any_up_to
find_up_to zero k test h e = subst (λ (n : ℕ). test n ≡ true) (omega arith) e
find_up_to (suc most) k test h e = by_case (λ n. find_up_to most k test n e) (cases_eq k (suc most))
  where
    by_case : (k ≤ most → any_up_to most test ≡ true) → (k ≡ suc most) ⊎ (k ≡ suc most → ⊥) → (any_up_to most test || test (suc most)) ≡ true
    by_case below (inl same) = or_right (any_up_to most test) (test (suc most)) (subst (λ (n : ℕ). test n ≡ true) same e)
    by_case below (inr other) = or_left (any_up_to most test) (test (suc most)) (below (omega arith))

-- ---- the tests of shares
Decides-leb : (m n : ℕ) → Decides (nat_le m n) (m ≤ n)
Decides-leb m n = (leb-true m n, le-leb m n)

all_four : {P Q R S : Type 0} (a b c d : Bool) → Decides a P → Decides b Q → Decides c R → Decides d S → Decides (a && b && c && d) (((P × Q) × R) × S)
all_four a b c d h k m n = Decides-and (a && b && c) d (Decides-and (a && b) c (Decides-and a b h k) m) n

point_decides : (x p q : Place) (d s : ℕ) → Decides (is_point_at x p q d s) (PointAt x p q d s)
unfolding is_point_at
point_decides x p q d s =
    let in_x = Decides-int_eq (part_way d s p.x q.x) (pos d *ℤ x.x) in
    let in_y = Decides-int_eq (part_way d s p.y q.y) (pos d *ℤ x.y) in
    let parts = all_four (nat_lt 0 d) (nat_le s d) (int_eq (part_way d s p.x q.x) (pos d *ℤ x.x)) (int_eq (part_way d s p.y q.y) (pos d *ℤ x.y))
    (Decides-ltb 0 d) (Decides-leb s d) in_x in_y in (
      λ e. let h = parts.0 e in record { positive = h.0.0.0; on_segment = h.0.0.1; equal_x = h.0.1; equal_y = h.1 },
      λ h. parts.1 (((h.positive, h.on_segment), h.equal_x), h.equal_y),
    )

common_decides : (p q r u : Place) (d s t : ℕ) → Decides (is_common_point p q r u d s t) (CommonPoint p q r u d s t)
unfolding is_common_point
common_decides p q r u d s t =
    let in_x = Decides-int_eq (part_way d s p.x q.x) (part_way d t r.x u.x) in
    let in_y = Decides-int_eq (part_way d s p.y q.y) (part_way d t r.y u.y) in
    let most = all_four (nat_lt 0 d) (nat_le s d) (nat_le t d) (int_eq (part_way d s p.x q.x) (part_way d t r.x u.x)) (Decides-ltb 0 d) (Decides-leb s d)
    (Decides-leb t d) in_x in
    let parts = Decides-and (nat_lt 0 d && nat_le s d && nat_le t d && int_eq (part_way d s p.x q.x) (part_way d t r.x u.x))
    (int_eq (part_way d s p.y q.y) (part_way d t r.y u.y)) most in_y in (
      λ e. let h = parts.0 e in record { positive = h.0.0.0.0; on_first = h.0.0.0.1; on_second = h.0.0.1; equal_x = h.0.1; equal_y = h.1 },
      λ h. parts.1 ((((h.positive, h.on_first), h.on_second), h.equal_x), h.equal_y),
    )

-- ---- a place on a segment
pub on_from_search : (x p q : Place) → lies_on x p q ≡ true → LiesOn x p q
unfolding lies_on
on_from_search x p q e =
    let a = found_up_to (axis_distance p q) (λ d. any_up_to d (λ s. is_point_at x p q d s)) e in
    let b = found_up_to a.0 (λ s. is_point_at x p q a.0 s) a.2 in
    (a.0, b.0, (point_decides x p q a.0 b.0).0 b.2)

within_search : (x p q : Place) (d s : ℕ) → d ≤ axis_distance p q → PointAt x p q d s → lies_on x p q ≡ true
unfolding lies_on
within_search x p q d s h k =
    find_up_to (axis_distance p q) d (λ d. any_up_to d (λ s. is_point_at x p q d s)) h
    (find_up_to d s (λ s. is_point_at x p q d s) k.on_segment ((point_decides x p q d s).1 k))

pub search_from_on : (x p q : Place) → Differ p q → LiesOn x p q → lies_on x p q ≡ true
unfolding axis_distance
search_from_on x p q l h =
    let a = point_on_segment x p q l (point_on_line x p q h) (point_boxed x p q h) in
    within_search x p q a.0 a.1 a.3 a.2

pub points_found : (x p q : Place) → Differ p q → Decides (lies_on x p q) (LiesOn x p q)
points_found x p q l = (on_from_search x p q, search_from_on x p q l)

-- ---- common points of two segments
abbrev Found : Place → Place → Place → Place → (ℕ → ℕ → Bool) → Type 0
Found p q r u test = (d : ℕ) × (s : ℕ) × (t : ℕ) × CommonPoint p q r u d s t × (test d s ≡ true)

found_common : (p q r u : Place) (test : ℕ → ℕ → Bool) → any_common_point p q r u test ≡ true → Found p q r u test
unfolding any_common_point
found_common p q r u test e =
    let a = found_up_to (axis_distance p q * axis_distance r u) (λ d. any_up_to d (λ s. any_up_to d (λ t. is_common_point p q r u d s t && test d s))) e in
    let b = found_up_to a.0 (λ s. any_up_to a.0 (λ t. is_common_point p q r u a.0 s t && test a.0 s)) a.2 in
    let c = found_up_to a.0 (λ t. is_common_point p q r u a.0 b.0 t && test a.0 b.0) b.2 in
    let both = and_parts (is_common_point p q r u a.0 b.0 c.0) (test a.0 b.0) c.2 in
    (a.0, b.0, c.0, (common_decides p q r u a.0 b.0 c.0).0 both.0, both.1)

find_common : (p q r u : Place) (test : ℕ → ℕ → Bool) (d s t : ℕ) → d ≤ axis_distance p q * axis_distance r u → CommonPoint p q r u d s t → test d s ≡ true
    → any_common_point p q r u test ≡ true
unfolding any_common_point
find_common p q r u test d s t h k e =
    find_up_to (axis_distance p q * axis_distance r u) d (λ d. any_up_to d (λ s. any_up_to d (λ t. is_common_point p q r u d s t && test d s))) h
    (find_up_to d s (λ s. any_up_to d (λ t. is_common_point p q r u d s t && test d s)) k.on_first
    (find_up_to d t (λ t. is_common_point p q r u d s t && test d s) k.on_second
    (and_from (is_common_point p q r u d s t) (test d s) ((common_decides p q r u d s t).1 k) e)))

pub common_from_search : (p q r u : Place) → have_common_point p q r u ≡ true → SomeCommonPoint p q r u
unfolding have_common_point
common_from_search p q r u e = let a = found_common p q r u (λ d s. true) e in (a.0, a.1, a.2, a.3)

pub search_from_common : (p q r u : Place) → Differ p q → Differ r u → SomeCommonPoint p q r u → have_common_point p q r u ≡ true
unfolding have_common_point
search_from_common p q r u l n h =
    let a = some_within p q r u h.0 h.1 h.2 l n h.3 in
    find_common p q r u (λ d s. true) a.0 a.1 a.2 a.4 a.3 refl

pub common_points_found : (p q r u : Place) → Differ p q → Differ r u → Decides (have_common_point p q r u) (SomeCommonPoint p q r u)
common_points_found p q r u l n = (common_from_search p q r u, search_from_common p q r u l n)

-- ---- two that differ
differ_decides : (m n : ℕ) → Decides (not (nat_eq m n)) (m ≢ n)
differ_decides m n = (λ e same. true≢false (sym (eq-eqb m n same) ∙ not-true (nat_eq m n) e), λ h. not_from_false (nat_eq m n) (ne_eqb m n h))

pub two_from_search : (p q r u : Place) → have_two_common_points p q r u ≡ true → TwoCommonPoints p q r u
unfolding have_two_common_points
two_from_search p q r u e =
    let a = found_common p q r u (λ d s. any_common_point p q r u (λ d' s'. not (nat_eq (s * d') (s' * d)))) e in
    let b = found_common p q r u (λ d' s'. not (nat_eq (a.1 * d') (s' * a.0))) a.4 in
    record {
      d = a.0;
      s = a.1;
      t = a.2;
      d' = b.0;
      s' = b.1;
      t' = b.2;
      one = a.3;
      another = b.3;
      differ = (differ_decides (a.1 * b.0) (b.1 * a.0)).0 b.4;
    }

pub search_from_two : (p q r u : Place) → Differ p q → Differ r u → TwoCommonPoints p q r u → have_two_common_points p q r u ≡ true
unfolding have_two_common_points
search_from_two p q r u l n h =
    let k = two_within p q r u l n h in
    let a = k.two in
    find_common p q r u (λ d s. any_common_point p q r u (λ d' s'. not (nat_eq (s * d') (s' * d)))) a.d a.s a.t k.one_within a.one
    (find_common p q r u (λ d' s'. not (nat_eq (a.s * d') (s' * a.d))) a.d' a.s' a.t' k.another_within a.another
    ((differ_decides (a.s * a.d') (a.s' * a.d)).1 a.differ))

pub two_common_points_found : (p q r u : Place) → Differ p q → Differ r u → Decides (have_two_common_points p q r u) (TwoCommonPoints p q r u)
two_common_points_found p q r u l n = (two_from_search p q r u, search_from_two p q r u l n)

-- ---- the searches where it is known how two segments meet
abbrev pub not_apart : Meet → Bool
not_apart Apart = false
not_apart Once = true
not_apart Overlap = true

abbrev pub is_overlap : Meet → Bool
is_overlap Apart = false
is_overlap Once = false
is_overlap Overlap = true

pub common_by_meet : (m : Meet) (p q r u : Place) → Differ p q → Differ r u → MeetIs m p q r u → have_common_point p q r u ≡ not_apart m
common_by_meet Apart p q r u l n h = false_from_ne_true (have_common_point p q r u)
    (λ e. let a = common_from_search p q r u e in h a.0 a.1 a.2 a.3)
common_by_meet Once p q r u l n h = search_from_common p q r u l n h.0
common_by_meet Overlap p q r u l n h = search_from_common p q r u l n (h.d, h.s, h.t, h.one)

pub two_by_meet : (m : Meet) (p q r u : Place) → Differ p q → Differ r u → MeetIs m p q r u → have_two_common_points p q r u ≡ is_overlap m
two_by_meet Apart p q r u l n h = false_from_ne_true (have_two_common_points p q r u)
    (λ e. let a = two_from_search p q r u e in h a.d a.s a.t a.one)
two_by_meet Once p q r u l n h = false_from_ne_true (have_two_common_points p q r u)
    (λ e. let a = two_from_search p q r u e in a.differ (h.1 a.d a.s a.t a.d' a.s' a.t' a.one a.another))
two_by_meet Overlap p q r u l n h = search_from_two p q r u l n h
