-- Rows with a common spot share one, or one of them is wide.
use Rattle.std.proofs.Common.{◌≡◌, ◌⊎◌, inl, inr, Bool, true, false, not, cond, ◌||◌, List, [], ◌∷◌, ◌++◌, refl, sym, ap, subst, ◌∙◌}
use Rattle.std.specs.Prelude.{filter, if◌then◌else◌}
use Rattle.std.specs.Cmp.{both_ways}
use Rattle.std.specs.List.{list_any}
use Rattle.std.proofs.lemmas.Bool.{cases_Bool, or_cases, or_left, or_right, false≢true}
use Rattle.std.proofs.lemmas.List.Folds.{list_any-append}
use Rattle.clr_rules.specs.declared.rules.Rule.{Rule}
use Rattle.clr_spots.specs.declared.spots.Spot.{Spot}
use Rattle.clr_rows.specs.Held.{Held}
use Rattle.clr_spots.specs.SpotOrder.{same_spot}
use Rattle.clr_spots.specs.SpotOrderLaws.{same_spot_is, same_spot_itself, same_spot_equiv}
use Rattle.clr_spots.specs.Spots.{in_role, union, are_many, unless_many, all_spots, is_wide, spots, have_common_spot, share}

-- the spot is in the list
abbrev pub Listed : Spot → List Spot → Type 0
Listed x xs = list_any (same_spot x) xs ≡ true

pub listed_alone : (x : Spot) → Listed x (x ∷ [])
listed_alone x = or_left (same_spot x x) false (same_spot_itself x)

listed_in_front : (x : Spot) (xs ys : List Spot) → Listed x xs → Listed x (xs ++ ys)
listed_in_front x xs ys h = list_any-append (same_spot x) xs ys ∙ or_left _ _ h

listed_behind : (x : Spot) (xs ys : List Spot) → Listed x ys → Listed x (xs ++ ys)
listed_behind x xs ys h = list_any-append (same_spot x) xs ys ∙ or_right _ _ h

-- ---- of a role, and of two
pub listed_in_role : (x : Spot) (has : Bool) (xs : List Spot) → has ≡ true → Listed x xs → Listed x (in_role has xs)
listed_in_role x true xs e h = h
listed_in_role x false xs e h = absurd (false≢true e)

pub joined_front : (x : Spot) (xs ys : List Spot) → Listed x xs → Listed x (union xs ys)
joined_front x xs ys h = listed_in_front x xs (filter (λ y. not (list_any (λ w. same_spot w y) xs)) ys) h

turned : (x : Spot) (xs : List Spot) → list_any (λ w. same_spot w x) xs ≡ list_any (same_spot x) xs
turned x xs = ap (λ (f : Spot → Bool). list_any f xs) (λ i w. same_spot_equiv.symm w x i)

one_stays : (x y : Spot) (xs ys rest : List Spot) (has : Bool) → list_any (λ w. same_spot w y) xs ≡ has → list_any (same_spot x) xs ≡ false
    → (same_spot x y ≡ true) ⊎ Listed x ys → (Listed x ys → Listed x rest) → Listed x (cond (not has) (y ∷ rest) rest)
one_stays x y xs ys rest true e new (inl same) later =
    let old : list_any (same_spot x) xs ≡ true = subst (λ z. list_any (same_spot z) xs ≡ true) (sym (same_spot_is x y same)) (sym (turned y xs) ∙ e) in
    absurd (false≢true (sym new ∙ old))
one_stays x y xs ys rest true e new (inr behind) later = later behind
one_stays x y xs ys rest false e new (inl same) later = or_left (same_spot x y) (list_any (same_spot x) rest) same
one_stays x y xs ys rest false e new (inr behind) later = or_right (same_spot x y) (list_any (same_spot x) rest) (later behind)

-- a spot of the second list is in the first one, or stays
stays : (x : Spot) (xs ys : List Spot) → list_any (same_spot x) xs ≡ false → Listed x ys → Listed x (filter (λ y. not (list_any (λ w. same_spot w y) xs)) ys)
stays x xs [] new h = absurd (false≢true h)
stays x xs (y ∷ ys) new h =
    one_stays x y xs ys (filter (λ z. not (list_any (λ w. same_spot w z) xs)) ys) (list_any (λ w. same_spot w y) xs) refl new
    (or_cases (same_spot x y) (list_any (same_spot x) ys) h) (stays x xs ys new)

pub joined_back : (x : Spot) (xs ys : List Spot) → Listed x ys → Listed x (union xs ys)
joined_back x xs ys h = elim (cases_Bool (list_any (same_spot x) xs)) [
  | inl old ↦ joined_front x xs ys old
  | inr new ↦ listed_behind x xs (filter (λ y. not (list_any (λ w. same_spot w y) xs)) ys) (stays x xs ys new h)
]

-- ---- common spots
pub common_of : (x : Spot) (xs ys : List Spot) → Listed x xs → Listed x ys → have_common_spot xs ys ≡ true
common_of x [] ys h k = absurd (false≢true h)
common_of x (y ∷ xs) ys h k = elim (or_cases (same_spot x y) (list_any (same_spot x) xs) h) [
  | inl same ↦ or_left _ _ (subst (λ z. list_any (same_spot z) ys ≡ true) (same_spot_is x y same) k)
  | inr later ↦ or_right _ _ (common_of x xs ys later k)
]

-- some spot is in both lists
abbrev pub Common : List Spot → List Spot → Type 0
Common xs ys = (x : Spot) × Listed x xs × Listed x ys

common_in : (xs ys : List Spot) → have_common_spot xs ys ≡ true → Common xs ys
common_in [] ys e = absurd (false≢true e)
common_in (x ∷ xs) ys e = elim (or_cases (list_any (same_spot x) ys) (have_common_spot xs ys) e) [
  | inl here ↦ (x, or_left _ _ (same_spot_itself x), here)
  | inr later ↦ let w = common_in xs ys later in (w.0, or_right _ _ w.1, w.2)
]

common_back : (xs ys : List Spot) → have_common_spot xs ys ≡ have_common_spot ys xs
common_back xs ys = both_ways (have_common_spot xs ys) (have_common_spot ys xs)
    (λ e. let w = common_in xs ys e in common_of w.0 ys xs w.2 w.1)
    (λ e. let w = common_in ys xs e in common_of w.0 xs ys w.2 w.1)

-- ---- rows
kept_whole : (xs : List Spot) → are_many xs ≡ false → xs ≡ unless_many xs
kept_whole xs few = sym (ap (λ many. if many then [] else xs) few)

-- rows with a spot in common share one
pub share_by : (rule : Rule) (s t : Held) (x : Spot) → Listed x (all_spots rule s) → Listed x (all_spots rule t) → share rule s t ≡ true
unfolding share spots is_wide
share_by rule s t x h k =
    let xs = all_spots rule s in
    let ys = all_spots rule t in
    elim (cases_Bool (are_many xs)) [
      | inl wide ↦ or_left (are_many xs || are_many ys) _ (or_left (are_many xs) (are_many ys) wide)
      | inr few ↦ elim (cases_Bool (are_many ys)) [
        | inl wide ↦ or_left (are_many xs || are_many ys) _ (or_right (are_many xs) (are_many ys) wide)
        | inr low ↦ or_right (are_many xs || are_many ys) _
            (common_of x (unless_many xs) (unless_many ys) (subst (Listed x) (kept_whole xs few) h) (subst (Listed x) (kept_whole ys low) k))
      ]
    ]

swapped : (a b c d : Bool) → c ≡ d → (a || b || c) ≡ (b || a || d)
swapped true true c d e = refl
swapped true false c d e = refl
swapped false true c d e = refl
swapped false false c d e = e

pub share_back : (rule : Rule) (s t : Held) → share rule s t ≡ share rule t s
unfolding share
share_back rule s t = swapped (is_wide rule s) (is_wide rule t) _ _ (common_back (spots rule s) (spots rule t))
