-- A row has each of its spots once.
use Rattle.std.proofs.Common.{◌≡◌, inl, inr, ℕ, zero, suc, ◌<◌, ℤ, pos, ◌+ℤ◌, Bool, true, false, cond, not, List, [], ◌∷◌, ◌++◌, filter, Option, Some, None}
use Rattle.std.proofs.Common.{refl, sym, ap, ◌∙◌, arith}
use Rattle.std.proofs.lemmas.Bool.{false_from_ne_true}
use Rattle.std.proofs.lemmas.Int.{ints}
use Rattle.std.specs.List.{fold, list_any, IsDistinct}
use Rattle.clr_rows.specs.declared.places.Place.{Place}
use Rattle.clr_segments.specs.declared.boxes.Bounds.{Bounds}
use Rattle.clr_rules.specs.declared.rules.Rule.{Rule}
use Rattle.clr_rules.specs.declared.rules.Rule.TheVariants.{Unique, Partner, EndNode, Crossing, Near}
use Rattle.clr_spots.specs.declared.spots.Spot.{Spot}
use Rattle.clr_spots.specs.declared.spots.Spot.TheVariants.{Square}
use Rattle.clr_spots.specs.declared.spots.Spot.TheVariants as spot
use Rattle.clr_spots.specs.Laws.{SpotsDiffer}
use Rattle.clr_rows.specs.Held.{Held}
use Rattle.clr_spots.specs.SpotOrder.{same_spot}
use Rattle.clr_spots.specs.SpotOrderLaws.{same_spot_is}
use Rattle.clr_spots.specs.Spots.{square_of, span, column_of_squares, grid_of_squares, squares_of, squares_of_all, squares_near, square_at, in_role, union}
use Rattle.clr_spots.specs.Spots.{are_many, all_spots, spots}
use Rattle.clr_spots.proofs.PathSquares.{add_squares}
use Rattle.clr_rules.proofs.Elements.{clash, Among, among_either, among_kept, all_by, any_by, each_of}

abbrev pub AreDistinct : List Spot → Type 0
AreDistinct = IsDistinct same_spot

apart : (x y : Spot) → (x ≡ y → ⊥) → same_spot x y ≡ false
apart x y n = false_from_ne_true (same_spot x y) (λ e. n (same_spot_is x y e))

both_distinct : (xs ys : List Spot) → AreDistinct xs → AreDistinct ys → ((x y : Spot) → Among x xs → Among y ys → same_spot x y ≡ false)
    → AreDistinct (xs ++ ys)
unfolding IsDistinct
both_distinct [] ys p q h = q
both_distinct (x ∷ xs) ys p q h = (
  all_by (λ y. same_spot x y ≡ false) (xs ++ ys) (λ y k. elim (among_either y xs ys k) [
    | inl l ↦ each_of (λ z. same_spot x z ≡ false) y xs p.0 l
    | inr l ↦ h x y
        (inl refl) l
  ]),
  both_distinct xs ys p.1 q (λ w y k l. h w y (inr k) l),
)

one_distinct : (x : Spot) → AreDistinct (x ∷ [])
unfolding IsDistinct
one_distinct x = (tt, tt)

none_distinct : AreDistinct []
unfolding IsDistinct
none_distinct = tt

-- squares --------------------------------------------------------------------------------------
in_column : (i j : ℤ) (n : ℕ) (x : Spot) → Among x (column_of_squares i j n) → (k : ℕ) × (k < n) × (x ≡ Square i (j +ℤ pos k))
in_column i j zero x h = absurd h
in_column i j (suc n) x h = elim (among_either x (column_of_squares i j n) (Square i (j +ℤ pos n) ∷ []) h) [
  | inl k ↦ (let m = in_column i j n x k in (m.0, omega (arith, m.1), m.2))
  | inr (inl e) ↦ (n, omega arith, sym e)
  | inr (inr k) ↦ absurd k
]

in_grid : (i j : ℤ) (m n : ℕ) (x : Spot) → Among x (grid_of_squares i j m n) → (l : ℕ) × (k : ℕ) × (l < m) × (x ≡ Square (i +ℤ pos l) (j +ℤ pos k))
in_grid i j zero n x h = absurd h
in_grid i j (suc m) n x h = elim (among_either x (grid_of_squares i j m n) (column_of_squares (i +ℤ pos m) j n) h) [
  | inl k ↦ (let g = in_grid i j m n x k in (g.0, g.1, omega (arith, g.2), g.3))
  | inr k ↦ (let c = in_column (i +ℤ pos m) j n x k in (m, c.0, omega arith, c.2))
]

abbrev first_of : Spot → ℤ → ℤ
first_of (Square i j) d = i
first_of (spot.Values vs) d = d

abbrev second_of : Spot → ℤ → ℤ
second_of (Square i j) d = j
second_of (spot.Values vs) d = d

column_distinct : (i j : ℤ) (n : ℕ) → AreDistinct (column_of_squares i j n)
column_distinct i j zero = none_distinct
column_distinct i j (suc n) = both_distinct (column_of_squares i j n) (Square i (j +ℤ pos n)
    ∷ []) (column_distinct i j n) (one_distinct (Square i (j +ℤ pos n)))
    (λ x y h k. apart x y (λ e. let c = in_column i j n x h in last i j c.0 n c.1 x y c.2 k e))
  where
    last : (i j : ℤ) (k n : ℕ) → k < n → (x y : Spot) → x ≡ Square i (j +ℤ pos k) → Among y (Square i (j +ℤ pos n) ∷ []) → x ≡ y → ⊥
    last i j k n less x y is (inl at) e = let same : j +ℤ pos k ≡ j +ℤ pos n = ap (λ s. second_of s j) (sym is ∙ e ∙ sym at) in omega (arith, ints, less, same)
    last i j k n less x y is (inr h) e = absurd h

grid_distinct : (i j : ℤ) (m n : ℕ) → AreDistinct (grid_of_squares i j m n)
grid_distinct i j zero n = none_distinct
grid_distinct i j (suc m) n = both_distinct (grid_of_squares i j m n) (column_of_squares (i +ℤ pos m) j n) (grid_distinct i j m n)
    (column_distinct (i +ℤ pos m) j n)
    (λ x y h k. apart x y (λ e.
    let g = in_grid i j m n x h in
    let c = in_column (i +ℤ pos m) j n y k in
    let same : i +ℤ pos g.0 ≡ i +ℤ pos m = ap (λ s. first_of s i) (sym g.3 ∙ e ∙ c.2) in
    omega (arith, ints, g.2, same)))

pub squares_distinct : (b : Bounds) → AreDistinct (squares_of b)
unfolding squares_of
squares_distinct b = grid_distinct (square_of b.least.x) (square_of b.least.y) (span b.least.x b.most.x) (span b.least.y b.most.y)

-- roles ----------------------------------------------------------------------------------------
role_distinct : (has : Bool) (xs : List Spot) → AreDistinct xs → AreDistinct (in_role has xs)
role_distinct true xs p = p
role_distinct false xs p = none_distinct

kept_distinct : (p : Spot → Bool) (xs : List Spot) → AreDistinct xs → AreDistinct (filter p xs)
unfolding IsDistinct
kept_distinct p [] d = tt
kept_distinct p (x ∷ xs) d = go (p x) (kept_distinct p xs d.1)
  where
    go : (b : Bool) → AreDistinct (filter p xs) → AreDistinct (cond b (x ∷ filter p xs) (filter p xs))
    go true more = (all_by (λ y. same_spot x y ≡ false) (filter p xs) (λ y h. each_of (λ z. same_spot x z ≡ false) y xs d.0 (among_kept p y xs h).0), more)
    go false more = more

joined_distinct : (xs ys : List Spot) → AreDistinct xs → AreDistinct ys → AreDistinct (union xs ys)
joined_distinct xs ys p q = both_distinct xs (filter new ys) p (kept_distinct new ys q)
    (λ x y h k. false_from_ne_true (same_spot x y) (λ e. clash (list_any (λ w. same_spot w y) xs) (any_by (λ w. same_spot w y) x xs h e)
    (among_kept new y ys k).1))
  where
    new : Spot → Bool
    new = λ y. not (list_any (λ x. same_spot x y) xs)

all_squares_distinct : (xs : List Spot) (bs : List Bounds) → AreDistinct xs → AreDistinct (fold add_squares xs bs)
all_squares_distinct xs [] p = p
all_squares_distinct xs (b ∷ bs) p = all_squares_distinct (union xs (squares_of b)) bs (joined_distinct xs (squares_of b) p (squares_distinct b))

boxes_distinct : (bs : List Bounds) → AreDistinct (squares_of_all bs)
unfolding squares_of_all
boxes_distinct bs = all_squares_distinct [] bs none_distinct

place_distinct : (p : Option Place) → AreDistinct (square_at p)
place_distinct None = none_distinct
place_distinct (Some p) = one_distinct _

near_distinct : (d : ℤ) (p : Option Place) → AreDistinct (squares_near d p)
near_distinct d None = none_distinct
near_distinct d (Some p) = squares_distinct _

all_distinct : (rule : Rule) (s : Held) → AreDistinct (all_spots rule s)
unfolding all_spots
all_distinct (Unique subject columns) s = role_distinct _ _ (one_distinct _)
all_distinct (Partner subject columns server server_columns) s = joined_distinct _ _ (role_distinct _ _ (one_distinct _)) (role_distinct _ _ (one_distinct _))
all_distinct (EndNode subject tip server) s = joined_distinct _ _ (role_distinct _ _ (place_distinct _)) (role_distinct _ _ (place_distinct _))
all_distinct (Crossing a b server) s = role_distinct _ _ (boxes_distinct _)
all_distinct (Near a b d) s = role_distinct _ _ (near_distinct _ _)

pub spots_differ : SpotsDiffer
unfolding spots
spots_differ rule s = go (are_many (all_spots rule s))
  where
    go : (b : Bool) → AreDistinct (cond b [] (all_spots rule s))
    go true = none_distinct
    go false = all_distinct rule s
