-- The squares of a shape's parts, listed box by box: one more box, and when they are too many.
use Rattle.std.proofs.Common.{◌≡◌, ℕ, zero, suc, ◌+◌, ◌≤◌, Bool, true, false, cond, not, List, [], ◌∷◌, ◌++◌, map, length, take, drop, Some, slice_get, refl}
use Rattle.std.proofs.Common.{sym, ap, subst, ◌∙◌, arith, length-append, append_assoc, append-nil}
use Rattle.std.specs.Prelude.{filter, if◌then◌else◌}
use Rattle.std.specs.List.{fold, list_any}
use native.Mathlib.Numerals.{unary_clauses}
use Rattle.std.proofs.lemmas.Bool.{lt-ltb, ltb-true}
use Rattle.std.proofs.lemmas.List.{length-map, take-append-drop, take-append-le, take_all}
use Rattle.std.proofs.lemmas.List.Sums.{fold-append}
use Rattle.std.proofs.lemmas.Map.Made.{length-le_from_is_member}
use Rattle.clr_rows.specs.declared.places.Shape.{Shape}
use Rattle.clr_rows.specs.Parts.{parts_of}
use Rattle.clr_segments.specs.declared.boxes.Bounds.{Bounds}
use Rattle.clr_segments.specs.Bounding.{box_between}
use Rattle.clr_spots.specs.declared.limits.TheConstants.{MOST_SPOTS}
use Rattle.clr_spots.specs.declared.spots.Spot.{Spot}
use Rattle.clr_rules.specs.Sides.{Segment}
use Rattle.clr_spots.specs.SpotOrder.{same_spot}
use Rattle.clr_spots.specs.SpotOrderLaws.{same_spot_equiv}
use Rattle.clr_spots.specs.Spots.{squares_of, squares_of_all, boxes_of_parts, union, are_many, unless_many}
use Rattle.clr_spots.proofs.DistinctSpots.{squares_distinct}
use Rattle.clr_spots.proofs.PathSquares.{add_squares}
use Rattle.clr_spots.proofs.SharedSpots.{joined_back}

-- how many -------------------------------------------------------------------------------------
many_more : (xs ys : List Spot) → length xs ≤ length ys → are_many xs ≡ true → are_many ys ≡ true
many_more xs ys h e = let more = ltb-true MOST_SPOTS (length xs) e in lt-ltb MOST_SPOTS (length ys) (omega (arith, h, more))

joined_longer : (xs ys : List Spot) → length xs ≤ length (union xs ys)
joined_longer xs ys = omega (arith, length-append xs (filter (λ y. not (list_any (λ x. same_spot x y) xs)) ys))

all_longer : (xs : List Spot) (bs : List Bounds) → length xs ≤ length (fold add_squares xs bs)
all_longer xs [] = omega arith
all_longer xs (b ∷ bs) = let one = joined_longer xs (squares_of b) in let rest = all_longer (union xs (squares_of b)) bs in omega (arith, one, rest)

-- a box of too many squares makes any list too long
pub box_too_many : (xs : List Spot) (b : Bounds) → are_many (squares_of b) ≡ true → are_many (union xs (squares_of b)) ≡ true
box_too_many xs b e = many_more (squares_of b) (union xs (squares_of b))
    (length-le_from_is_member same_spot_equiv (squares_of b) (union xs (squares_of b)) (squares_distinct b) (λ q h. joined_back q xs (squares_of b) h)) e

-- the boxes up to one of them -------------------------------------------------------------------
taken_more : {X Y : Type 0} (f : X → Y) (xs : List X) (k : ℕ) (x : X) → slice_get xs k ≡ Some x → take (k + 1) (map f xs) ≡ take k (map f xs) ++ f x ∷ []
taken_more f [] k x e = absurd (cc)
taken_more f (y ∷ xs) zero x e = let same : y ≡ x = cc in ap (λ z. f z ∷ []) same
taken_more f (y ∷ xs) (suc k) x e = simp unary_clauses (ap (λ ys. f y ∷ ys) (simp unary_clauses at (taken_more f xs k x e)))

first_too_many : (bs : List Bounds) (k : ℕ) → are_many (squares_of_all (take k bs)) ≡ true → are_many (squares_of_all bs) ≡ true
unfolding squares_of_all
first_too_many bs k e = many_more (fold add_squares [] (take k bs)) (fold add_squares [] bs)
    (subst (λ (ys : List Spot). length (fold add_squares [] (take k bs)) ≤ length ys)
    (sym (fold-append add_squares [] (take k bs) (drop k bs)) ∙ ap (fold add_squares []) (take-append-drop k bs))
    (all_longer (fold add_squares [] (take k bs)) (drop k bs))) e

module _ (shape : Shape) (k : ℕ) (e : Segment) (list : List Spot) (at : slice_get (parts_of shape) k ≡ Some e)
    (is : list ≡ squares_of_all (take k (boxes_of_parts shape))) where
  pub part_added : union list (squares_of (box_between e.0 e.1)) ≡ squares_of_all (take (k + 1) (boxes_of_parts shape))
  unfolding squares_of_all
  part_added =
      let box : Segment → Bounds = λ s. box_between s.0 s.1 in
      sym (ap (fold add_squares []) (taken_more box (parts_of shape) k e at) ∙ fold-append add_squares [] (take k (map box (parts_of shape))) (box e ∷ [])
      ∙ ap (λ (xs : List Spot). union xs (squares_of (box e))) (sym is))

  pub part_too_many : are_many (union list (squares_of (box_between e.0 e.1))) ≡ true → are_many (squares_of_all (boxes_of_parts shape)) ≡ true
  part_too_many many = first_too_many (boxes_of_parts shape) (k + 1) (subst (λ (xs : List Spot). are_many xs ≡ true) part_added many)

pub none_kept : (xs : List Spot) → are_many xs ≡ true → [] ≡ unless_many xs
none_kept xs e = sym (ap (λ many. if many then [] else xs) e)

pub no_boxes : (shape : Shape) → [] ≡ squares_of_all (take 0 (boxes_of_parts shape))
unfolding squares_of_all
no_boxes shape = refl

-- one box alone ---------------------------------------------------------------------------------
none_before : (ys : List Spot) → union [] ys ≡ ys
none_before [] = refl
none_before (y ∷ ys) = ap (λ zs. y ∷ zs) (none_before ys)

pub one_box : (b : Bounds) → squares_of b ≡ squares_of_all (b ∷ [])
unfolding squares_of_all
one_box b = sym (none_before (squares_of b))

-- spots that a list doesn't have, added one by one ------------------------------------------------
abbrev pub is_new : List Spot → Spot → Bool
is_new xs y = not (list_any (λ x. same_spot x y) xs)

-- what is left of some spots is added to what is listed, and makes the whole
pub record AddsNew (xs ys list rest : List Spot) : Type 0 where
  pub first : take (length xs) list ≡ xs
  pub longer : length xs ≤ length list
  pub whole : list ++ filter (is_new xs) rest ≡ union xs ys

front_kept : (xs list : List Spot) (y : Spot) → take (length xs) list ≡ xs → length xs ≤ length list → take (length xs) (list ++ y ∷ []) ≡ xs
front_kept xs list y same h = take-append-le (length xs) list (y ∷ []) h ∙ same

-- one more spot, which is new
pub new_added : (xs ys list rest read : List Spot) (y : Spot) (has : Bool) → AddsNew xs ys list (y ∷ rest) → read ≡ take (length xs) list → has
    ≡ list_any (λ x. same_spot x y) read → has ≡ false
    → AddsNew xs ys (list ++ y ∷ []) rest
new_added xs ys list rest read y has h at test none =
    let new : list_any (λ x. same_spot x y) xs ≡ false = ap (λ ws. list_any (λ x. same_spot x y) ws) (sym (at ∙ h.first)) ∙ sym test ∙ none in
    record {
      first = front_kept xs list y h.first h.longer;
      longer = omega (arith, length-append list (y ∷ []), h.longer);
      whole = append_assoc list (y ∷ []) (filter (is_new xs) rest) ∙ ap (λ b. list ++ cond (not b) (y ∷ filter (is_new xs) rest) (filter (is_new xs) rest))
          (sym new) ∙ h.whole;
    }
