-- The parts of a path, by its vertices.
use Rattle.std.proofs.Common.{◌≡◌, ℕ, zero, suc, ◌-◌, ◌≤◌, List, [], ◌∷◌, drop, length, Some, None, refl, ap, ◌∙◌, arith}
use Rattle.std.specs.Prelude.{slice_get}
use Rattle.std.specs.List.{zip}
use Rattle.std.proofs.lemmas.Option.{same_Some}
use Rattle.clr_rows.specs.declared.places.Place.{Place}
use Rattle.clr_rows.specs.Parts.{path_parts}

-- a pair of two lists side by side has an element of each
zip_at : {X Y : Type 0} (xs : List X) (ys : List Y) (i : ℕ) (p : X × Y) → slice_get (zip xs ys) i ≡ Some p → (slice_get xs i ≡ Some p.0)
    × (slice_get ys i ≡ Some p.1)
zip_at [] ys i p is = cc
zip_at (x ∷ xs) [] i p is = cc
zip_at (x ∷ xs) (y ∷ ys) zero p is = let same = same_Some (x, y) p is in (ap (λ e. Some e.0) same, ap (λ e. Some e.1) same)
zip_at (x ∷ xs) (y ∷ ys) (suc i) p is = zip_at xs ys i p is

next_at : {X : Type 0} (xs : List X) (i : ℕ) (x : X) → slice_get (drop 1 xs) i ≡ Some x → slice_get xs (suc i) ≡ Some x
next_at [] i x is = cc
next_at (y ∷ ys) i x is = is

-- the n-th part of a path goes from its n-th vertex to the next, counted from 0
pub path_part : (vertices : List Place) (n : ℕ) (part : Place × Place) → slice_get (path_parts vertices) n ≡ Some part → (slice_get vertices n ≡ Some part.0)
    × (slice_get vertices (suc n) ≡ Some part.1)
path_part vertices n part is = let ends = zip_at vertices (drop 1 vertices) n part is in (ends.0, next_at vertices n part.1 ends.1)

next_as : {X : Type 0} (xs : List X) (i : ℕ) → slice_get (drop 1 xs) i ≡ slice_get xs (suc i)
next_as [] i = refl
next_as (y ∷ ys) i = refl

both_at : {X Y : Type 0} (xs : List X) (ys : List Y) (i : ℕ) (x : X) (y : Y) → slice_get xs i ≡ Some x → slice_get ys i ≡ Some y → slice_get (zip xs ys) i
    ≡ Some (x, y)
both_at [] ys i x y is are = cc
both_at (a ∷ xs) [] i x y is are = cc
both_at (a ∷ xs) (b ∷ ys) zero x y is are = let first = same_Some a x is in let second = same_Some b y are in λ j. Some (first j, second j)
both_at (a ∷ xs) (b ∷ ys) (suc i) x y is are = both_at xs ys i x y is are

none_beside : {X Y : Type 0} (xs : List X) (ys : List Y) (i : ℕ) → slice_get ys i ≡ None → slice_get (zip xs ys) i ≡ None
none_beside [] ys i none = refl
none_beside (a ∷ xs) [] i none = refl
none_beside (a ∷ xs) (b ∷ ys) zero none = cc
none_beside (a ∷ xs) (b ∷ ys) (suc i) none = none_beside xs ys i none

-- two neighbours are a part
pub part_between : (vertices : List Place) (n : ℕ) (p q : Place) → slice_get vertices n ≡ Some p → slice_get vertices (suc n) ≡ Some q
    → slice_get (path_parts vertices) n ≡ Some (p, q)
part_between vertices n p q is next = both_at vertices (drop 1 vertices) n p q is (next_as vertices n ∙ next)

-- the last vertex begins none
pub no_part : (vertices : List Place) (n : ℕ) → slice_get vertices (suc n) ≡ None → slice_get (path_parts vertices) n ≡ None
no_part vertices n none = none_beside vertices (drop 1 vertices) n (next_as vertices n ∙ none)

beside-length : {X Y : Type 0} (xs : List X) (ys : List Y) → length ys ≤ length xs → length (zip xs ys) ≡ length ys
beside-length [] [] h = refl
beside-length [] (y ∷ ys) h = absurd (omega arith)
beside-length (x ∷ xs) [] h = refl
beside-length (x ∷ xs) (y ∷ ys) h = ap suc (beside-length xs ys (omega arith))

-- a path has a part fewer than vertices
pub length-path_parts : (vertices : List Place) → length (path_parts vertices) ≡ length vertices - 1
length-path_parts [] = refl
length-path_parts (p ∷ ps) = omega (arith, beside-length (p ∷ ps) ps (omega arith))
