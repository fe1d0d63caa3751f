-- The tests of sameness decide equality.
use Rattle.std.proofs.Common.{◌≡◌, true, List, [], ◌∷◌, Option, Some, None, refl, ap, subst}
use Rattle.std.specs.Prelude.{Decides}
use Rattle.std.specs.Cmp.Lexicographic.{bytes_decides}
use Rattle.std.specs.Ordering.{int_eq}
use Rattle.std.proofs.lemmas.Bool.{and_parts, false≢true}
use Rattle.std.proofs.lemmas.Bool.Decides.{Decides-int_eq}
use Rattle.clr_rows.specs.declared.places.Place.{Place}
use Rattle.clr_rows.specs.declared.places.Shape.{Shape}
use Rattle.clr_rows.specs.declared.places.Shape.TheVariants.{Bare, At, Line, Chain}
use Rattle.clr_rows.specs.declared.rows.Value.{Value}
use Rattle.clr_rows.specs.declared.rows.Value.TheVariants.{Int, Words}
use Rattle.clr_rows.specs.declared.rows.Row.{Row}
use Rattle.clr_rows.specs.Same.{same_value, same_values, same_place, same_places, same_shape, same_row, same}

pub value_is : (v w : Value) → same_value v w ≡ true → v ≡ w
value_is (Int a) (Int b) e = ap Int ((Decides-int_eq a b).0 e)
value_is (Words a) (Words b) e = ap Words ((bytes_decides a b).0 e)
value_is (Int a) (Words b) e = absurd (false≢true e)
value_is (Words a) (Int b) e = absurd (false≢true e)

pub value_same : (v : Value) → same_value v v ≡ true
value_same (Int a) = (Decides-int_eq a a).1 refl
value_same (Words a) = (bytes_decides a a).1 refl

pub value_decides : (v w : Value) → Decides (same_value v w) (v ≡ w)
value_decides v w = (value_is v w, λ e. subst (λ u. same_value v u ≡ true) e (value_same v))

pub values_are : (vs ws : List Value) → same_values vs ws ≡ true → vs ≡ ws
values_are [] [] e = refl
values_are [] (w ∷ ws) e = absurd (false≢true e)
values_are (v ∷ vs) [] e = absurd (false≢true e)
values_are (v ∷ vs) (w ∷ ws) e =
    let parts = and_parts (same_value v w) (same_values vs ws) e in
    let head = value_is v w parts.0 in
    let rest = values_are vs ws parts.1 in
    λ i. head i ∷ rest i

pub values_same : (vs : List Value) → same_values vs vs ≡ true
values_same [] = refl
values_same (v ∷ vs) = rw (value_same v, values_same vs) refl

pub place_is : (p q : Place) → same_place p q ≡ true → p ≡ q
place_is p q e =
    let parts = and_parts (int_eq p.x q.x) (int_eq p.y q.y) e in
    let x = (Decides-int_eq p.x q.x).0 parts.0 in
    let y = (Decides-int_eq p.y q.y).0 parts.1 in
    λ i. record { x = x i; y = y i }

place_same : (p : Place) → same_place p p ≡ true
place_same p = rw ((Decides-int_eq p.x p.x).1 refl, (Decides-int_eq p.y p.y).1 refl) refl

pub place_decides : (p q : Place) → Decides (same_place p q) (p ≡ q)
place_decides p q = (place_is p q, λ e. subst (λ u. same_place p u ≡ true) e (place_same p))

places_are : (ps qs : List Place) → same_places ps qs ≡ true → ps ≡ qs
places_are [] [] e = refl
places_are [] (q ∷ qs) e = absurd (false≢true e)
places_are (p ∷ ps) [] e = absurd (false≢true e)
places_are (p ∷ ps) (q ∷ qs) e =
    let parts = and_parts (same_place p q) (same_places ps qs) e in
    let head = place_is p q parts.0 in
    let rest = places_are ps qs parts.1 in
    λ i. head i ∷ rest i

places_same : (ps : List Place) → same_places ps ps ≡ true
places_same [] = refl
places_same (p ∷ ps) = rw (place_same p, places_same ps) refl

shape_is : (s t : Shape) → same_shape s t ≡ true → s ≡ t
shape_is Bare Bare e = refl
shape_is Bare (At q) e = absurd (false≢true e)
shape_is Bare (Line q r) e = absurd (false≢true e)
shape_is Bare (Chain qs) e = absurd (false≢true e)
shape_is (At p) Bare e = absurd (false≢true e)
shape_is (At p) (At q) e = ap At (place_is p q e)
shape_is (At p) (Line q r) e = absurd (false≢true e)
shape_is (At p) (Chain qs) e = absurd (false≢true e)
shape_is (Line p u) Bare e = absurd (false≢true e)
shape_is (Line p u) (At q) e = absurd (false≢true e)
shape_is (Line p u) (Line q r) e =
    let parts = and_parts (same_place p q) (same_place u r) e in
    let first = place_is p q parts.0 in
    let second = place_is u r parts.1 in
    λ i. Line (first i) (second i)
shape_is (Line p u) (Chain qs) e = absurd (false≢true e)
shape_is (Chain ps) Bare e = absurd (false≢true e)
shape_is (Chain ps) (At q) e = absurd (false≢true e)
shape_is (Chain ps) (Line q r) e = absurd (false≢true e)
shape_is (Chain ps) (Chain qs) e = ap Chain (places_are ps qs e)

shape_same : (s : Shape) → same_shape s s ≡ true
shape_same Bare = refl
shape_same (At p) = place_same p
shape_same (Line p q) = rw (place_same p, place_same q) refl
shape_same (Chain ps) = places_same ps

row_is : (a b : Row) → same_row a b ≡ true → a ≡ b
row_is a b e =
    let parts = and_parts (same_values a.values b.values) (same_shape a.shape b.shape) e in
    let values = values_are a.values b.values parts.0 in
    let shape = shape_is a.shape b.shape parts.1 in
    λ i. record { values = values i; shape = shape i }

row_same : (a : Row) → same_row a a ≡ true
row_same a = rw (values_same a.values, shape_same a.shape) refl

pub same_is : (a b : Option Row) → same a b ≡ true → a ≡ b
unfolding same
same_is None None e = refl
same_is None (Some b) e = absurd (false≢true e)
same_is (Some a) None e = absurd (false≢true e)
same_is (Some a) (Some b) e = ap Some (row_is a b e)

pub same_itself : (a : Option Row) → same a a ≡ true
unfolding same
same_itself None = refl
same_itself (Some a) = row_same a

pub same_decides : (a b : Option Row) → Decides (same a b) (a ≡ b)
same_decides a b = (same_is a b, λ e. subst (λ c. same a c ≡ true) e (same_itself a))
