-- A path by its first vertex, those between, and its last.
use Rattle.std.proofs.Common.{◌≡◌, ℕ, suc, List, [], ◌∷◌, ◌++◌, ◌-◌, ◌≤◌, refl, ap, arith, codes, drop, get_or, length, take, append_assoc}
use native.Mathlib.Numerals.{unary_clauses}
use Rattle.clr_rows.specs.declared.places.Place.{Place}
use Rattle.clr_phrases.specs.Places.{place_text}
use Rattle.clr_phrases.specs.Rows.{between_text, last_place, path_text}

last_vertex : (d next : Place) (places : List Place) → last_place next places ≡ get_or (next ∷ places) (length places) d
last_vertex d next [] = refl
last_vertex d next (place ∷ places) = last_vertex d place places

length_between : (next : Place) (places : List Place) → length (take (length places) (next ∷ places)) ≡ length places
length_between next [] = refl
length_between next (place ∷ places) = ap suc (length_between place places)

abbrev pub ends_text : Place → ℕ → Place → List ℕ
ends_text first count last = codes "from " ++ place_text first ++ between_text count ++ codes " to " ++ place_text last

pub path_by_ends : (d e : Place) (vertices : List Place) → 2 ≤ length vertices → path_text vertices
    ≡ ends_text (get_or vertices 0 d) (length (take (length vertices - 1 - 1) (drop 1 vertices))) (get_or vertices (length vertices - 1) e)
path_by_ends d e [] few = absurd (omega (arith, few))
path_by_ends d e (place ∷ []) few = absurd (omega (arith, few))
path_by_ends d e (first ∷ next ∷ places) few = simp unary_clauses (rw (length_between next places, ← last_vertex e next places) refl)

regrouped : (old p q r s t : List ℕ) → ((((old ++ p) ++ q) ++ r) ++ s) ++ t ≡ old ++ ((((p ++ q) ++ r) ++ s) ++ t)
regrouped old p q r s t = grind (arith, append_assoc)

-- what is added behind a text piece by piece is the path
pub added_path : (d e : Place) (vertices : List Place) (old one two three four five : List ℕ) → 2 ≤ length vertices
    → one ≡ old ++ codes "from "
    → two ≡ one ++ place_text (get_or vertices 0 d)
    → three ≡ two ++ between_text (length (take (length vertices - 1 - 1) (drop 1 vertices)))
    → four ≡ three ++ codes " to "
    → five ≡ four ++ place_text (get_or vertices (length vertices - 1) e)
    → five ≡ old ++ path_text vertices
added_path d e vertices old one two three four five few a b c h i =
    let first = place_text (get_or vertices 0 d) in
    let between = between_text (length (take (length vertices - 1 - 1) (drop 1 vertices))) in
    let last = place_text (get_or vertices (length vertices - 1) e) in
    rw (path_by_ends d e vertices few, i, h, c, b, a) (regrouped old (codes "from ") first between (codes " to ") last)
