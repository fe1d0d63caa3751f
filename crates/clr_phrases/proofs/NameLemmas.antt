-- Names from their first, those between, and their last.
use Rattle.std.proofs.Common.{◌≡◌, ℕ, List, [], ◌∷◌, ◌++◌, ◌-◌, ◌≤◌, Bor, refl, ap, sym, ◌∙◌, arith, codes, drop, get_or, length, map, take, append_assoc}
use native.Mathlib.Numerals.{unary_clauses}
use Rattle.std.specs.Prelude.{Result, Ok, Err, OnOk, if◌then◌else◌}
use Rattle.std.specs.Result.{is_ok}
use Rattle.std.specs.List.{flat_map}
use Rattle.clr_phrases.specs.Lists.{names_behind_first, names_text}

abbrev pub behind_comma : Bor (List ℕ) → List ℕ
behind_comma name = codes ", " ++ name.now

-- the names behind the first, by those between and the last
behind_first : (d name : Bor (List ℕ)) (names : List (Bor (List ℕ))) → names_behind_first (map (λ n. n.now) (name ∷ names))
    ≡ flat_map behind_comma (take (length names) (name ∷ names)) ++ (codes " and " ++ (get_or (name ∷ names) (length names) d).now)
behind_first d name [] = refl
behind_first d name (other ∷ names) =
    ap (λ t. codes ", " ++ (name.now ++ t)) (behind_first d other names)
    ∙ ap (λ t. codes ", " ++ t) (sym (append_assoc name.now (flat_map behind_comma (take (length names) (other ∷ names))) _))

-- all the names, by the first, those between and the last
pub names_by_ends : (d e : Bor (List ℕ)) (names : List (Bor (List ℕ))) → 2 ≤ length names → names_text (map (λ n. n.now) names)
    ≡ (get_or names 0 d).now ++ (flat_map behind_comma (take (length names - 1 - 1) (drop 1 names))
    ++ (codes " and " ++ (get_or names (length names - 1) e).now))
names_by_ends d e [] few = absurd (omega (arith, few))
names_by_ends d e (name ∷ []) few = absurd (omega (arith, few))
names_by_ends d e (first ∷ name ∷ names) few = simp unary_clauses (ap (λ t. first.now ++ t) (behind_first e name names))

-- what is added behind a text by the first name, those between and the last, is all the names
pub added_by_ends : (d e : Bor (List ℕ)) (names : List (Bor (List ℕ))) (old one two three four : List ℕ) → 2 ≤ length names
    → one ≡ old ++ (get_or names 0 d).now
    → two ≡ one ++ flat_map behind_comma (take (length names - 1 - 1) (drop 1 names))
    → three ≡ two ++ codes " and "
    → four ≡ three ++ (get_or names (length names - 1) e).now
    → four ≡ old ++ names_text (map (λ n. n.now) names)
added_by_ends d e names old one two three four few a b c h =
    rw (names_by_ends d e names few, h, c, b, a) (simp append_assoc)

-- where a call gave one of two texts by whether it succeeded, it gave the first of them on success
pub first_on_ok : {T E : Type 0} (r : Result T E) (now one other : List ℕ) → now ≡ (if is_ok r then one else other) → OnOk r (now ≡ one)
first_on_ok (Ok x) now one other e = e
first_on_ok (Err x) now one other e = tt
