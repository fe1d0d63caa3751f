-- Lists of spots: their order, and those of two roles.
use Rattle.std.proofs.Common.{◌≡◌, ℕ, zero, suc, ◌<◌, ◌≤◌, Bool, true, false, cond, not, List, [], ◌∷◌, ◌++◌, ◌+◌, Option, Some, length, drop, fold, get_or}
use Rattle.std.proofs.Common.{refl, sym, ap, subst, ◌∙◌, ◌↔◌, IsTrue, arith, append-nil}
use Rattle.std.specs.Prelude.{option_to_list}
use Rattle.std.specs.Hash.{HashWrites}
use Rattle.std.specs.List.{flat_map, list_any}
use Rattle.std.proofs.lemmas.List.{at_drop_more}
use Rattle.std.proofs.lemmas.List.Sums.{fold-append}
use Rattle.clr_spots.specs.declared.spots.Spot.{Spot}
use Rattle.clr_spots.specs.Spots.{union}
use Rattle.std.specs.Cmp.{both_ways}
use Rattle.std.specs.Cmp.Lexicographic.{slice_cmp}
use Rattle.std.specs.Ordering.{nat_cmp}
use Rattle.std.proofs.lemmas.Bool.Decides.{nat_tests}
use Rattle.clr_rows.specs.declared.rows.Value.{Value}
use Rattle.clr_rows.specs.Same.{same_values}
use Rattle.clr_rows.proofs.SameLemmas.{values_are, values_same}
use Rattle.clr_spots.specs.SpotOrder.{value_cmp, same_spot}

longer : (m n : ℕ) → nat_cmp m n ≡ nat_cmp (suc m) (suc n)
longer m n = grind (arith, nat_tests)

-- where one list ends, their lengths decide
pub order_of_ends : (a b : List Value) (i : ℕ) → i ≤ length a → i ≤ length b → (i < length a → i < length b → ⊥) → slice_cmp value_cmp (drop i a) (drop i b)
    ≡ nat_cmp (length a) (length b)
order_of_ends [] [] zero f g h = refl
order_of_ends [] (y ∷ ys) zero f g h = grind (arith, nat_tests)
order_of_ends (x ∷ xs) [] zero f g h = grind (arith, nat_tests)
order_of_ends (x ∷ xs) (y ∷ ys) zero f g h = absurd (h (omega arith) (omega arith))
order_of_ends [] b (suc i) f g h = absurd (omega arith)
order_of_ends (x ∷ xs) [] (suc i) f g h = absurd (omega arith)
order_of_ends (x ∷ xs) (y ∷ ys) (suc i) f g h = order_of_ends xs ys i (omega arith) (omega arith) (λ p q. h (omega arith) (omega arith))
    ∙ longer (length xs) (length ys)

-- a test of whether two lists of values are one is the test of their sameness
pub values_tested : (b : Bool) (vs ws : List Value) → IsTrue b ↔ (vs ≡ ws) → b ≡ same_values vs ws
values_tested b vs ws test = both_ways b (same_values vs ws)
    (λ yes. subst (λ us. same_values vs us ≡ true) (test.0 yes) (values_same vs))
    (λ yes. test.1 (values_are vs ws yes))

-- what is left of a list is fed once its next element is
pub next_written : {S X : Type 0} (write : S → List ℕ → S) (feed : X → HashWrites) (s t : S) (xs : List X) (i : ℕ) (x : X) → i < length xs → x ≡ get_or xs i x
    → t ≡ fold write s (feed x) → fold write t (flat_map feed (drop (i + 1) xs)) ≡ fold write s (flat_map feed (drop i xs))
next_written write feed s t xs i x low is fed =
    ap (λ u. fold write u (flat_map feed (drop (i + 1) xs))) fed
    ∙ sym (fold-append write s (feed x) (flat_map feed (drop (i + 1) xs)))
    ∙ ap (λ y. fold write s (feed y ++ flat_map feed (drop (i + 1) xs))) is
    ∙ sym (at_drop_more (λ ys. fold write s (flat_map feed ys)) xs i x low)

-- ---- a spot that is added to others
new_added : (xs : List Spot) (y : Spot) → list_any (λ x. same_spot x y) xs ≡ false → union xs (y ∷ []) ≡ xs ++ y ∷ []
new_added xs y e = ap (λ has. xs ++ cond (not has) (y ∷ []) []) e

old_left : (xs : List Spot) (y : Spot) → list_any (λ x. same_spot x y) xs ≡ true → union xs (y ∷ []) ≡ xs
old_left xs y e = ap (λ has. xs ++ cond (not has) (y ∷ []) []) e ∙ append-nil xs

pub joined_new : (xs read zs : List Spot) (o : Option Spot) (y : Spot) (has : Bool) → o ≡ Some y → read ≡ xs → has ≡ list_any (λ x. same_spot x y) read → has
    ≡ false → zs ≡ xs ++ y ∷ [] → zs ≡ union xs (option_to_list o)
joined_new xs read zs o y has is same test none all = all ∙ sym (ap (λ p. union xs (option_to_list p)) is
    ∙ new_added xs y (ap (λ ws. list_any (λ x. same_spot x y) ws) (sym same) ∙ sym test ∙ none))

pub joined_old : (xs read : List Spot) (o : Option Spot) (y : Spot) (has : Bool) → o ≡ Some y → read ≡ xs → has ≡ list_any (λ x. same_spot x y) read → has
    ≡ true → xs ≡ union xs (option_to_list o)
joined_old xs read o y has is same test some = sym (ap (λ p. union xs (option_to_list p)) is
    ∙ old_left xs y (ap (λ ws. list_any (λ x. same_spot x y) ws) (sym same) ∙ sym test ∙ some))
