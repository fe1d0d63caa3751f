-- The first of a list that passes a test, looked for from one element on.
use Rattle.std.proofs.Common.{◌≡◌, ◌∙◌, ◌+◌, ◌<◌, ℕ, suc, Bool, true, false, List, ◌∷◌, Option, Some}
use Rattle.std.proofs.Common.{add-one, ap, drop, drop-cons, get_or, length, refl, sym}
use Rattle.std.specs.List.{find}

module _ {X : Type 0} (p : X → Bool) (xs : List X) (i : ℕ) (d : X) (all : Option X) (within : i < length xs) where
  pub not_this : p (get_or xs i d) ≡ false → find p (drop i xs) ≡ all → find p (drop (i + 1) xs) ≡ all
  not_this fails so =
      let behind : find p (get_or xs i d ∷ drop (suc i) xs) ≡ find p (drop (suc i) xs) = rw fails refl in
      ap (λ k. find p (drop k xs)) (add-one i) ∙ sym behind ∙ ap (find p) (sym (drop-cons xs i d within)) ∙ so

  pub this_one : p (get_or xs i d) ≡ true → find p (drop i xs) ≡ all → Some (get_or xs i d) ≡ all
  this_one passes so =
      let here : find p (get_or xs i d ∷ drop (suc i) xs) ≡ Some (get_or xs i d) = rw passes refl in
      sym here ∙ ap (find p) (sym (drop-cons xs i d within)) ∙ so
