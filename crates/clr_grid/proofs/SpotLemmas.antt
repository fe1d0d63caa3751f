-- Numbers of spots.
use Rattle.std.proofs.Common.{◌≡◌, ◌∙◌, ◌<◌, ◌+◌, ℕ, Bool, true, false, List, [], ◌∷◌, ◌++◌, take, get_or, length, refl, ap, sym, subst}
use Rattle.std.proofs.lemmas.List.{take_more}
use Rattle.std.proofs.lemmas.List.Sums.{fold-append}
use Rattle.std.specs.List.{fold}
use Rattle.clr_spots.specs.declared.spots.Spot.{Spot}
use Rattle.clr_grid.specs.SpotNumbers.{has_number, spot_number_of}
use Rattle.clr_grid.proofs.FilingLemmas.{number_itself, tied_number}

-- one more element of a list is mixed in
pub mixed_more : {X : Type 0} (f : ℕ → X → ℕ) (n : ℕ) (xs : List X) (k : ℕ) (d x : X) (m : ℕ) → k < length xs → x ≡ get_or xs k d → m ≡ fold f n (take k xs) →
    f m x ≡ fold f n (take (k + 1) xs)
mixed_more f n xs k d x m less is before =
    ap (λ j. f j x) before ∙ sym (fold-append f n (take k xs) (x ∷ [])) ∙ ap (fold f n) (ap (λ y. take k xs ++ y ∷ []) is ∙ sym (take_more xs k d less))

-- a number that is told from that of a spot
pub number_is : (n : ℕ) (x : Spot) (m : ℕ) → m ≡ spot_number_of x → m ≡ n → has_number n x ≡ true
number_is n x m is same = subst (λ k. has_number k x ≡ true) (sym is ∙ same) (number_itself (spot_number_of x))

pub number_differs : (n : ℕ) (x : Spot) (m : ℕ) → m ≡ spot_number_of x → (m ≡ n → ⊥) → has_number n x ≡ false
number_differs n x m is apart = go (has_number n x) refl
  where
    go : (b : Bool) → has_number n x ≡ b → b ≡ false
    go false e = refl
    go true e = absurd (apart (is ∙ sym (tied_number n (spot_number_of x) e)))
