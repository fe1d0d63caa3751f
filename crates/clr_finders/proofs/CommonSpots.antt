-- Spots that two lists have in common, whichever list is looked through.
use Rattle.std.proofs.Common.{◌≡◌, Bool, ◌||◌, List, [], ◌∷◌, refl, ap₂}
use Rattle.std.specs.List.{list_any}
use Rattle.clr_spots.specs.declared.spots.Spot.{Spot}
use Rattle.clr_spots.specs.SpotOrder.{same_spot}
use Rattle.clr_spots.specs.SpotOrderLaws.{same_spot_equiv}
use Rattle.clr_spots.specs.Spots.{have_common_spot}

any_alike : {X : Type 0} (p q : X → Bool) → ((x : X) → p x ≡ q x) → (xs : List X) → list_any p xs ≡ list_any q xs
any_alike p q alike [] = refl
any_alike p q alike (x ∷ xs) = ap₂ (λ (a b : Bool). a || b) (alike x) (any_alike p q alike xs)

-- a spot of the first list is in the second
abbrev pub some_in : List Spot → List Spot → Bool
some_in ys xs = list_any (λ x. list_any (λ y. same_spot y x) ys) xs

pub common_turned : (xs ys : List Spot) → some_in ys xs ≡ have_common_spot xs ys
common_turned xs ys = any_alike _ _ (λ x. any_alike _ _ (λ y. same_spot_equiv.symm y x) ys) xs
