-- Two lists that are gone over side by side.
use Rattle.std.proofs.Common.{◌≡◌, ℕ, ◌+◌, ◌<◌, List, [], ◌∷◌, ◌++◌, length, min, take, get_or, map, ap, ◌∙◌, sym, arith, append-nil}
use Rattle.std.proofs.Math.Seq.{take-length}
use Rattle.std.proofs.lemmas.Grind.{flat_map-append}
use Rattle.std.proofs.lemmas.List.{map-append, take_more}
use Rattle.std.proofs.lemmas.Slice.Zip.{get_or-zip, length-zip}
use Rattle.std.specs.List.{flat_map, zip}

module _ {A B : Type 0} (xs : List A) (ys : List B) where
  one_pair_more : (i : ℕ) (x : A) (y : B) → i < length xs → i < length ys → x ≡ get_or xs i x → y ≡ get_or ys i y
      → take (i + 1) (zip xs ys) ≡ take i (zip xs ys) ++ (x, y) ∷ []
  one_pair_more i x y p q e h =
      take_more (zip xs ys) i (x, y) (omega (arith, length-zip xs ys)) ∙ ap (λ z. take i (zip xs ys) ++ z ∷ []) (get_or-zip xs ys i (x, y) p q ∙ cc)

  pub map_one_more : {C : Type 0} (f : A × B → C) (i : ℕ) (x : A) (y : B) → i < length xs → i < length ys → x ≡ get_or xs i x → y ≡ get_or ys i y
      → map f (take (i + 1) (zip xs ys)) ≡ map f (take i (zip xs ys)) ++ f (x, y) ∷ []
  map_one_more f i x y p q e h = ap (map f) (one_pair_more i x y p q e h) ∙ map-append f (take i (zip xs ys)) ((x, y) ∷ [])

  pub flat_map_one_more : {C : Type 0} (f : A × B → List C) (i : ℕ) (x : A) (y : B) → i < length xs → i < length ys → x ≡ get_or xs i x → y ≡ get_or ys i y
      → flat_map f (take (i + 1) (zip xs ys)) ≡ flat_map f (take i (zip xs ys)) ++ f (x, y)
  flat_map_one_more f i x y p q e h =
      ap (flat_map f) (one_pair_more i x y p q e h) ∙ flat_map-append f (take i (zip xs ys)) ((x, y) ∷ []) ∙ ap (λ l. flat_map f (take i (zip xs ys))
      ++ l) (append-nil (f (x, y)))

  -- as many as there are
  pub all_pairs : (n : ℕ) → n ≡ min (length xs) (length ys) → take n (zip xs ys) ≡ zip xs ys
  all_pairs n e = ap (λ k. take k (zip xs ys)) (e ∙ sym (length-zip xs ys)) ∙ take-length (zip xs ys)
