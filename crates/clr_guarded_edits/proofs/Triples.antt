-- Three lists that are gone over side by side.
use Rattle.std.proofs.Common.{◌≡◌, ℕ, ◌+◌, ◌<◌, List, [], ◌∷◌, ◌++◌, length, min, take, get_or, ap, ◌∙◌, arith, append-nil}
use Rattle.std.proofs.Math.Seq.{take-length}
use Rattle.std.proofs.lemmas.Grind.{flat_map-append}
use Rattle.std.proofs.lemmas.List.{take_more}
use Rattle.std.proofs.lemmas.Slice.Zip.{get_or-zip, length-zip}
use Rattle.std.specs.List.{flat_map, zip}

module _ {A B C : Type 0} (xs : List A) (ys : List B) (zs : List C) where
  abbrev all : List (A × (B × C))
  all = zip xs (zip ys zs)

  one_more : (i : ℕ) (x : A) (y : B) (z : C) → i < length xs → i < length ys → i < length zs → x ≡ get_or xs i x → y ≡ get_or ys i y → z ≡ get_or zs i z
      → take (i + 1) all ≡ take i all ++ (x, (y, z)) ∷ []
  one_more i x y z p q r e h k =
      let within : i < length (zip ys zs) = omega (arith, length-zip ys zs) in
      take_more all i (x, (y, z)) (omega (arith, length-zip xs (zip ys zs), length-zip ys zs))
      ∙ ap (λ t. take i all ++ t ∷ []) (get_or-zip xs (zip ys zs) i (x, (y, z)) p within ∙ ap (λ t. (get_or xs i x, t)) (get_or-zip ys zs i (y, z) q r) ∙ cc)

  pub triple_more : {D : Type 0} (f : A × (B × C) → List D) (i : ℕ) (x : A) (y : B) (z : C) → i < length xs → i < length ys → i < length zs
      → x ≡ get_or xs i x → y ≡ get_or ys i y → z ≡ get_or zs i z → flat_map f (take (i + 1) all) ≡ flat_map f (take i all) ++ f (x, (y, z))
  triple_more f i x y z p q r e h k =
      ap (flat_map f) (one_more i x y z p q r e h k) ∙ flat_map-append f (take i all) ((x, (y, z)) ∷ [])
      ∙ ap (λ l. flat_map f (take i all) ++ l) (append-nil (f (x, (y, z))))

  -- as many as there are
  pub all_triples : (n : ℕ) → n ≡ min (min (length xs) (length ys)) (length zs) → take n all ≡ all
  all_triples n e =
      let count : n ≡ length all = e ∙ omega (arith, length-zip xs (zip ys zs), length-zip ys zs) in
      ap (λ k. take k all) count ∙ take-length all
