-- Lists that grow by one element after another, as loops make them.
use Rattle.std.proofs.Common.{◌≡◌, ℕ, ◌+◌, ◌<◌, List, [], ◌∷◌, ◌++◌, map, length, get_or, take, refl, subst, ltb, arith, Bool, true, false, ◌∙◌, append_assoc}
use Rattle.std.proofs.Common.{append-nil, add-one}
use Rattle.std.proofs.lemmas.Bool.Decides.{nat_tests}
use Rattle.std.proofs.Math.Seq.{take-suc}
use Rattle.std.proofs.lemmas.Grind.{flat_map-append}
use Rattle.std.proofs.lemmas.List.{get_or_default, map-append}
use Rattle.std.specs.List.{AllByRecursion, flat_map}

-- what the elements so far are seen as, and one more
pub seen_more : {X Y : Type 0} (f : X → Y) (xs : List X) (i : ℕ) (x : X) (front so_far now : List Y) → i < length xs → x ≡ get_or xs i x
    → so_far ≡ front ++ map f (take i xs) → now ≡ so_far ++ f x ∷ [] → now ≡ front ++ map f (take (i + 1) xs)
seen_more f xs i x front so_far now lt is before one =
    rw (add-one i, take-suc xs i x lt, ← is, map-append f (take i xs) (x ∷ [])) (one ∙ rw before (append_assoc front (map f (take i xs)) (f x ∷ [])))

-- the texts of what the elements so far are seen as, and of one more
pub texts_more : {X Y Z : Type 0} (text : Y → List Z) (f : X → Y) (xs : List X) (i : ℕ) (x : X) (front so_far now : List Z) → i < length xs
    → x ≡ get_or xs i x → so_far ≡ front ++ flat_map text (map f (take i xs)) → now ≡ so_far ++ text (f x)
    → now ≡ front ++ flat_map text (map f (take (i + 1) xs))
texts_more text f xs i x front so_far now lt is before one =
    rw (
      add-one i,
      take-suc xs i x lt,
      ← is,
      map-append f (take i xs) (x ∷ []),
      flat_map-append text (map f (take i xs)) (f x ∷ []),
      append-nil (text (f x)),
    )
    (one ∙ rw before (append_assoc front (flat_map text (map f (take i xs))) (text (f x))))

-- what holds of each so far, and of one more
pub each_more : {X : Type 0} (P : X → Type 0) (xs : List X) (i : ℕ) (x : X) → i < length xs → x ≡ get_or xs i x → P x
    → ((k : ℕ) (e : X) → k < i → P (get_or xs k e)) → (k : ℕ) (e : X) → k < i + 1 → P (get_or xs k e)
each_more P xs i x lt is one before k e below = by (ltb k i) refl
  where
    by : (b : Bool) → ltb k i ≡ b → P (get_or xs k e)
    by true t = let less : k < i = grind (arith, nat_tests) in before k e less
    by false t =
        let same : i ≡ k = grind (arith, nat_tests) in
        subst (λ n. P (get_or xs n e)) same (subst P (is ∙ get_or_default xs i x e lt) one)

-- what holds of each of two lists
pub joined : {A : Type 0} (P : A → Type 0) (xs ys : List A) → AllByRecursion P xs → AllByRecursion P ys → AllByRecursion P (xs ++ ys)
joined P [] ys all more = more
joined P (x ∷ xs) ys all more = (all.0, joined P xs ys all.1 more)
