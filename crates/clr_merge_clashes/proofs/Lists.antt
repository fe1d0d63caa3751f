-- Lists that a loop makes, one element after another.
use Rattle.std.proofs.Common.{◌≡◌, ◌∙◌, ◌+◌, ℕ, zero, suc, Bool, false, cond, List, [], ◌∷◌, ◌++◌, Option, Some, None}
use Rattle.std.proofs.Common.{ap, arith, filter, refl}
use Rattle.std.specs.Prelude.{find, slice_get}
use Rattle.std.specs.List.{cons_option, filter_map, range_with_len}
use Rattle.std.proofs.lemmas.List.Elements.{filter-append}

-- one more ------------------------------------------------------------------------------------

one_number_more : (a n : ℕ) → range_with_len a (suc n) ≡ range_with_len a n ++ (a + n) ∷ []
one_number_more a zero = let same : a ≡ a + 0 = omega arith in ap (λ x. x ∷ []) same
one_number_more a (suc n) =
    let same : (a + 1) + n ≡ a + suc n = omega arith in
    ap (λ xs. a ∷ xs) (one_number_more (a + 1) n ∙ ap (λ x. range_with_len (a + 1) n ++ x ∷ []) same)

-- one more number from 0 on
pub numbers_more : (k : ℕ) → range_with_len 0 (k + 1) ≡ range_with_len 0 k ++ k ∷ []
numbers_more k =
    let next : k + 1 ≡ suc k = omega arith in
    let same : 0 + k ≡ k = omega arith in
    ap (range_with_len 0) next ∙ one_number_more 0 k ∙ ap (λ x. range_with_len 0 k ++ x ∷ []) same

-- the numbers from 0 on that pass a test, and one more
pub kept_more : (p : ℕ → Bool) (k : ℕ) → filter p (range_with_len 0 (k + 1)) ≡ filter p (range_with_len 0 k) ++ filter p (k ∷ [])
kept_more p k = ap (filter p) (numbers_more k) ∙ filter-append p (range_with_len 0 k) (k ∷ [])

module _ {X : Type 0} (p : X → Bool) where
  pub filter_last : (xs : List X) (x : X) → filter p (xs ++ x ∷ []) ≡ filter p xs ++ filter p (x ∷ [])
  filter_last xs x = filter-append p xs (x ∷ [])

-- where a test passes everywhere, or nowhere -----------------------------------------------------

pub none_mapped : {X Y : Type 0} (f : X → Option Y) → ((x : X) → f x ≡ None) → (xs : List X) → filter_map f xs ≡ []
none_mapped f none [] = refl
none_mapped f none (x ∷ xs) = ap (λ o. cons_option o (filter_map f xs)) (none x) ∙ none_mapped f none xs

pub none_found : {X : Type 0} (p : X → Bool) (xs : List X) → ((k : ℕ) (x : X) → slice_get xs k ≡ Some x → p x ≡ false) → find p xs ≡ None
none_found p [] fails = refl
none_found p (x ∷ xs) fails = ap (λ b. cond b (Some x) (find p xs)) (fails 0 x refl) ∙ none_found p xs (λ k. fails (suc k))
