-- Lists over the numbers from 0 on, which grow by one.
use Rattle.std.proofs.Common.{◌≡◌, ◌∙◌, ℕ, zero, suc, ◌+◌, ◌-◌, Bool, cond, List, [], ◌∷◌, ◌++◌, Option, Some, None, ap, arith, refl, sym}
use Rattle.std.specs.List.{cons_option, filter, filter_map, find, range_with_len}
use Rattle.std.specs.Option.{option_to_list}
use Rattle.std.proofs.lemmas.List.Elements.{filter-append, filter_map-append}
use Rattle.clr_layer_changes.proofs.KeyLemmas.{first_within}

-- the numbers from one on, and the next behind them
range_behind : (a n : ℕ) → range_with_len a (suc n) ≡ range_with_len a n ++ (a + n) ∷ []
range_behind a zero = let same : a ≡ a + 0 = omega arith in ap (λ k. k ∷ []) same
range_behind a (suc n) =
    let same : a + 1 + n ≡ a + suc n = omega arith in
    ap (λ ks. a ∷ ks) (range_behind (a + 1) n ∙ ap (λ k. range_with_len (a + 1) n ++ k ∷ []) same)

pub range_more : (n : ℕ) → range_with_len 0 (n + 1) ≡ range_with_len 0 n ++ n ∷ []
range_more n =
    let next : n + 1 ≡ suc n = omega arith in
    let same : 0 + n ≡ n = omega arith in
    ap (range_with_len 0) next ∙ range_behind 0 n ∙ ap (λ k. range_with_len 0 n ++ k ∷ []) same

one_kept : {X : Type 0} (found : Option X) → cons_option found [] ≡ option_to_list found
one_kept (Some x) = refl
one_kept None = refl

-- what is kept of the numbers so far, and of one more
pub kept_more : {X : Type 0} (f : ℕ → Option X) (n : ℕ) (so_far now : List X) (found : Option X) → so_far ≡ filter_map f (range_with_len 0 n)
    → now ≡ so_far ++ option_to_list found → found ≡ f n → now ≡ filter_map f (range_with_len 0 (n + 1))
kept_more f n so_far now found before one is =
    one ∙ (λ i. before i ++ option_to_list (is i)) ∙ ap (λ xs. filter_map f (range_with_len 0 n) ++ xs) (sym (one_kept (f n)))
    ∙ sym (ap (filter_map f) (range_more n) ∙ filter_map-append f (range_with_len 0 n) (n ∷ []))

-- the numbers so far that pass a test, and one more
pub passed_more : (p : ℕ → Bool) (n : ℕ) (so_far now : List ℕ) (test : Bool) → so_far ≡ filter p (range_with_len 0 n)
    → now ≡ so_far ++ cond test (n ∷ []) [] → test ≡ p n → now ≡ filter p (range_with_len 0 (n + 1))
passed_more p n so_far now test before one is =
    one ∙ (λ i. before i ++ cond (is i) (n ∷ []) [])
    ∙ sym (ap (filter p) (range_more n) ∙ filter-append p (range_with_len 0 n) (n ∷ []))

-- the first number that passes a test, of those from 0 on
pub first_from_zero : (p : ℕ → Bool) (end : ℕ) → first_within p end 0 ≡ find p (range_with_len 0 end)
first_from_zero p end =
    let same : end - 0 ≡ end = omega arith in
    ap (λ n. find p (range_with_len 0 n)) same
