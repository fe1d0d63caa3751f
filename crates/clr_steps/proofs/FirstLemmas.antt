-- The first element of a list that passes a test, and one that passes alone.
use Rattle.std.proofs.Common.{◌≡◌, ℕ, zero, suc, ◌+◌, ◌<◌, Bool, true, false, not, cond, nat_lt, List, [], ◌∷◌, length, Option, Some, None, refl, sym, ap, ◌∙◌}
use Rattle.std.proofs.Common.{arith, slice_index_or, remove}
use Rattle.std.specs.Prelude.{position, filter}
use Rattle.std.specs.List.{position_or_len}
use Rattle.std.specs.Option.{option_map}
use Rattle.std.proofs.lemmas.Bool.{true≢false, ltb-true, lt-ltb, false_from_ne_true}

-- no element passes
abbrev pub IsNone : {X : Type 0} → (X → Bool) → List X → Type 0
IsNone p [] = Unit {0}
IsNone p (x ∷ xs) = (p x ≡ false) × IsNone p xs

-- the element at a position passes, and none before it
abbrev pub IsFirst : {X : Type 0} → (X → Bool) → List X → ℕ → Type 0
IsFirst p [] i = ⊥
IsFirst p (x ∷ xs) zero = p x ≡ true
IsFirst p (x ∷ xs) (suc i) = (p x ≡ false) × IsFirst p xs i

-- the element at a position passes, and no other
abbrev pub IsOnly : {X : Type 0} → (X → Bool) → List X → ℕ → Type 0
IsOnly p [] i = ⊥
IsOnly p (x ∷ xs) zero = (p x ≡ true) × IsNone p xs
IsOnly p (x ∷ xs) (suc i) = (p x ≡ false) × IsOnly p xs i

pub zero_suc : (i : ℕ) → 0 ≡ suc i → ⊥
zero_suc i e = omega arith

pub suc_is : (i j : ℕ) → suc i ≡ suc j → i ≡ j
suc_is i j e = omega arith

pub some_is : {A : Type 0} (a b : A) → ◌≡◌ {A = Option A} (Some a) (Some b) → a ≡ b
some_is a b e = cc

later_none : (r : Option ℕ) → option_map suc r ≡ Some 0 → ⊥
later_none None e = absurd (cc)
later_none (Some j) e = zero_suc j (sym (some_is (suc j) 0 e))

later_some : (r : Option ℕ) (k : ℕ) → option_map suc r ≡ Some (suc k) → r ≡ Some k
later_some None k e = absurd (cc)
later_some (Some j) k e = ap Some (suc_is j k (some_is (suc j) (suc k) e))

module _ {X : Type 0} (p : X → Bool) where
  -- a search ends at a first element that passes, and goes on past one that doesn't
  pub position_here : (x : X) (xs : List X) → p x ≡ true → position p (x ∷ xs) ≡ Some 0
  position_here x xs e = rw (e, lt-ltb 0 (suc (length xs)) (omega arith)) refl

  pub position_later : (x : X) (xs : List X) → p x ≡ false → position p (x ∷ xs) ≡ option_map suc (position p xs)
  position_later x xs e = rw e (by (nat_lt (position_or_len p xs) (length xs)) refl)
    where
      past : (c : Bool) → nat_lt (position_or_len p xs) (length xs) ≡ false → nat_lt (1 + position_or_len p xs) (suc (length xs)) ≡ c
          → cond c (Some (1 + position_or_len p xs)) None ≡ None
      past false h e = refl
      past true h e = absurd (true≢false (sym (lt-ltb _ _ (omega (arith, ltb-true _ _ e))) ∙ h))

      by : (b : Bool) → nat_lt (position_or_len p xs) (length xs) ≡ b
          → cond (nat_lt (1 + position_or_len p xs) (suc (length xs))) (Some (1 + position_or_len p xs)) None
          ≡ option_map suc (cond (nat_lt (position_or_len p xs) (length xs)) (Some (position_or_len p xs)) None)
      by true h = rw (h, lt-ltb (1 + position_or_len p xs) (suc (length xs)) (omega (arith, ltb-true _ _ h))) (ap Some (omega arith))
      by false h = rw h (past (nat_lt (1 + position_or_len p xs) (suc (length xs))) h refl)

  pub first_at_position : (xs : List X) (i : ℕ) → position p xs ≡ Some i → IsFirst p xs i
  first_at_position [] i e = absurd (cc)
  first_at_position (x ∷ xs) zero e = by (p x) refl
    where
      by : (b : Bool) → p x ≡ b → p x ≡ true
      by true h = h
      by false h = absurd (later_none (position p xs) (sym (position_later x xs h) ∙ e))
  first_at_position (x ∷ xs) (suc i) e = by (first_at_position xs i) (p x) refl
    where
      by : (position p xs ≡ Some i → IsFirst p xs i) → (b : Bool) → p x ≡ b → (p x ≡ false) × IsFirst p xs i
      by rest true h = absurd (zero_suc i (some_is 0 (suc i) (sym (position_here x xs h) ∙ e)))
      by rest false h = (h, rest (later_some (position p xs) i (sym (position_later x xs h) ∙ e)))

  pub position_of_only : (xs : List X) (i : ℕ) → IsOnly p xs i → position p xs ≡ Some i
  position_of_only [] i h = absurd h
  position_of_only (x ∷ xs) zero h = position_here x xs h.0
  position_of_only (x ∷ xs) (suc i) h = position_later x xs h.0 ∙ ap (option_map suc) (position_of_only xs i h.1)

  pub first_within : (xs : List X) (i : ℕ) → IsFirst p xs i → i < length xs
  first_within [] i h = absurd h
  first_within (x ∷ xs) zero h = omega arith
  first_within (x ∷ xs) (suc i) h = let r = first_within xs i h.1 in omega arith

  pub first_passes : (d : X) (xs : List X) (i : ℕ) → IsFirst p xs i → p (slice_index_or xs i d) ≡ true
  first_passes d [] i h = absurd h
  first_passes d (x ∷ xs) zero h = h
  first_passes d (x ∷ xs) (suc i) h = first_passes d xs i h.1

  none_of_each : (d : X) (xs : List X) → ((j : ℕ) → j < length xs → p (slice_index_or xs j d) ≡ true → ⊥) → IsNone p xs
  none_of_each d [] fails = tt
  none_of_each d (x ∷ xs) fails = (false_from_ne_true (p x) (fails 0 (omega arith)), none_of_each d xs (λ j lt e. fails (suc j) (omega arith) e))

  -- the first passes alone, where whatever passes has its position
  pub only_of_first : (d : X) (xs : List X) (i : ℕ) → IsFirst p xs i → ((j : ℕ) → j < length xs → p (slice_index_or xs j d) ≡ true → j ≡ i) → IsOnly p xs i
  only_of_first d [] i h only = absurd h
  only_of_first d (x ∷ xs) zero h only = (h, none_of_each d xs (λ j lt e. zero_suc j (sym (only (suc j) (omega arith) e))))
  only_of_first d (x ∷ xs) (suc i) h only = (h.0, only_of_first d xs i h.1 (λ j lt e. suc_is j i (only (suc j) (omega arith) e)))

  filter_none : (xs : List X) → IsNone p xs → filter (λ x. not (p x)) xs ≡ xs
  filter_none [] h = refl
  filter_none (x ∷ xs) h = rw h.0 (ap (λ ys. x ∷ ys) (filter_none xs h.1))

  -- taken out by its position, or by the test
  pub remove_only : (xs : List X) (i : ℕ) → IsOnly p xs i → remove xs i ≡ filter (λ x. not (p x)) xs
  remove_only [] i h = absurd h
  remove_only (x ∷ xs) zero h = rw h.0 (sym (filter_none xs h.1))
  remove_only (x ∷ xs) (suc i) h = rw h.0 (ap (λ ys. x ∷ ys) (remove_only xs i h.1))

  -- with another taken out, after it or before it
  none_remove : (xs : List X) (i : ℕ) → IsNone p xs → IsNone p (remove xs i)
  none_remove [] zero h = tt
  none_remove [] (suc i) h = tt
  none_remove (x ∷ xs) zero h = h.1
  none_remove (x ∷ xs) (suc i) h = (h.0, none_remove xs i h.1)

  pub only_remove : (xs : List X) (i at : ℕ) → i < at → IsOnly p xs i → IsOnly p (remove xs at) i
  only_remove [] i at lt h = absurd h
  only_remove (x ∷ xs) zero zero lt h = absurd (omega arith)
  only_remove (x ∷ xs) zero (suc at) lt h = (h.0, none_remove xs at h.1)
  only_remove (x ∷ xs) (suc i) zero lt h = absurd (omega arith)
  only_remove (x ∷ xs) (suc i) (suc at) lt h = (h.0, only_remove xs i at (omega arith) h.1)
