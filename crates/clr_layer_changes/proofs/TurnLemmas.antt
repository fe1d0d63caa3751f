-- Something that changes with each item of a list, as loops make it.
use Rattle.std.proofs.Common.{◌≡◌, ℕ, ◌+◌, ◌<◌, ◌≤◌, List, [], ◌∷◌, drop, length, get_or, Result, Ok, Err, refl, sym, ap, ◌∙◌, arith}
use Rattle.std.proofs.lemmas.List.{at_drop_more, at_drop_all}
use Rattle.clr_readings.specs.Readings.{◌>>=◌}
use Rattle.clr_layer_changes.specs.Turns.{after_each}

module _ {X S E : Type 0} (f : ℕ → S → X → Result S E) where
  -- what is left after the items from a position on, the first of which has number n
  abbrev pub after_rest : ℕ → S → ℕ → List X → Result S E
  after_rest n s i xs = after_each f (n + i) s (drop i xs)

  one_step : (n : ℕ) (s : S) (x : X) (xs : List X) → after_each f n s (x ∷ xs) ≡ (f n s x >>= λ next. after_each f (n + 1) next xs)
  unfolding after_each
  one_step n s x xs = refl

  step : (n i : ℕ) (s : S) (x : X) (xs : List X) → i < length xs → x ≡ get_or xs i x → after_rest n s i xs
      ≡ (f (n + i) s x >>= λ next. after_each f (n + i + 1) next (drop (i + 1) xs))
  step n i s x xs lt is =
      at_drop_more (after_each f (n + i) s) xs i x lt ∙ ap (λ y. after_each f (n + i) s (y ∷ drop (i + 1) xs)) (sym is) ∙ one_step (n + i) s x (drop (i + 1) xs)

  pub goes_on : (n i : ℕ) (s next : S) (x : X) (xs : List X) (whole : Result S E) → i < length xs → x ≡ get_or xs i x → f (n + i) s x ≡ Ok next
      → after_rest n s i xs ≡ whole
      → after_rest n next (i + 1) xs ≡ whole
  goes_on n i s next x xs whole lt is made so_far =
      let same : n + (i + 1) ≡ n + i + 1 = omega arith in
      ap (λ m. after_each f m next (drop (i + 1) xs)) same
      ∙ sym (ap (λ (r : Result S E). r >>= λ next. after_each f (n + i + 1) next (drop (i + 1) xs)) made) ∙ sym (step n i s x xs lt is) ∙ so_far

  pub stops : (n i : ℕ) (s : S) (e : E) (x : X) (xs : List X) (whole : Result S E) → i < length xs → x ≡ get_or xs i x → f (n + i) s x ≡ Err e
      → after_rest n s i xs ≡ whole → whole ≡ Err e
  stops n i s e x xs whole lt is fault so_far =
      sym so_far ∙ step n i s x xs lt is ∙ ap (λ (r : Result S E). r >>= λ next. after_each f (n + i + 1) next (drop (i + 1) xs)) fault

  at_end : (n : ℕ) (s : S) → after_each f n s [] ≡ Ok s
  unfolding after_each
  at_end n s = refl

  pub ends : (n i : ℕ) (s : S) (xs : List X) (whole : Result S E) → length xs ≤ i → after_rest n s i xs ≡ whole → whole ≡ Ok s
  ends n i s xs whole le so_far = sym so_far ∙ at_drop_all (after_each f (n + i) s) xs i le ∙ at_end (n + i) s

  pub begins : (n : ℕ) (s : S) (xs : List X) → after_rest n s 0 xs ≡ after_each f n s xs
  begins n s xs =
      let same : n + 0 ≡ n = omega arith in
      ap (λ m. after_each f m s xs) same
