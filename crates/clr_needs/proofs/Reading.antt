-- The elements of a list that is gone over, as far as it is.
use Rattle.std.proofs.Common.{◌≡◌, ◌<◌, ◌≤◌, ◌+◌, ℕ, zero, suc, List, [], ◌∷◌, ◌⊎◌, inl, inr, Contains, length, get_or, take, sym, refl, subst, arith}
use Rattle.std.proofs.lemmas.List.{take_more, take_all}
use Rattle.std.proofs.lemmas.List.Elements.{Contains-append_cases}
use Rattle.clr_rules.proofs.Elements.{Among, among, contained}

module _ {X : Type 0} where
  pub alone : (x y : X) → Contains (x ∷ []) y → y ≡ x
  alone x y h = by (among y (x ∷ []) h)
    where
      by : (x ≡ y) ⊎ ⊥ → y ≡ x
      by (inl e) = sym e
      by (inr h) = absurd h

  -- one more of the elements that are gone over
  pub one_more : (xs : List X) (k : ℕ) (d x : X) → k < length xs → Contains (take (k + 1) xs) x → Contains (take k xs) x ⊎ (x ≡ get_or xs k d)
  one_more xs k d x less h = by (Contains-append_cases (take k xs) (get_or xs k d ∷ []) x (subst (λ ys. Contains ys x) (take_more xs k d less) h))
    where
      by : Contains (take k xs) x ⊎ Contains (get_or xs k d ∷ []) x → Contains (take k xs) x ⊎ (x ≡ get_or xs k d)
      by (inl before) = inl before
      by (inr last) = inr (alone (get_or xs k d) x last)

  pub none_taken : (xs : List X) (x : X) → Contains (take 0 xs) x → ⊥
  none_taken xs x h = among x [] h

  pub all_taken : (xs : List X) (k : ℕ) (x : X) → length xs ≤ k → Contains xs x → Contains (take k xs) x
  all_taken xs k x past h = subst (λ ys. Contains ys x) (sym (take_all k xs past)) h

  pub item_in : (xs : List X) (k : ℕ) (x : X) → k < length xs → x ≡ get_or xs k x → Contains xs x
  item_in xs k x less is = (k, less, sym is)

  among_read : (xs : List X) (k : ℕ) (d : X) → k < length xs → Among (get_or xs k d) xs
  among_read [] k d less = absurd (omega (arith, less))
  among_read (x ∷ xs) zero d less = inl refl
  among_read (x ∷ xs) (suc k) d less = inr (among_read xs k d (omega (arith, less)))

  pub read_in : (xs : List X) (k : ℕ) (d : X) → k < length xs → Contains xs (get_or xs k d)
  read_in xs k d less = contained (get_or xs k d) xs (among_read xs k d less)

  -- what is read of a list that is another one
  pub read_of : (xs ys : List X) (k : ℕ) (d : X) → xs ≡ ys → k < length xs → Contains ys (get_or xs k d)
  read_of xs ys k d same less = subst (λ zs. Contains zs (get_or xs k d)) same (read_in xs k d less)
