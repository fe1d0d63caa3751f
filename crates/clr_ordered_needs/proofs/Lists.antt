-- Lists of members as sets: some of a list, and lists in which no member stands twice.
use Rattle.std.proofs.Common.{◌≡◌, ◌∙◌, ℕ, zero, suc, Bool, true, false, cond, List, [], ◌∷◌, ◌⊎◌, filter, inl, inr, refl, sym, ap, arith, Some, slice_get}
use Rattle.std.proofs.lemmas.Bool.{false≢true, true≢false, or_cases, or_left, or_right}
use Rattle.clr_needs.specs.Settings.{Setting, has}

module _ {A : Type 0} (c : Setting A) where
  pub here : (x : A) (xs : List A) → has c.same (x ∷ xs) x ≡ true
  here x xs = or_left (c.same x x) (has c.same xs x) ((c.decides x x).1 refl)

  pub alike : (s : A → Bool) (x y : A) → c.same x y ≡ true → s x ≡ s y
  alike s x y same = ap s ((c.decides x y).0 same)

  -- some of a list --------------------------------------------------------------------------

  pub of_some : (p : A → Bool) (xs : List A) (x : A) → has c.same (filter p xs) x ≡ true → (has c.same xs x ≡ true) × (p x ≡ true)
  of_some p [] x h = absurd (false≢true h)
  of_some p (y ∷ ys) x h = by (p y) refl h (of_some p ys x)
    where
      by : (b : Bool) → p y ≡ b → has c.same (cond b (y ∷ filter p ys) (filter p ys)) x ≡ true
          → (has c.same (filter p ys) x ≡ true → (has c.same ys x ≡ true) × (p x ≡ true)) → (has c.same (y ∷ ys) x ≡ true) × (p x ≡ true)
      by true e h more = elim (or_cases (c.same y x) (has c.same (filter p ys) x) h) [
        | inl same ↦ (or_left (c.same y x) (has c.same ys x) same, sym (alike p y x same) ∙ e)
        | inr other ↦ (or_right (c.same y x) (has c.same ys x) (more other).0, (more other).1)
      ]
      by false e h more = (or_right (c.same y x) (has c.same ys x) (more h).0, (more h).1)

  pub some_of : (p : A → Bool) (xs : List A) (x : A) → has c.same xs x ≡ true → p x ≡ true → has c.same (filter p xs) x ≡ true
  some_of p [] x h e = absurd (false≢true h)
  some_of p (y ∷ ys) x h e = by (p y) refl (or_cases (c.same y x) (has c.same ys x) h) (λ g. some_of p ys x g e)
    where
      by : (b : Bool) → p y ≡ b → (c.same y x ≡ true) ⊎ (has c.same ys x ≡ true) → (has c.same ys x ≡ true → has c.same (filter p ys) x ≡ true)
          → has c.same (cond b (y ∷ filter p ys) (filter p ys)) x ≡ true
      by true f (inl same) more = or_left (c.same y x) (has c.same (filter p ys) x) same
      by true f (inr g) more = or_right (c.same y x) (has c.same (filter p ys) x) (more g)
      by false f (inl same) more = absurd (true≢false (sym e ∙ sym (alike p y x same) ∙ f))
      by false f (inr g) more = more g

  -- lists in which no member stands twice ---------------------------------------------------------

  -- no member stands twice in a list
  abbrev pub AreOnce : List A → Type 0
  AreOnce [] = Unit {0}
  AreOnce (x ∷ xs) = (has c.same xs x ≡ false) × AreOnce xs

  pub stands_once : (xs : List A) → ((j k : ℕ) (x : A) → slice_get xs j ≡ Some x → slice_get xs k ≡ Some x → j ≡ k) → AreOnce xs
  stands_once [] differ = tt
  stands_once (x ∷ xs) differ = (
    out (has c.same xs x) refl,
    stands_once xs (λ j k y e f. (let one : suc j ≡ suc k = differ (suc j) (suc k) y e f in omega (arith, one))),
  )
    where
      at : (ys : List A) → has c.same ys x ≡ true → (k : ℕ) × (slice_get ys k ≡ Some x)
      at [] h = absurd (false≢true h)
      at (y ∷ ys) h = by (or_cases (c.same y x) (has c.same ys x) h) (at ys)
        where
          by : (c.same y x ≡ true) ⊎ (has c.same ys x ≡ true) → (has c.same ys x ≡ true → (k : ℕ) × (slice_get ys k ≡ Some x))
              → (k : ℕ) × (slice_get (y ∷ ys) k ≡ Some x)
          by (inl same) more = (zero, ap Some ((c.decides y x).0 same))
          by (inr behind) more = let (k, e) = more behind in (suc k, e)

      out : (b : Bool) → has c.same xs x ≡ b → b ≡ false
      out false e = refl
      out true e = let (k, f) = at xs e in let one : zero ≡ suc k = differ zero (suc k) x refl f in absurd (omega (arith, one))

  has_at : (xs : List A) (k : ℕ) (x : A) → slice_get xs k ≡ Some x → has c.same xs x ≡ true
  has_at [] k x e = absurd (cc)
  has_at (y ∷ ys) zero x e = let one : y ≡ x = cc in or_left (c.same y x) (has c.same ys x) ((c.decides y x).1 one)
  has_at (y ∷ ys) (suc k) x e = or_right (c.same y x) (has c.same ys x) (has_at ys k x e)

  pub once_differ : (xs : List A) → AreOnce xs → (j k : ℕ) (x : A) → slice_get xs j ≡ Some x → slice_get xs k ≡ Some x → j ≡ k
  once_differ [] once j k x e f = absurd (cc)
  once_differ (y ∷ ys) once zero zero x e f = refl
  once_differ (y ∷ ys) once zero (suc k) x e f =
      let one : y ≡ x = cc in absurd (true≢false (sym (has_at ys k x f) ∙ ap (has c.same ys) (sym one) ∙ once.0))
  once_differ (y ∷ ys) once (suc j) zero x e f =
      let one : y ≡ x = cc in absurd (true≢false (sym (has_at ys j x e) ∙ ap (has c.same ys) (sym one) ∙ once.0))
  once_differ (y ∷ ys) once (suc j) (suc k) x e f = ap suc (once_differ ys once.1 j k x e f)

  pub some_once : (p : A → Bool) (xs : List A) → AreOnce xs → AreOnce (filter p xs)
  some_once p [] once = tt
  some_once p (x ∷ xs) once = by (p x) (some_once p xs once.1)
    where
      out : (b : Bool) → has c.same (filter p xs) x ≡ b → b ≡ false
      out false e = refl
      out true e = absurd (true≢false (sym (of_some p xs x e).0 ∙ once.0))

      by : (b : Bool) → AreOnce (filter p xs) → AreOnce (cond b (x ∷ filter p xs) (filter p xs))
      by true more = (out (has c.same (filter p xs) x) refl, more)
      by false more = more
