-- Where members stand in lists, and which of them pass a test.
use Rattle.std.proofs.Common.{◌≡◌, ◌<◌, ◌==◌, ℕ, zero, suc, Bool, true, false, ◌&&◌, ◌||◌, List, [], ◌∷◌, ◌⊎◌, inl, inr, refl, ap, subst, arith}
use Rattle.std.proofs.Common.{slice_get, take, Some}
use Rattle.std.specs.List.{list_all, list_any}
use Rattle.std.proofs.lemmas.Bool.{and_parts, false≢true, or_cases, or_left, or_parts, or_right}
use Rattle.std.proofs.lemmas.Bool.Decides.{Decides-eqb}
use Rattle.clr_order_search.specs.OpenNeeds.{has}
use Rattle.clr_order_search.proofs.Rests.{itself, same_of}

-- all or none of a list pass a test ---------------------------------------------------------------------------

pub all_of : (p : ℕ → Bool) (xs : List ℕ) → ((x : ℕ) → has xs x ≡ true → p x ≡ true) → list_all p xs ≡ true
all_of p [] each = refl
all_of p (x ∷ xs) each =
    let here = each x (or_left (x == x) (has xs x) (itself x)) in
    let rest = all_of p xs (λ y h. each y (or_right (x == y) (has xs y) h)) in
    λ i. here i && rest i

pub each_of : (p : ℕ → Bool) (xs : List ℕ) → list_all p xs ≡ true → (x : ℕ) → has xs x ≡ true → p x ≡ true
each_of p [] all x h = absurd (false≢true h)
each_of p (y ∷ ys) all x h =
    let both = and_parts (p y) (list_all p ys) all in
    elim (or_cases (y == x) (has ys x) h) [
      | inl same ↦ subst (λ z. p z ≡ true) (same_of y x same) both.0
      | inr behind ↦ each_of p ys both.1 x behind
    ]

pub none_of : (p : ℕ → Bool) (xs : List ℕ) → ((x : ℕ) → has xs x ≡ true → p x ≡ false) → list_any p xs ≡ false
none_of p [] each = refl
none_of p (x ∷ xs) each =
    let here = each x (or_left (x == x) (has xs x) (itself x)) in
    let rest = none_of p xs (λ y h. each y (or_right (x == y) (has xs y) h)) in
    λ i. here i || rest i

pub not_of : (p : ℕ → Bool) (xs : List ℕ) → list_any p xs ≡ false → (x : ℕ) → has xs x ≡ true → p x ≡ false
not_of p [] none x h = absurd (false≢true h)
not_of p (y ∷ ys) none x h =
    let both = or_parts (p y) (list_any p ys) none in
    elim (or_cases (y == x) (has ys x) h) [
      | inl same ↦ subst (λ z. p z ≡ false) (same_of y x same) both.0
      | inr behind ↦ not_of p ys both.1 x behind
    ]

pub some_of : (p : ℕ → Bool) (xs : List ℕ) → list_any p xs ≡ true → (v : ℕ) × (has xs v ≡ true) × (p v ≡ true)
some_of p [] h = absurd (false≢true h)
some_of p (x ∷ xs) h = by (or_cases (p x) (list_any p xs) h) (some_of p xs)
  where
    by : (p x ≡ true) ⊎ (list_any p xs ≡ true) → (list_any p xs ≡ true → (v : ℕ) × (has xs v ≡ true) × (p v ≡ true))
        → (v : ℕ) × (has (x ∷ xs) v ≡ true) × (p v ≡ true)
    by (inl there) rest = (x, or_left (x == x) (has xs x) (itself x), there)
    by (inr behind) rest = let (v, come, there) = rest behind in (v, or_right (x == v) (has xs v) come, there)

-- the first members of a list ---------------------------------------------------------------------------------

pub taken : (xs : List ℕ) (n x : ℕ) → has (take n xs) x ≡ true → (j : ℕ) × (j < n) × (slice_get xs j ≡ Some x)
taken [] zero x h = absurd (false≢true h)
taken [] (suc n) x h = absurd (false≢true h)
taken (z ∷ zs) zero x h = absurd (false≢true h)
taken (z ∷ zs) (suc n) x h = by (or_cases (z == x) (has (take n zs) x) h) (taken zs n x)
  where
    by : ((z == x) ≡ true) ⊎ (has (take n zs) x ≡ true) → (has (take n zs) x ≡ true → (j : ℕ) × (j < n) × (slice_get zs j ≡ Some x))
        → (j : ℕ) × (j < suc n) × (slice_get (z ∷ zs) j ≡ Some x)
    by (inl same) rest = (zero, omega arith, ap Some (same_of z x same))
    by (inr behind) rest = let (j, less, f) = rest behind in (suc j, omega (arith, less), f)

pub among_first : (xs : List ℕ) (n j x : ℕ) → slice_get xs j ≡ Some x → j < n → has (take n xs) x ≡ true
among_first [] n j x e less = absurd (cc)
among_first (z ∷ zs) zero j x e less = absurd (omega (arith, less))
among_first (z ∷ zs) (suc n) zero x e less = let one : z ≡ x = cc in or_left (z == x) (has (take n zs) x) ((Decides-eqb z x).1 one)
among_first (z ∷ zs) (suc n) (suc j) x e less = or_right (z == x) (has (take n zs) x) (among_first zs n j x e (omega (arith, less)))
