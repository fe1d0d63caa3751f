-- The first and the last of some members in an order, one place after another.
use Rattle.std.proofs.Common.{◌≡◌, ◌∙◌, ◌<◌, ◌≤◌, ◌+◌, ℕ, true, false, List, Option, Some, None, inl, inr, MatchOption}
use Rattle.std.proofs.Common.{length, slice_get, sym, ap, arith}
use Rattle.std.proofs.lemmas.Bool.{cases_lt, true≢false}
use Rattle.std.proofs.lemmas.Option.{slice_get_within}
use Rattle.clr_order_search.specs.OpenNeeds.{has}
use Rattle.clr_order_answers.specs.Places.{IsFirstAmong, IsLastAmong, IsNoneAmong}

some : (x y : ℕ) → Some x ≡ Some y → x ≡ y
some x y e = cc

module _ (members order : List ℕ) where
  -- none of the first ones is one of the members
  abbrev pub IsNoneTo : ℕ → Type 0
  IsNoneTo end = (j x : ℕ) → j < end → slice_get order j ≡ Some x → has members x ≡ false

  pub no_place_yet : IsNoneTo 0
  no_place_yet j x less e = absurd (omega (arith, less))

  pub none_more : (k m : ℕ) → slice_get order k ≡ Some m → has members m ≡ false → IsNoneTo k → IsNoneTo (k + 1)
  none_more k m at out none j x less e = elim (cases_lt j k) [
    | inl before ↦ none j x before e
    | inr most ↦ (let same : j ≡ k = omega (arith, less, most) in
        ap (has members) (some x m (sym e ∙ ap (slice_get order) same ∙ at)) ∙ out)
  ]

  pub none_at_all : (k : ℕ) → length order ≤ k → IsNoneTo k → IsNoneAmong members order
  none_at_all k past none j x e = let less = slice_get_within order j x e in none j x (omega (arith, less, past)) e

  pub is_first : (k m : ℕ) → slice_get order k ≡ Some m → has members m ≡ true → IsNoneTo k → IsFirstAmong members order m
  is_first k m at is none = record {
    among = is;
    place = k;
    there = at;
    first = λ j x e h. elim (cases_lt j k) [ inl before ↦ absurd (true≢false (sym h ∙ none j x before e)) | inr most ↦ most ];
  }

  -- the last of the first ones that is one of the members
  pub record IsLastBelow (end m : ℕ) : Type 0 where
    pub among : has members m ≡ true
    pub place : ℕ
    pub there : slice_get order place ≡ Some m
    pub last : (j x : ℕ) → j < end → slice_get order j ≡ Some x → has members x ≡ true → j ≤ place

  abbrev pub IsLastTo : ℕ → Option ℕ → Type 0
  IsLastTo end None = IsNoneTo end
  IsLastTo end (Some m) = IsLastBelow end m

  pub now_last : (k m : ℕ) → slice_get order k ≡ Some m → has members m ≡ true → IsLastTo (k + 1) (Some m)
  now_last k m at is = record { among = is; place = k; there = at; last = λ j x less e h. omega (arith, less) }

  pub last_stays : (k m : ℕ) (last : Option ℕ) → slice_get order k ≡ Some m → has members m ≡ false → IsLastTo k last → IsLastTo (k + 1) last
  last_stays k m None at out none = none_more k m at out none
  last_stays k m (Some l) at out below = record {
    among = below.among;
    place = below.place;
    there = below.there;
    last = λ j x less e h. elim (cases_lt j k) [
      | inl before ↦ below.last j x before e h
      | inr most ↦ (let same : j ≡ k = omega (arith, less, most) in absurd (true≢false (sym h ∙ at_same j x same e)))
    ];
  }
    where
      at_same : (j x : ℕ) → j ≡ k → slice_get order j ≡ Some x → has members x ≡ false
      at_same j x same e = ap (has members) (some x m (sym e ∙ ap (slice_get order) same ∙ at)) ∙ out

  pub is_last : (k : ℕ) (last : Option ℕ) → length order ≤ k → IsLastTo k last → MatchOption last (IsNoneAmong members order) (IsLastAmong members order)
  is_last k None past none = none_at_all k past none
  is_last k (Some m) past below = record {
    among = below.among;
    place = below.place;
    there = below.there;
    last = λ j x e h. (let less = slice_get_within order j x e in below.last j x (omega (arith, less, past)) e h);
  }
