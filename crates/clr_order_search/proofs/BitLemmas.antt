-- What the bits of a number say of members: beyond the width there is none, and one bit cleared leaves the others.
use Rattle.std.proofs.Common.{◌≡◌, ◌∙◌, ◌<◌, ◌≤◌, ◌==◌, ◌*◌, ◌%◌, ◌^◌, ℕ, Bool, true, false, not, ◌&&◌, inl, inr, refl, sym, ap, arith}
use Rattle.std.specs.Int.{bit_not}
use Rattle.std.specs.Int.Bits.{bit_and}
use Rattle.std.proofs.lemmas.Bool.{cases_Bool, cases_lt, true≢false}
use Rattle.std.proofs.lemmas.Bool.Decides.{Decides-eqb}
use Rattle.std.proofs.lemmas.Nat.{and_le_l}
use Rattle.std.proofs.lemmas.Nat.Bits.{bit_at_above, bit_at_clear_other, bit_at_clear_same}
use Rattle.std.proofs.Common.{w64}
use Rattle.clr_order_search.specs.Searching.{is_in}
use Rattle.clr_order_search.proofs.Rests.{same_of}

-- a number of 64 bits has no member from 64 on
pub none_above : (set m : ℕ) → set < 2 ^ 64 → 64 ≤ m → is_in set m ≡ false
none_above set m within most = ap (λ b. b == 1) (bit_at_above set 64 m within most)

module _ (set m : ℕ) (few : m < 64) (within : set < 2 ^ 64) (there : is_in set m ≡ true) where
  -- the set with the bit cleared
  abbrev pub cleared : ℕ
  cleared = bit_and set (bit_not w64 (1 * 2 ^ m % 2 ^ 64))

  gone : is_in cleared m ≡ false
  gone = ap (λ b. b == 1) (bit_at_clear_same w64 set m few)

  pub cleared_less : cleared < set
  cleared_less = elim (cases_lt cleared set) [
    | inl less ↦ less
    | inr most ↦ (let no_more = and_le_l set (bit_not w64 (1 * 2 ^ m % 2 ^ 64)) in
        let same : cleared ≡ set = omega (arith, most, no_more) in
        absurd (true≢false (sym there ∙ ap (λ s. is_in s m) (sym same) ∙ gone)))
  ]

  pub cleared_others : (x : ℕ) → is_in cleared x ≡ is_in set x && not (m == x)
  cleared_others x = elim (cases_Bool (m == x)) [
    | inl same ↦ ap (is_in cleared) (sym (same_of m x same)) ∙ gone ∙ sym (without same)
    | inr other ↦ elim (cases_lt x 64) [
      | inl low ↦ ap (λ b. b == 1) (bit_at_clear_other w64 set m few x low (apart other)) ∙ sym (with other)
      | inr high ↦ none_above cleared x lower high ∙ sym (ap (λ b. b && not (m == x)) (none_above set x within high))
    ]
  ]
    where
      lower : cleared < 2 ^ 64
      lower = let less = cleared_less in omega (arith, less, within)

      without : (m == x) ≡ true → is_in set x && not (m == x) ≡ false
      without same = ap (λ b. is_in set x && not b) same ∙ by (is_in set x)
        where
          by : (b : Bool) → b && false ≡ false
          by true = refl
          by false = refl

      with : (m == x) ≡ false → is_in set x && not (m == x) ≡ is_in set x
      with other = ap (λ b. is_in set x && not b) other ∙ by (is_in set x)
        where
          by : (b : Bool) → b && true ≡ b
          by true = refl
          by false = refl

      apart : (m == x) ≡ false → x ≡ m → ⊥
      apart other same = true≢false (sym ((Decides-eqb m x).1 (sym same)) ∙ other)
