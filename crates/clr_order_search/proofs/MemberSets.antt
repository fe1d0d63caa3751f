-- Sets as the bits of a number: one member less, all members, and none.
use Rattle.std.proofs.Common.{◌≡◌, ◌∙◌, ◌<◌, ◌==◌, ◌-◌, ◌^◌, ℕ, Bool, true, false, not, ◌&&◌, ◌||◌, inl, inr, refl, sym, ap, subst, arith}
use Rattle.std.specs.Prelude.{nat_lt}
use Rattle.std.specs.Int.{bit_at}
use Rattle.std.proofs.lemmas.Bool.{cases_lt, false≢true, true≢false, and_parts, lt-ltb, le-ltb}
use Rattle.std.proofs.lemmas.Bool.Decides.{Decides-eqb}
use Rattle.std.proofs.lemmas.Nat.Bits.{bit_at-lt, bit_at-zero, bit_at_ones, same_from_bits_below}
use Rattle.std.proofs.lemmas.Nat.{pow_pos}
use Rattle.clr_order_search.specs.Searching.{and_also, is_in, none_merged, outside}
use Rattle.clr_order_search.proofs.Rests.{same_of}

-- a member below a number that isn't outside a set is in it
pub inside : (count set m : ℕ) → m < count → outside count set m ≡ false → is_in set m ≡ true
inside count set m less h = by (is_in set m) (sym (ap (λ b. b && not (is_in set m)) (lt-ltb m count less)) ∙ h)
  where
    by : (b : Bool) → not b ≡ false → b ≡ true
    by true e = refl
    by false e = absurd (true≢false e)

pub outside_is : (count set m : ℕ) → m < count → is_in set m ≡ true → outside count set m ≡ false
outside_is count set m less h = ap (λ b. b && not (is_in set m)) (lt-ltb m count less) ∙ ap not h

pub outside_too : (count set m : ℕ) → m < count → is_in set m ≡ false → outside count set m ≡ true
outside_too count set m less h = ap (λ b. b && not (is_in set m)) (lt-ltb m count less) ∙ ap not h

-- nobody is outside the set of all
pub all_inside : (count m : ℕ) → outside count (2 ^ count - 1) m ≡ none_merged m
all_inside count m = elim (cases_lt m count) [
  | inl less ↦ outside_is count (2 ^ count - 1) m less (ap (λ b. b == 1) (bit_at_ones count m less))
  | inr most ↦ ap (λ b. b && not (is_in (2 ^ count - 1) m)) (le-ltb m count most)
]

-- everybody is outside the empty set
pub none_inside : (count m : ℕ) → m < count → outside count 0 m ≡ true
none_inside count m less = outside_too count 0 m less (ap (λ b. b == 1) (bit_at-zero m))

-- a set outside which everybody is is empty
pub empty_where_all_outside : (count set : ℕ) → set < 2 ^ count → ((m : ℕ) → m < count → outside count set m ≡ true) → set ≡ 0
empty_where_all_outside count set within all = same_from_bits_below count set 0 within (pow_pos count) bits
  where
    no_bit : (b : ℕ) → b < 2 → (b == 1) ≡ false → b ≡ 0
    no_bit b less h = elim (cases_lt b 1) [
      | inl low ↦ omega (arith, low)
      | inr high ↦ (let one : b ≡ 1 = omega (arith, less, high) in absurd (true≢false (sym ((Decides-eqb b 1).1 one) ∙ h)))
    ]

    bits : (i : ℕ) → i < count → bit_at set i ≡ bit_at 0 i
    bits i less = no_bit (bit_at set i) (bit_at-lt set i) (out i less) ∙ sym (bit_at-zero i)
      where
        out : (i : ℕ) → i < count → is_in set i ≡ false
        out i less = by (is_in set i) (and_parts (nat_lt i count) (not (is_in set i)) (all i less)).1
          where
            by : (b : Bool) → not b ≡ true → b ≡ false
            by true e = absurd (false≢true e)
            by false e = refl

-- one member less in the set is one more outside
pub one_less : (count set less m : ℕ) → m < count → ((x : ℕ) → is_in less x ≡ is_in set x && not (m == x)) → (x : ℕ)
    → outside count less x ≡ and_also (outside count set) m x
one_less count set less m below others x =
    ap (λ b. nat_lt x count && not b) (others x) ∙ by (nat_lt x count) (is_in set x) (m == x) (λ e. lt-ltb x count (subst (λ k. k < count) (same_of m x e) below))
  where
    by : (b i s : Bool) → (s ≡ true → b ≡ true) → (b && not (i && not s)) ≡ ((b && not i) || s)
    by true true true h = refl
    by true true false h = refl
    by true false true h = refl
    by true false false h = refl
    by false i true h = absurd (false≢true (h refl))
    by false i false h = refl
