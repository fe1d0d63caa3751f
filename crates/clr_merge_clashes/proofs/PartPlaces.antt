-- Positions in a list of positions: some members of some members.
use Rattle.std.proofs.Common.{◌≡◌, ◌∙◌, ◌<◌, ◌≤◌, ◌+◌, ◌==◌, ℕ, zero, suc, Bool, true, false, cond, List, [], ◌∷◌, inl, inr, Option, Some, None}
use Rattle.std.proofs.Common.{ap, ap₂, arith, length, map, refl, subst, sym}
use Rattle.std.specs.Prelude.{option_and_then, slice_get}
use Rattle.std.specs.List.{cons_option, filter_map, range_with_len}
use Rattle.std.specs.List.Sorted.{IsStrictlySortedBy}
use Rattle.std.specs.Ordering.{nat_cmp}
use Rattle.std.specs.declared.cmp.Ordering.TheVariants.{Less}
use Rattle.std.proofs.lemmas.Bool.{false≢true}
use Rattle.std.proofs.lemmas.Bool.Decides.{Decides-eqb}
use Rattle.clr_rules.proofs.AskLemmas.{less_number}
use Rattle.clr_rules.proofs.Elements.{Among, all_by, among_mapped, each_of}
use Rattle.clr_needs.proofs.PartPositions.{StandsIn, in_one_order}
use Rattle.clr_needs.proofs.PositionLaws.{number_less}

-- elements by their positions ----------------------------------------------------------------------

module _ {X : Type 0} where
  pub is_at : (xs : List X) (k : ℕ) → k < length xs → (x : X) × (slice_get xs k ≡ Some x)
  is_at [] k less = absurd (omega (arith, less))
  is_at (x ∷ xs) zero less = (x, refl)
  is_at (x ∷ xs) (suc k) less = is_at xs k (omega (arith, less))

  pub among_at : (xs : List X) (x : X) → Among x xs → (k : ℕ) × (slice_get xs k ≡ Some x)
  among_at [] x h = absurd h
  among_at (y ∷ ys) x (inl e) = (0, ap Some e)
  among_at (y ∷ ys) x (inr h) = let (k, is) = among_at ys x h in (suc k, is)

  pub at_among : (xs : List X) (k : ℕ) (x : X) → slice_get xs k ≡ Some x → Among x xs
  at_among [] k x e = absurd (cc)
  at_among (y ∷ ys) zero x e = let same : y ≡ x = cc in inl same
  at_among (y ∷ ys) (suc k) x e = inr (at_among ys k x e)

  module _ (xs : List X) where
    -- the element at a place of some positions
    pub read_at_place : (ps : List ℕ) → ((k : ℕ) → Among k ps → k < length xs) → (j : ℕ) → slice_get (filter_map (slice_get xs) ps) j
        ≡ option_and_then (slice_get xs) (slice_get ps j)
    read_at_place [] below j = refl
    read_at_place (p ∷ ps) below zero =
        let (x, e) = is_at xs p (below p (inl refl)) in
        ap (λ (o : Option X). slice_get (cons_option o (filter_map (slice_get xs) ps)) 0) e ∙ sym e
    read_at_place (p ∷ ps) below (suc j) =
        let (x, e) = is_at xs p (below p (inl refl)) in
        ap (λ (o : Option X). slice_get (cons_option o (filter_map (slice_get xs) ps)) (suc j)) e ∙ read_at_place ps (λ k h. below k (inr h)) j

    -- some of some elements are some of all
    pub read_through : (ps : List ℕ) → ((k : ℕ) → Among k ps → k < length xs) → (js : List ℕ)
        → filter_map (slice_get (filter_map (slice_get xs) ps)) js ≡ filter_map (slice_get xs) (filter_map (slice_get ps) js)
    read_through ps below [] = refl
    read_through ps below (j ∷ js) =
        ap₂ (λ (o : Option X) (ys : List X). cons_option o ys) (read_at_place ps below j) (read_through ps below js) ∙ by (slice_get ps j)
      where
        by : (o : Option ℕ) → cons_option (option_and_then (slice_get xs) o) (filter_map (slice_get xs) (filter_map (slice_get ps) js))
            ≡ filter_map (slice_get xs) (cons_option o (filter_map (slice_get ps) js))
        by None = refl
        by (Some k) = refl

    -- an element of some stands at one of their positions
    pub among_read : (ps : List ℕ) (x : X) → Among x (filter_map (slice_get xs) ps) → (p : ℕ) × Among p ps × (slice_get xs p ≡ Some x)
    among_read [] x h = absurd h
    among_read (p ∷ ps) x h = by (slice_get xs p) refl h (among_read ps x)
      where
        by : (o : Option X) → slice_get xs p ≡ o → Among x (cons_option o (filter_map (slice_get xs) ps))
            → (Among x (filter_map (slice_get xs) ps) → (q : ℕ) × Among q ps × (slice_get xs q ≡ Some x))
            → (q : ℕ) × Among q (p ∷ ps) × (slice_get xs q ≡ Some x)
        by None e h more = let (q, there, is) = more h in (q, inr there, is)
        by (Some y) e (inl same) more = (p, inl refl, e ∙ ap Some same)
        by (Some y) e (inr h) more = let (q, there, is) = more h in (q, inr there, is)

-- places of numbers in a list ----------------------------------------------------------------------

-- where a number stands first
abbrev pub place : List ℕ → ℕ → ℕ
place [] x = 0
place (p ∷ ps) x = cond (p == x) 0 (suc (place ps x))

pub place_stands : (ps : List ℕ) (x : ℕ) → Among x ps → StandsIn ps (place ps x) x
place_stands [] x h = absurd h
place_stands (p ∷ ps) x h = by (p == x) refl h (place_stands ps x)
  where
    by : (b : Bool) → (p == x) ≡ b → Among x (p ∷ ps) → (Among x ps → StandsIn ps (place ps x) x) → slice_get (p ∷ ps) (cond b 0 (suc (place ps x))) ≡ Some x
    by true e h more = ap Some ((Decides-eqb p x).0 e)
    by false e (inl same) more = absurd (false≢true (sym e ∙ (Decides-eqb p x).1 same))
    by false e (inr later) more = more later

-- what stands at the places of some numbers are these
pub places_read : (ps qs : List ℕ) → ((x : ℕ) → Among x qs → Among x ps) → filter_map (slice_get ps) (map (place ps) qs) ≡ qs
places_read ps [] within = refl
places_read ps (q ∷ qs) within =
    ap₂ (λ (o : Option ℕ) (ys : List ℕ). cons_option o ys) (place_stands ps q (within q (inl refl))) (places_read ps qs (λ x h. within x (inr h)))

pub places_rise : (ps qs : List ℕ) → IsStrictlySortedBy nat_cmp ps → IsStrictlySortedBy nat_cmp qs → ((x : ℕ) → Among x qs → Among x ps)
    → IsStrictlySortedBy nat_cmp (map (place ps) qs)
unfolding IsStrictlySortedBy
places_rise ps [] rises sorted within = tt
places_rise ps (q ∷ qs) rises sorted within = (
  all_by (λ m. nat_cmp (place ps q) m ≡ Less) (map (place ps) qs) (λ m h. (
      let (x, there, is) = among_mapped (place ps) m qs h in
      let less = (in_one_order ps rises).falling (place ps q) (place ps x) q x (place_stands ps q (within q (inl refl)))
      (place_stands ps x (within x (inr there))) (number_less q x (each_of (λ w. nat_cmp q w ≡ Less) x qs sorted.0 there)) in
      subst (λ n. nat_cmp (place ps q) n ≡ Less) is (less_number (place ps q) (place ps x) less))),
  places_rise ps qs rises sorted.1 (λ x h. within x (inr h)),
)

-- what stands at rising places of rising numbers rises
pub read_rises : (ps js : List ℕ) → IsStrictlySortedBy nat_cmp ps → IsStrictlySortedBy nat_cmp js → ((j : ℕ) → Among j js → j < length ps)
    → IsStrictlySortedBy nat_cmp (filter_map (slice_get ps) js)
unfolding IsStrictlySortedBy
read_rises ps [] rises sorted below = tt
read_rises ps (j ∷ js) rises sorted below =
    let (x, e) = is_at ps j (below j (inl refl)) in
    let rest = read_rises ps js rises sorted.1 (λ k h. below k (inr h)) in
    let first = all_by (λ m. nat_cmp x m ≡ Less) (filter_map (slice_get ps) js) (λ m h.
    let (i, there, is) = among_read ps js m h in
    less_number x m ((in_one_order ps rises).rising j i x m e is (number_less j i (each_of (λ w. nat_cmp j w ≡ Less) i js sorted.0 there)))) in
    subst (λ (o : Option ℕ). IsStrictlySortedBy nat_cmp (cons_option o (filter_map (slice_get ps) js))) (sym e) (first, rest)

-- ranges ---------------------------------------------------------------------------------------------

pub from_on : (from n m : ℕ) → Among m (range_with_len from n) → (from ≤ m) × (m < from + n)
from_on from zero m h = absurd h
from_on from (suc n) m (inl same) = (omega (arith, same), omega (arith, same))
from_on from (suc n) m (inr h) = let (low, high) = from_on (from + 1) n m h in (omega (arith, low), omega (arith, high))

pub range_rises : (from n : ℕ) → IsStrictlySortedBy nat_cmp (range_with_len from n)
unfolding IsStrictlySortedBy
range_rises from zero = tt
range_rises from (suc n) = (
  all_by (λ m. nat_cmp from m ≡ Less) (range_with_len (from + 1) n) (λ m h. let (low, high) = from_on (from + 1) n m h in less_number from m
      (omega (arith, low))),
  range_rises (from + 1) n,
)

pub below_count : (n m : ℕ) → Among m (range_with_len 0 n) → m < n
below_count n m h = let (low, high) = from_on 0 n m h in omega (arith, high)
