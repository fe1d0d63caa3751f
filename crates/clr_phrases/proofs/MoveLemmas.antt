-- A coordinate by its way from another, in words of 64 and of 128 bits.
use Rattle.std.proofs.Common.{◌≡◌, ◌≢◌, ℤ, pos, negsuc, zero, suc, ◌+ℤ◌, ◌-ℤ◌, ◌*ℤ◌, ◌*◌, ◌<◌, ◌≤◌, ◌∙◌, unsigned_abs, arith, ap, ap₂, sym, refl, subst, subst₂, le_trans, lit≤}
use Rattle.std.proofs.Common.{SFits, of_z, w64, to_z-of_z}
use Rattle.std.proofs.lemmas.Int.{ints}
use Rattle.std.specs.Int.{w128}
use Rattle.std.specs.Prelude.{Result, Ok, Err, int_div}
use Rattle.std.specs.Result.{OkIff, result_unwrap_or}
use lib.IntN.{*ℤ_comm}
use Rattle.clr_rows.specs.declared.limits.TheConstants.{GREATEST_COORDINATE}
use Rattle.clr_rows.specs.declared.places.Place.{Place}
use Rattle.clr_rows.specs.Places.{InRange}
use Rattle.clr_segments.specs.Sizes.{greatest_difference, greatest_product}
use Rattle.clr_segments.proofs.Integers.{linear, size-sub}
use Rattle.clr_segments.proofs.Words64.{coordinate_fits, difference_is, word_value as word64}
use Rattle.clr_phrases.specs.Crossings.{IsCoordinateAt}
use Rattle.clr_phrases.proofs.CrossingLemmas.{exact_division}
use Rattle.clr_phrases.proofs.Words128.{area_fits, difference_fits, shift_in_word, word_value as word128}

-- ---- coordinates and ways in words of 128 bits
coordinate_bound : (x : ℤ) → unsigned_abs x ≤ GREATEST_COORDINATE → unsigned_abs x ≤ greatest_difference
coordinate_bound x h = le_trans h (lit≤ tt)

way_bound : (x from : ℤ) → unsigned_abs x ≤ GREATEST_COORDINATE → unsigned_abs from ≤ GREATEST_COORDINATE → unsigned_abs (x -ℤ from) ≤ greatest_difference
way_bound x from h k = omega (arith, size-sub x from)

pub coordinate_fits_128 : (x : ℤ) → unsigned_abs x ≤ GREATEST_COORDINATE → SFits w128 x
coordinate_fits_128 x h = difference_fits x (coordinate_bound x h)

there_and_back : (from x : ℤ) → from +ℤ (x -ℤ from) ≡ x
there_and_back from x = omega (arith, linear)

-- ---- the sum of a coordinate and a way
pub sum_value : (from shift x f : ℤ) → unsigned_abs from ≤ GREATEST_COORDINATE → SFits w128 shift → shift ≡ x -ℤ from → f ≡ word64 from
    → word128 f +ℤ word128 shift ≡ x
sum_value from shift x f h fits e same =
    let f_is : word128 f ≡ from = ap word128 (same ∙ to_z-of_z (coordinate_fits from h)) ∙ to_z-of_z (coordinate_fits_128 from h) in
    ap₂ (λ (a b : ℤ). a +ℤ b) f_is (to_z-of_z fits ∙ e) ∙ there_and_back from x

-- a number that fits is taken over
taken_over : {E : Type 0} (r : Result ℤ E) (z d : ℤ) → SFits w64 z → OkIff r (SFits w64 z) z → result_unwrap_or r d ≡ z
taken_over (Ok v) z d fits h = h.1
taken_over (Err e) z d fits h = absurd (h fits)

pub sum_taken : {E : Type 0} (r : Result ℤ E) (sum x d there : ℤ) → unsigned_abs x ≤ GREATEST_COORDINATE → sum ≡ x → OkIff r (SFits w64 (word128 sum)) (word128 sum)
    → there ≡ result_unwrap_or r d → word64 there ≡ x
sum_taken r sum x d there h e ok same =
    let kept : word128 sum ≡ x = ap word128 e ∙ to_z-of_z (coordinate_fits_128 x h) in
    let fits : SFits w64 (word128 sum) = subst (λ (z : ℤ). SFits w64 z) (sym kept) (coordinate_fits x h) in
    ap word64 (same ∙ taken_over r (word128 sum) d fits ok ∙ kept) ∙ to_z-of_z (coordinate_fits x h)

-- ---- the share of a way
-- the quotient of which the code asks
abbrev pub quotient : ℤ → ℤ → ℤ → ℤ
quotient way n d = int_div (word128 (word128 way *ℤ word128 n)) (word128 d)

pub quotient_is : (from to n d x way : ℤ) → unsigned_abs from ≤ GREATEST_COORDINATE → unsigned_abs to ≤ GREATEST_COORDINATE → unsigned_abs way ≤ greatest_difference
    → unsigned_abs n ≤ 2 * greatest_product → SFits w128 d → way ≡ word64 to -ℤ word64 from → IsCoordinateAt from to n d x → quotient way n d ≡ x -ℤ from
quotient_is from to n d x way in_from in_to way_in n_in fits e at_x =
    let product : way *ℤ n ≡ d *ℤ (x -ℤ from) = ap (λ (z : ℤ). z *ℤ n) (difference_is to from way in_to in_from e) ∙ *ℤ_comm (to -ℤ from) n ∙ sym at_x.share in
    ap₂ int_div (shift_in_word way n way_in n_in) (to_z-of_z fits) ∙ exact_division (way *ℤ n) d (x -ℤ from) at_x.divides product

pub shift_kept : (from x shift : ℤ) → unsigned_abs from ≤ GREATEST_COORDINATE → unsigned_abs x ≤ GREATEST_COORDINATE → shift ≡ x -ℤ from
    → word128 shift ≡ x -ℤ word64 from
shift_kept from x shift h k e =
    ap word128 e ∙ to_z-of_z (difference_fits (x -ℤ from) (way_bound x from k h)) ∙ ap (λ (z : ℤ). x -ℤ z) (sym (to_z-of_z (coordinate_fits from h)))

pub quotient_fits : (from x q : ℤ) → unsigned_abs from ≤ GREATEST_COORDINATE → unsigned_abs x ≤ GREATEST_COORDINATE → q ≡ x -ℤ from → SFits w128 q
quotient_fits from x q h k e = subst (λ (z : ℤ). SFits w128 z) (sym e) (difference_fits (x -ℤ from) (way_bound x from k h))

-- ---- divisors
bits_positive : (d : ℤ) → SFits w128 d → d ≢ pos 0 → 0 < of_z w128 d
bits_positive (pos zero) fits n = absurd (n refl)
bits_positive (pos (suc k)) fits n = omega arith
bits_positive (negsuc k) fits n = omega (arith, ints)

pub is_divisor : (d : ℤ) → SFits w128 d → d ≢ pos 0 → 0 < of_z w128 (word128 d)
is_divisor d fits n = subst (λ (z : ℤ). 0 < of_z w128 z) (sym (to_z-of_z fits)) (bits_positive d fits n)

-- ---- arguments and results
pub coordinate_words : (from to n d x n' d' : ℤ) → unsigned_abs from ≤ GREATEST_COORDINATE → unsigned_abs to ≤ GREATEST_COORDINATE
    → unsigned_abs n' ≤ 2 * greatest_product → unsigned_abs d' ≤ 2 * greatest_product → n' ≡ n → d' ≡ d
    → IsCoordinateAt from to n d x → IsCoordinateAt (word64 from) (word64 to) (word128 n') (word128 d') x
coordinate_words from to n d x n' d' in_from in_to n_in d_in e f at_x =
    subst₂ (λ (p q : ℤ). IsCoordinateAt (word64 from) (word64 to) p q x) (sym (to_z-of_z (area_fits n' n_in) ∙ e)) (sym (to_z-of_z (area_fits d' d_in) ∙ f))
    (subst₂ (λ (p q : ℤ). IsCoordinateAt p q n d x) (sym (to_z-of_z (coordinate_fits from in_from))) (sym (to_z-of_z (coordinate_fits to in_to))) at_x)

placed : ℤ → ℤ → Place
placed x y = record { x = x; y = y }

pub placed_words : (x y : ℤ) (p : Place) → InRange p → x ≡ p.x → y ≡ p.y → record { x = word64 x; y = word64 y } ≡ p
unfolding placed
placed_words x y p h e f = ap₂ placed (ap word64 e ∙ to_z-of_z (coordinate_fits p.x h.in_x)) (ap word64 f ∙ to_z-of_z (coordinate_fits p.y h.in_y))
