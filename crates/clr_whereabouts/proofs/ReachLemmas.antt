-- A coordinate near a share of a way, in words of 64 and of 128 bits.
use Rattle.std.proofs.Common.{◌≡◌, ◌≢◌, ℕ, ℤ, pos, ◌+ℤ◌, ◌-ℤ◌, ◌*ℤ◌, ◌*◌, ◌≤◌, ◌∙◌, unsigned_abs, arith, ap, ap₂, sym, subst, subst₂, le_trans, lit≤}
use Rattle.std.proofs.Common.{SFits, w64, to_z-of_z}
use Rattle.std.specs.Int.{w128}
use Rattle.std.specs.Prelude.{Result, Ok, Err, int_div}
use Rattle.std.specs.Result.{OkIff, result_unwrap_or}
use Rattle.clr_rows.specs.declared.limits.TheConstants.{GREATEST_COORDINATE}
use Rattle.clr_segments.specs.Sizes.{greatest_difference, greatest_product}
use Rattle.clr_segments.proofs.Integers.{linear, size-sub}
use Rattle.clr_segments.proofs.Words64.{coordinate_fits, difference_is, fits as fits_64, word_value as word64}
use Rattle.clr_phrases.proofs.MoveLemmas.{quotient as word_quotient}
use Rattle.clr_phrases.proofs.Words128.{area_fits, difference_fits, fits as fits_128, shift_in_word, word_value as word128}
use Rattle.clr_whereabouts.specs.Crossings.{IsNumberNear, IsReached, IsShare, greatest_reach}
use Rattle.clr_whereabouts.proofs.NearLemmas.{quotient}

pub reach_fits : (x : ℤ) → unsigned_abs x ≤ greatest_reach → SFits w64 x
reach_fits x h = fits_64 x (le_trans h (lit≤ tt))

pub reach_fits_128 : (x : ℤ) → unsigned_abs x ≤ greatest_reach → SFits w128 x
reach_fits_128 x h = fits_128 x (le_trans h (lit≤ tt))

-- ---- the sum of a coordinate and a way, as a coordinate
taken_over : {E : Type 0} (r : Result ℤ E) (z d : ℤ) → SFits w64 z → OkIff r (SFits w64 z) z → result_unwrap_or r d ≡ z
taken_over (Ok v) z d fits h = h.1
taken_over (Err e) z d fits h = absurd (h fits)

pub sum_taken : {E : Type 0} (r : Result ℤ E) (sum x d there : ℤ) → unsigned_abs x ≤ greatest_reach → sum ≡ x → OkIff r (SFits w64 (word128 sum)) (word128 sum)
    → there ≡ result_unwrap_or r d → word64 there ≡ x
sum_taken r sum x d there h e ok same =
    let kept : word128 sum ≡ x = ap word128 e ∙ to_z-of_z (reach_fits_128 x h) in
    let fits : SFits w64 (word128 sum) = subst (λ (z : ℤ). SFits w64 z) (sym kept) (reach_fits x h) in
    ap word64 (same ∙ taken_over r (word128 sum) d fits ok ∙ kept) ∙ to_z-of_z (reach_fits x h)

-- ---- the quotient of which the code asks
pub way_bound : (from to q : ℤ) → unsigned_abs from ≤ GREATEST_COORDINATE → unsigned_abs to ≤ GREATEST_COORDINATE → unsigned_abs q ≤ unsigned_abs (to -ℤ from)
    → unsigned_abs q ≤ greatest_difference
way_bound from to q h k small = omega (arith, size-sub to from, small)

pub quotient_value : (from to n d way : ℤ) → unsigned_abs from ≤ GREATEST_COORDINATE → unsigned_abs to ≤ GREATEST_COORDINATE
    → unsigned_abs way ≤ greatest_difference → unsigned_abs n ≤ 2 * greatest_product → SFits w128 d → way ≡ word64 to -ℤ word64 from
    → word_quotient way n d ≡ quotient from to n d
quotient_value from to n d way in_from in_to way_in n_in fits e =
    ap₂ int_div (shift_in_word way n way_in n_in ∙ ap (λ (z : ℤ). z *ℤ n) (difference_is to from way in_to in_from e)) (to_z-of_z fits)

back : (from q : ℤ) → (from +ℤ q) -ℤ from ≡ q
back from q = omega (arith, linear)

pub shift_kept : (from q shift : ℤ) → unsigned_abs from ≤ GREATEST_COORDINATE → unsigned_abs q ≤ greatest_difference → shift ≡ q
    → word128 shift ≡ (from +ℤ q) -ℤ word64 from
shift_kept from q shift h k e =
    ap word128 e ∙ to_z-of_z (difference_fits q k) ∙ sym (back from q) ∙ ap (λ (z : ℤ). (from +ℤ q) -ℤ z) (sym (to_z-of_z (coordinate_fits from h)))

pub quotient_fits : (q there : ℤ) → unsigned_abs q ≤ greatest_difference → there ≡ q → SFits w128 there
quotient_fits q there h e = subst (λ (z : ℤ). SFits w128 z) (sym e) (difference_fits q h)

-- ---- arguments and results
pub share_words : (k s : ℕ) (n d n' d' : ℤ) → unsigned_abs n' ≤ 2 * greatest_product → unsigned_abs d' ≤ 2 * greatest_product → n' ≡ n → d' ≡ d
    → IsShare k s n d → IsShare k s (word128 n') (word128 d')
share_words k s n d n' d' n_in d_in e f share =
    subst₂ (λ (p q : ℤ). IsShare k s p q) (sym (to_z-of_z (area_fits n' n_in) ∙ e)) (sym (to_z-of_z (area_fits d' d_in) ∙ f)) share

pub near_words : (k s : ℕ) (from to x : ℤ) → unsigned_abs from ≤ GREATEST_COORDINATE → unsigned_abs to ≤ GREATEST_COORDINATE
    → IsReached k s (word64 from) (word64 to) x → IsNumberNear k s from to (word64 x)
near_words k s from to x in_from in_to reached =
    subst (λ (z : ℤ). IsNumberNear k s from to z) (sym (to_z-of_z (reach_fits x reached.1)))
    (subst₂ (λ (p q : ℤ). IsNumberNear k s p q x) (to_z-of_z (coordinate_fits from in_from)) (to_z-of_z (coordinate_fits to in_to)) reached.0)
