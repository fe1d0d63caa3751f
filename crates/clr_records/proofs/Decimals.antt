-- Numbers in their one decimal form: what is written is read, and nothing else is.
use Rattle.std.proofs.Common.{◌≡◌, ◌≢◌, ℕ, suc, ◌<◌, ◌^◌, ◌&&◌, Bool, true, false, cond, List, get_or, Option, Some, None, Result, Ok, ℤ, pos, negsuc, refl, ap}
use Rattle.std.proofs.Common.{Err, arith, rules, sym}
use Rattle.std.specs.Str.{bytes_eq}
use Rattle.std.specs.Str.Parse.{signed_digits_value, ParsesSigned}
use Rattle.std.specs.Fmt.{signed_decimal, decimal}
use Rattle.std.specs.Int.RustNames.{FitsSigned}
use Rattle.std.proofs.lemmas.Fmt.{decimal_is_IsNumeral, parse-signed_decimal, decimal_nonempty}
use Rattle.std.proofs.lemmas.Str.Parse.{digit_at, without_leading_plus_none}
use Rattle.std.proofs.lemmas.Slice.Eq.{bytes_eq-Decides}
use Rattle.std.proofs.lemmas.Bool.{ne_eqb}
use borrow.Author.Tests.{ltb-true}
use lib.Signed.{mag}
use mir.Syntax.{w64}
use Rattle.clr_rows.specs.Numbers.{is_i64}
use Rattle.clr_records.specs.Decimals.{number_of}

-- both forms of "within 64 bits"
pub within : (z : ℤ) → is_i64 z ≡ true → FitsSigned w64 z × (mag z < 2 ^ 63)
within (pos n) e = let lt : n < 2 ^ 63 = ltb-true n (2 ^ 63) e in (search rules, lt)
within (negsuc n) e = let lt : n < 2 ^ 63 = ltb-true n (2 ^ 63) e in (search rules, lt)

-- a decimal begins with neither `+` nor `-`
no_sign : (n : ℕ) → n < 2 ^ 64 → (get_or (decimal n) 0 0 ≢ 43) × (get_or (decimal n) 0 0 ≢ 45)
no_sign n lt =
    let d = digit_at (decimal n) 0 (decimal_is_IsNumeral n lt).0.1 (decimal_nonempty n lt) in
    (λ e. omega arith, λ e. omega arith)

value_is : (z : ℤ) → is_i64 z ≡ true → signed_digits_value 10 (signed_decimal z) ≡ z
value_is (pos n) e =
    let lt : n < 2 ^ 63 = ltb-true n (2 ^ 63) e in
    let plain = no_sign n (omega arith) in
    let minus = ne_eqb (get_or (decimal n) 0 0) 45 plain.1 in
    rw (minus, without_leading_plus_none (decimal n) plain.0) (ap pos (decimal_is_IsNumeral n (omega arith)).1)
value_is (negsuc n) e =
    let lt : n < 2 ^ 63 = ltb-true n (2 ^ 63) e in
    rw ((decimal_is_IsNumeral (suc n) (omega arith)).1) refl

-- a number's decimal is read as the number
pub number_again : (z : ℤ) → is_i64 z ≡ true → number_of (signed_decimal z) ≡ Some z
unfolding number_of
number_again z e = rw (value_is z e, (bytes_eq-Decides (signed_decimal z) (signed_decimal z)).1 refl, e) refl

both_hold : (a b : Bool) (z y : ℤ) → cond (a && b) (Some z) None ≡ Some y → (a ≡ true) × (b ≡ true) × (z ≡ y)
both_hold true true z y e = (refl, refl, cc)
both_hold true false z y e = absurd cc
both_hold false b z y e = absurd cc

-- a text that is read as a number is its decimal, and the number is within 64 bits
pub number_form : (text : List ℕ) (z : ℤ) → number_of text ≡ Some z → (text ≡ signed_decimal z) × (is_i64 z ≡ true)
unfolding number_of
number_form text z e =
    let t = both_hold (bytes_eq text (signed_decimal (signed_digits_value 10 text))) (is_i64 (signed_digits_value 10 text)) _ z e in
    (rw (← t.2) ((bytes_eq-Decides _ _).0 t.0), rw (← t.2) t.1)

no_other : (text : List ℕ) (o : Option ℤ) → number_of text ≡ o → ((z : ℤ) → is_i64 z ≡ true → text ≡ signed_decimal z → ⊥) → number_of text ≡ None
no_other text None e h = e
no_other text (Some z) e h = let t = number_form text z e in absurd (h z t.1 t.0)

-- a text that is no number's decimal is read as none
pub no_number : (text : List ℕ) → ((z : ℤ) → is_i64 z ≡ true → text ≡ signed_decimal z → ⊥) → number_of text ≡ None
no_number text h = no_other text (number_of text) refl h

-- what std's parsing gives of a number's decimal
pub parsed : {E : Type 0} (z : ℤ) (text : List ℕ) (answer : Result ℤ E) → is_i64 z ≡ true → text ≡ signed_decimal z → ParsesSigned w64 10 text answer → answer
    ≡ Ok z
parsed z text answer e is h = let f = within z e in parse-signed_decimal w64 z text answer f.0 f.1 is h

-- a text that std's parsing refuses is read as none
pub unparsed : {E : Type 0} (text : List ℕ) (answer : Result ℤ E) (e : E) → answer ≡ Err e → ParsesSigned w64 10 text answer → None ≡ number_of text
unparsed text answer e refused h = sym (no_number text (λ z within is. absurd (cc (parsed z text answer within is h))))
