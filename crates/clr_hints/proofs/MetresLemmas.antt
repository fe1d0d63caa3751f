-- Whole numbers, as std reads them.
use Rattle.std.proofs.Common.{◌≡◌, ℕ, ◌<◌, ◌^◌, ◌&&◌, Bool, true, false, cond, List, length, Some, None, Result, Ok, Err, ℤ, pos, negsuc, refl, ap}
use Rattle.std.proofs.Common.{rules, FitsSigned, w64}
use Rattle.std.specs.List.{list_all}
use Rattle.std.specs.Result.{result_ok}
use Rattle.std.specs.Str.Parse.{IsNumeral, ParsesSigned, digits_value, signed_digits_value, without_leading_sign}
use Rattle.std.proofs.lemmas.Str.Parse.{IsNumeralModel, numerals_by_value}
use Rattle.std.proofs.lemmas.Bool.{and_parts}
use borrow.Author.Tests.{ltb-true, lt-ltb}
use Rattle.clr_rows.specs.Numbers.{is_i64}
use Rattle.clr_rows.proofs.SchemaLemmas.{number_within}
use Rattle.clr_hints.specs.Metres.{is_digit, is_numeral, whole_number}

digits : IsNumeralModel (λ ds. list_all is_digit ds ≡ true) (digits_value 10)
digits = numerals_by_value _ (search rules)

within : (z : ℤ) → is_i64 z ≡ true → FitsSigned w64 z
within (pos n) e = let lt : n < 2 ^ 63 = ltb-true n (2 ^ 63) e in search rules
within (negsuc n) e = let lt : n < 2 ^ 63 = ltb-true n (2 ^ 63) e in search rules

numeral : (text : List ℕ) → IsNumeral 10 text → is_numeral text ≡ true
numeral text is = rw (lt-ltb 0 (length text) is.0, digits.from text is.1) refl

is_one : (text : List ℕ) → is_numeral text ≡ true → IsNumeral 10 text
is_one text e = let t = and_parts _ _ e in (ltb-true 0 (length text) t.0, digits.to text t.1)

-- what std reads is the whole number
pub read : {E : Type 0} (text : List ℕ) (r : Result ℤ E) → ParsesSigned w64 10 text r → result_ok r ≡ whole_number text
unfolding whole_number
read text (Ok z) is = rw (numeral _ is.0.0, number_within _ is.0.1) (ap Some is.1)
read text (Err e) not = by (is_numeral (without_leading_sign text)) (is_i64 (signed_digits_value 10 text)) refl refl
  where
    by : (a b : Bool) → is_numeral (without_leading_sign text) ≡ a → is_i64 (signed_digits_value 10 text) ≡ b
        → None ≡ cond (a && b) (Some (signed_digits_value 10 text)) None
    by true true numeral fits = absurd (not (is_one _ numeral, within _ fits))
    by true false numeral fits = refl
    by false b numeral fits = refl
