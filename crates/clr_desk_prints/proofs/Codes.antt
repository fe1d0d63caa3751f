-- Decimals of numbers of 32 bits.
use Rattle.std.proofs.Common.{◌≡◌, ℕ, ℤ, pos, negsuc, ◌<◌, ◌^◌, List, Option, Some, decimal, ap, ◌∙◌, sym, subst, arith, unsigned_abs, w64, to_z}
use Rattle.std.proofs.Common.{of_z}
use Rattle.std.proofs.lemmas.Bool.{lt-ltb}
use Rattle.std.proofs.lemmas.Int.{to_z-of_z}
use Rattle.std.specs.Int.{FitsUnsignedBits}
use Rattle.clr_records.specs.Decimals.{number_of}
use Rattle.clr_records.proofs.Decimals.{number_again, number_form, within}

-- a number that is read is within 64 bits
pub same_number : (text : List ℕ) (n : ℤ) → number_of text ≡ Some n → to_z w64 (of_z w64 n) ≡ n
same_number text n e = to_z-of_z w64 n (within n (number_form text n e).1).0

-- a text that is read as a number of 32 bits is its decimal
pub decimal_form : (text : List ℕ) (n : ℤ) (code : ℕ) → number_of text ≡ Some n → FitsUnsignedBits 32 n → code ≡ unsigned_abs n → text ≡ decimal code
decimal_form text (pos m) code e fits is = (number_form text (pos m) e).0 ∙ ap decimal (sym is)
decimal_form text (negsuc m) code e fits is = absurd fits

-- the decimal of a number of 32 bits is read as the number
pub decimal_again : (text : List ℕ) (o : Option ℤ) (code : ℕ) → number_of text ≡ o → code < 2 ^ 32 → text ≡ decimal code → o ≡ Some (pos code)
decimal_again text o code e low is =
    sym e ∙ ap number_of is ∙ number_again (pos code) (lt-ltb code (2 ^ 63) (omega (arith, low)))

pub fits_again : (text : List ℕ) (n : ℤ) (code : ℕ) → number_of text ≡ Some n → code < 2 ^ 32 → text ≡ decimal code → FitsUnsignedBits 32 n
fits_again text n code e low is =
    let same : n ≡ pos code = cc (decimal_again text (Some n) code e low is) in
    subst (FitsUnsignedBits 32) (sym same) low
