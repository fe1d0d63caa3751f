-- Whole millimetres as decimal numbers of metres, with three decimals also where they are zeros.
use Rattle.std.specs.Prelude.{ℕ, ◌+◌, ◌/◌, ◌%◌, ℤ, pos, negsuc, unsigned_abs, List, [], ◌∷◌, ◌++◌, decimal}

abbrev pub zero_digit : ℕ
zero_digit = 48

abbrev pub point : ℕ
point = 46

abbrev pub minus_sign : ℕ
minus_sign = 45

abbrev pub three_digits : ℕ → List ℕ
three_digits n = (zero_digit + n / 100) ∷ (zero_digit + n % 100 / 10) ∷ (zero_digit + n % 100 % 10) ∷ []

abbrev pub unsigned_metres : ℕ → List ℕ
unsigned_metres n = decimal (n / 1000) ++ point ∷ three_digits (n % 1000)

abbrev pub sign_text : ℤ → List ℕ
sign_text (pos n) = []
sign_text (negsuc n) = minus_sign ∷ []

-- a number of millimetres as metres
abbrev pub metres_text : ℤ → List ℕ
metres_text z = sign_text z ++ unsigned_metres (unsigned_abs z)
