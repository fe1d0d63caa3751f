-- Lengths of the world, as they are read: in metres.
use Rattle.std.specs.Prelude.{ℕ, ℤ, ◌/◌, ◌%◌, ◌==◌, List, ◌++◌, codes, decimal, unsigned_abs, if◌then◌else◌}
use Rattle.clr_svg.specs.Numbers.{sign_text}

-- the hundredths and the thousandths of a metre, without a nought at the end
unfoldable pub last_digits : ℕ → List ℕ
last_digits n = if n % 10 == 0 then decimal (n % 100 / 10) else decimal (n % 100 / 10) ++ decimal (n % 10)

-- the point and the decimals of a length in metres that isn't whole, without noughts at the end
unfoldable pub decimals : ℕ → List ℕ
decimals n = if n % 100 == 0 then codes "." ++ decimal (n % 1000 / 100) else codes "." ++ decimal (n % 1000 / 100) ++ last_digits n

-- millimetres as metres, with as many decimals as they need
unfoldable pub unsigned_text : ℕ → List ℕ
unsigned_text n = if n % 1000 == 0 then decimal (n / 1000) else decimal (n / 1000) ++ decimals n

abbrev pub round_metres_text : ℤ → List ℕ
round_metres_text n = sign_text n ++ unsigned_text (unsigned_abs n)
