-- A length by its sign, its whole metres and its three decimals.
use Rattle.std.proofs.Common.{◌≡◌, ℕ, ℤ, List, ◌∷◌, ◌++◌, ◌/◌, ◌%◌, arith, refl}
use Rattle.std.specs.Prelude.{decimal, unsigned_abs}
use Rattle.std.proofs.lemmas.Fmt.{decimal_digit}
use Rattle.clr_metres.specs.Metres.{metres_text, sign_text}

pub metres_by_digits : (sign : List ℕ) (z : ℤ) (n : ℕ) → sign ≡ sign_text z → n ≡ unsigned_abs z
    → sign ++ (decimal (n / 1000) ++ 46 ∷ (decimal (n % 1000 / 100) ++ (decimal (n % 1000 % 100 / 10) ++ decimal (n % 1000 % 100 % 10)))) ≡ metres_text z
metres_by_digits sign z n same size =
    rw (
      decimal_digit (n % 1000 / 100) (omega arith),
      decimal_digit (n % 1000 % 100 / 10) (omega arith),
      decimal_digit (n % 1000 % 100 % 10) (omega arith),
      same,
      size,
    ) refl
