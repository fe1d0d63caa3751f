-- Whole millimetres that are written as metres are read as the same.
use Rattle.std.proofs.Common.{◌≡◌, ℕ, suc, ◌+◌, ◌*◌, ◌-◌, ◌/◌, ◌%◌, ◌<◌, ◌≤◌, ◌^◌, ◌==◌, Bool, true, false, [], ◌∷◌, Ok}
use Rattle.std.proofs.Common.{ℤ, pos, negsuc, refl, arith}
use Rattle.std.specs.Prelude.{unsigned_abs}
use Rattle.std.specs.Fmt.{decimal}
use Rattle.std.specs.List.{AllByRecursion}
use Rattle.std.proofs.lemmas.Bool.{le-leb, lt-ltb, ne_eqb}
use Rattle.std.proofs.lemmas.Nat.{div-add-mod', div_below, mod_below}
use Rattle.clr_rows.specs.declared.limits.TheConstants.{GREATEST_COORDINATE}
use Rattle.clr_rows.specs.Numbers.{is_i64}
use Rattle.clr_records.proofs.Decimals.{number_again}
use Rattle.clr_layer_text.specs.declared.limits.TheConstants.{MOST_METRES}
use Rattle.clr_metres.specs.Metres.{metres_text, three_digits, unsigned_metres}
use Rattle.clr_layer_text.specs.Metres.{behind_point, is_digit, millimetres_of, thousandths, unsigned_of}
use Rattle.clr_records.proofs.Turns.{joined}
use Rattle.clr_layer_text.proofs.CutAgain.{IsDigitByte, IsNumberByte, Lacks, cut_again, decimal_bytes, each_so, not_cut}

digit_byte : (d : ℕ) → d < 10 → is_digit (48 + d) ≡ true
digit_byte d lt = rw (le-leb 48 (48 + d) (omega arith), le-leb (48 + d) 57 (omega arith)) refl

-- the three digits of a number below 1,000
record Digits (n : ℕ) : Type 0 where
  first : n / 100 < 10
  second : n % 100 / 10 < 10
  third : n % 100 % 10 < 10
  sum : 100 * (n / 100) + 10 * (n % 100 / 10) + n % 100 % 10 ≡ n

digits : (n : ℕ) → n < 1000 → Digits n
digits n lt =
    let whole = div-add-mod' n 100 in
    let rest = div-add-mod' (n % 100) 10 in
    record {
      first = div_below n 100 10 (omega arith) (omega arith);
      second = div_below (n % 100) 10 10 (omega arith) (mod_below n 100 (omega arith));
      third = mod_below (n % 100) 10 (omega arith);
      sum = omega (arith, whole, rest);
    }

back : (d : ℕ) → 48 + d - 48 ≡ d
back d = omega arith

thousandths_again : (n : ℕ) → n < 1000 → thousandths (three_digits n) ≡ n
thousandths_again n lt = rw (back (n / 100), back (n % 100 / 10), back (n % 100 % 10)) (digits n lt).sum

behind_again : (rounded : Bool) (n : ℕ) → n < 1000 → behind_point rounded (three_digits n) ≡ Ok n
behind_again rounded n lt =
    let d = digits n lt in
    rw (digit_byte (n / 100) d.first, digit_byte (n % 100 / 10) d.second, digit_byte (n % 100 % 10) d.third, thousandths_again n lt) refl

is_whole : (n : ℕ) → n ≤ 2 ^ 62 → is_i64 (pos n) ≡ true
is_whole n le = lt-ltb n (2 ^ 63) (omega arith)

no_point : (n : ℕ) → n < 2 ^ 64 → Lacks 46 (decimal n)
no_point n lt = each_so IsDigitByte (λ b. (b == 46) ≡ false) (decimal n) (λ b is. let above = is.0 in ne_eqb b 46 (λ e. omega arith)) (decimal_bytes n lt)

unsigned_again : (rounded : Bool) (n : ℕ) → n ≤ GREATEST_COORDINATE → unsigned_of rounded (unsigned_metres n) ≡ Ok n
unfolding unsigned_of
unsigned_again rounded n le =
    let low : n / 1000 < 1000001 = div_below n 1000 1000001 (omega arith) (omega arith) in
    let rest : n % 1000 < 1000 = mod_below n 1000 (omega arith) in
    let sum = div-add-mod' n 1000 in
    rw (
      cut_again 46 (decimal (n / 1000)) (three_digits (n % 1000)) (no_point (n / 1000) (omega arith)),
      number_again (pos (n / 1000)) (is_whole (n / 1000) (omega arith)),
      le-leb (n / 1000) MOST_METRES (omega arith),
      behind_again rounded (n % 1000) rest,
      sum,
    ) refl

-- the bytes of a number of metres ----------------------------------------------------------------

digit_is : (b : ℕ) → IsDigitByte b → IsNumberByte b
digit_is b is = let above = is.0 in (omega arith, is.1)

unsigned_bytes : (n : ℕ) → n ≤ GREATEST_COORDINATE → AllByRecursion IsNumberByte (unsigned_metres n)
unsigned_bytes n le =
    let low : n / 1000 < 1000001 = div_below n 1000 1000001 (omega arith) (omega arith) in
    let d = digits (n % 1000) (mod_below n 1000 (omega arith)) in
    let a = d.first in
    let b = d.second in
    let e = d.third in
    joined IsNumberByte (decimal (n / 1000)) (46 ∷ three_digits (n % 1000)) (each_so IsDigitByte IsNumberByte (decimal (n / 1000)) digit_is
    (decimal_bytes (n / 1000) (omega arith)))
    ((omega arith, omega arith), ((omega arith, omega arith), ((omega arith, omega arith), ((omega arith, omega arith), tt))))

pub metres_bytes : (z : ℤ) → unsigned_abs z ≤ GREATEST_COORDINATE → AllByRecursion IsNumberByte (metres_text z)
metres_bytes (pos n) le = unsigned_bytes n le
metres_bytes (negsuc n) le = ((omega arith, omega arith), unsigned_bytes (suc n) le)

-- no minus stands in a number without a sign
no_minus : (n : ℕ) → n ≤ GREATEST_COORDINATE → Lacks 45 (unsigned_metres n)
no_minus n le =
    let low : n / 1000 < 1000001 = div_below n 1000 1000001 (omega arith) (omega arith) in
    joined (λ b. (b == 45) ≡ false) (decimal (n / 1000)) (46 ∷ three_digits (n % 1000))
    (each_so IsDigitByte (λ b. (b == 45) ≡ false) (decimal (n / 1000)) (λ b is. let above = is.0 in ne_eqb b 45 (λ e. omega arith))
    (decimal_bytes (n / 1000) (omega arith)))
    (refl, (ne_eqb _ 45 (λ e. omega arith), (ne_eqb _ 45 (λ e. omega arith), (ne_eqb _ 45 (λ e. omega arith), tt))))

-- a number of millimetres that is written as metres is read as the same
pub metres_again : (rounded : Bool) (z : ℤ) → unsigned_abs z ≤ GREATEST_COORDINATE → millimetres_of rounded (metres_text z) ≡ Ok z
unfolding millimetres_of
metres_again rounded (pos n) le = rw (not_cut 45 (unsigned_metres n) (no_minus n le), unsigned_again rounded n le) refl
metres_again rounded (negsuc n) le = rw (cut_again 45 [] (unsigned_metres (suc n)) tt, unsigned_again rounded (suc n) le) refl
