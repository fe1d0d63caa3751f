-- Names and numbers are in UTF-8.
use Rattle.std.proofs.Common.{◌≡◌, ℕ, ℤ, ◌<◌, true, List, [], ◌∷◌, arith}
use Rattle.std.specs.Prelude.{IsUtf8}
use Rattle.std.specs.Fmt.{signed_decimal}
use Rattle.std.specs.List.{AllByRecursion, list_all}
use Rattle.std.proofs.lemmas.Bool.{and_parts}
use Rattle.std.proofs.lemmas.Bool.Decides.{nat_tests}
use Rattle.std.proofs.lemmas.Fmt.{IsAscii-signed}
use Rattle.std.proofs.lemmas.List.Elements.{All-from_recursion}
use Rattle.std.proofs.lemmas.Str.{IsUtf8-from_ascii}
use Rattle.std.proofs.lemmas.Str.Ascii.{IsAscii-from_all}
use Rattle.clr_rows.specs.Names.{is_good_name, is_name_byte}
use Rattle.clr_rows.specs.Numbers.{is_i64}
use Rattle.clr_records.proofs.Decimals.{within}

pub name_byte_low : (b : ℕ) → is_name_byte b ≡ true → b < 128
name_byte_low b e = grind (arith, nat_tests)

low_bytes : (s : List ℕ) → list_all is_name_byte s ≡ true → AllByRecursion (λ b. b < 128) s
low_bytes [] e = tt
low_bytes (b ∷ s) e = let t = and_parts (is_name_byte b) (list_all is_name_byte s) e in (name_byte_low b t.0, low_bytes s t.1)

pub low_utf8 : (s : List ℕ) → AllByRecursion (λ b. b < 128) s → IsUtf8 s
low_utf8 s all = IsUtf8-from_ascii s (IsAscii-from_all s (All-from_recursion (λ b. b < 128) s all))

pub name_utf8 : (name : List ℕ) → is_good_name name ≡ true → IsUtf8 name
unfolding is_good_name
name_utf8 name e = low_utf8 name (low_bytes name (and_parts _ (list_all is_name_byte name) e).1)

pub number_utf8 : (z : ℤ) → is_i64 z ≡ true → IsUtf8 (signed_decimal z)
number_utf8 z e = IsUtf8-from_ascii (signed_decimal z) (IsAscii-signed z (within z e).1)
