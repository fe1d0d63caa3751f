-- Whole numbers of 64 bits.
use Rattle.std.specs.Prelude.{ℤ, pos, negsuc, ◌^◌, Bool, nat_lt}

abbrev pub is_i64 : ℤ → Bool
is_i64 (pos n) = nat_lt n (2 ^ 63)
is_i64 (negsuc n) = nat_lt n (2 ^ 63)
