-- Numbers by which cells are filed: one spot has one number, which another spot seldom has.
use Rattle.std.specs.Prelude.{ℕ, ◌+◌, ◌*◌, ◌^◌, ◌%◌, Bool, nat_eq}
use Rattle.std.specs.Int.{cast_unsigned, w64}
use Rattle.std.specs.List.{fold}
use Rattle.clr_rows.specs.declared.rows.Value.{Value}
use Rattle.clr_rows.specs.declared.rows.Value.TheVariants.{Int, Words}
use Rattle.clr_spots.specs.declared.spots.Spot.{Spot}
use Rattle.clr_spots.specs.declared.spots.Spot.TheVariants.{Square, Values}
use Rattle.clr_grid.specs.declared.spot_numbers.TheConstants.{NUMBER_FACTOR, TEXT_END}

-- one more number mixed in
abbrev pub mix_in : ℕ → ℕ → ℕ
mix_in number more = (((number * NUMBER_FACTOR) % 2 ^ 64) + more) % 2 ^ 64

abbrev pub mix_value : ℕ → Value → ℕ
mix_value number (Int x) = mix_in number (cast_unsigned w64 x)
mix_value number (Words text) = mix_in (fold mix_in number text) TEXT_END

unfoldable pub spot_number_of : Spot → ℕ
spot_number_of (Square i j) = mix_in (cast_unsigned w64 i) (cast_unsigned w64 j)
spot_number_of (Values values) = fold mix_value 1 values

-- the spot has that number
abbrev pub has_number : ℕ → Spot → Bool
has_number number x = nat_eq number (spot_number_of x)
