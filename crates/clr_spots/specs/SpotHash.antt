-- What spots feed a hasher. The impl of `Hash` cites these.
use Rattle.std.proofs.Common.{◌≡◌, true, ap}
use Rattle.std.specs.Prelude.{[], ◌∷◌, ◌++◌}
use Rattle.std.specs.Hash as fed
use Rattle.std.specs.Hash.{HashWrites}
use Rattle.std.specs.List.{flat_map}
use Rattle.clr_rows.specs.declared.rows.Value.{Value}
use Rattle.clr_rows.specs.declared.rows.Value.TheVariants.{Int, Words}
use Rattle.clr_spots.specs.declared.spots.Spot.{Spot}
use Rattle.clr_spots.specs.declared.spots.Spot.TheVariants.{Square, Values}
use Rattle.clr_spots.specs.SpotOrder.{same_spot}
use Rattle.clr_spots.specs.SpotOrderLaws.{same_spot_is}

-- a number as its eight bytes, a text as all its bytes at once
abbrev pub value_writes : Value → HashWrites
value_writes (Int a) = fed.i64 a
value_writes (Words a) = a ∷ []

-- the numbers of a square, or the values from left to right. Nothing tells the two kinds apart
unfoldable pub spot_writes : Spot → HashWrites
spot_writes (Square i j) = fed.i64 i ++ fed.i64 j
spot_writes (Values vs) = flat_map value_writes vs

-- spots that are the same feed a hasher alike
pub same_writes : (a b : Spot) → same_spot a b ≡ true → spot_writes a ≡ spot_writes b
same_writes a b e = ap spot_writes (same_spot_is a b e)
