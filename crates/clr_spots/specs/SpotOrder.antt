-- The order of spots: squares before lists of values.
use Rattle.std.specs.Prelude.{Bool, false, ◌&&◌}
use Rattle.std.specs.Ordering.{int_cmp, int_eq, nat_cmp, ordering_then}
use Rattle.std.specs.Cmp.Lexicographic.{slice_cmp}
use Rattle.std.specs.declared.cmp.Ordering.{Ordering}
use Rattle.std.specs.declared.cmp.Ordering.TheVariants.{Less, Greater}
use Rattle.clr_rows.specs.declared.rows.Value.{Value}
use Rattle.clr_rows.specs.declared.rows.Value.TheVariants.{Int, Words}
use Rattle.clr_rows.specs.Same.{same_values}
use Rattle.clr_spots.specs.declared.spots.Spot.{Spot}
use Rattle.clr_spots.specs.declared.spots.Spot.TheVariants.{Square, Values}

-- values are ordered: numbers before texts, and texts by their bytes
abbrev pub value_cmp : Value → Value → Ordering
value_cmp (Int a) (Int b) = int_cmp a b
value_cmp (Int a) (Words b) = Less
value_cmp (Words a) (Int b) = Greater
value_cmp (Words a) (Words b) = slice_cmp nat_cmp a b

-- spots are ordered: squares by x, then by y; lists of values from left to right
unfoldable pub spot_cmp : Spot → Spot → Ordering
spot_cmp (Square i j) (Square k l) = ordering_then (int_cmp i k) (int_cmp j l)
spot_cmp (Square i j) (Values vs) = Less
spot_cmp (Values vs) (Square i j) = Greater
spot_cmp (Values vs) (Values ws) = slice_cmp value_cmp vs ws

unfoldable pub same_spot : Spot → Spot → Bool
same_spot (Square i j) (Square k l) = int_eq i k && int_eq j l
same_spot (Square i j) (Values vs) = false
same_spot (Values vs) (Square i j) = false
same_spot (Values vs) (Values ws) = same_values vs ws
