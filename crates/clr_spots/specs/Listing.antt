-- How the squares of a row's parts are listed: box by box, until they are too many.
use Rattle.std.specs.Prelude.{◌≡◌, Bool, true, false, List}
use Rattle.clr_segments.specs.declared.boxes.Bounds.{Bounds}
use Rattle.clr_spots.specs.declared.spots.Spot.{Spot}
use Rattle.clr_spots.specs.Spots.{squares_of, union, are_many}

-- the squares that meet a box are added to a list, or they would be too many
abbrev pub AddsSquares : Bool → List Spot → List Spot → Bounds → Type 0
AddsSquares true old new b = (new ≡ union old (squares_of b)) × (are_many new ≡ false)
AddsSquares false old new b = are_many (union old (squares_of b)) ≡ true
