use Rattle.std.proofs.Common.{◌<◌, length, arith}
use Rattle.std.proofs.lemmas.Bool.{lt-ltb}
use Rattle.clr_spots.specs.declared.limits.TheConstants.{MOST_SPOTS}
use Rattle.clr_spots.specs.Spots.{squares_of}
use Rattle.clr_spots.proofs.ListedSquares.{box_too_many}
use Rattle.clr_spots.proofs.parts.add_squares.Goals as goal

pub returns-then-count_squares : goal.returns-then-count_squares
returns-then-count_squares c =
    let many : MOST_SPOTS < length (squares_of c.args.bounds) = omega arith in
    box_too_many c.args.list.now.items c.args.bounds (lt-ltb MOST_SPOTS (length (squares_of c.args.bounds)) many)
