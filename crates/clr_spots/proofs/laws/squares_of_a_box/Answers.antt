use Rattle.clr_spots.proofs.SquareLemmas.{squares_of_box}
use Rattle.clr_spots.proofs.laws.squares_of_a_box.Goals as goal

pub returns : goal.returns
returns c = squares_of_box
