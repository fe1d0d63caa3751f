use Rattle.std.specs.Vec.Iter.{into_iter_items}
use Rattle.clr_spots.proofs.ListedSquares.{AddsNew}
use Rattle.clr_spots.proofs.parts.add_new.Given as goal

abbrev pub invariant-loop-spot : goal.invariant-loop-spot
invariant-loop-spot l = AddsNew l.fn.list.items l.fn.spots.items l.list.items (into_iter_items l.spot-iterator)
