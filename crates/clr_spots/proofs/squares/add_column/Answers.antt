use Rattle.std.proofs.Common.{◌≡◌, ◌∙◌, ℤ, List, [], ◌∷◌, ◌++◌, add-one, append_assoc, arith}
use Rattle.std.proofs.lemmas.Int.{ints}
use Rattle.clr_spots.specs.declared.spots.Spot.{Spot}
use Rattle.clr_spots.specs.declared.spots.Spot.TheVariants.{Square}
use Rattle.clr_spots.proofs.squares.add_column.Goals as goal

longer : (old col list new : List Spot) (i y z : ℤ) → new ≡ list ++ Square i y ∷ [] → list ≡ old ++ col → y ≡ z → new ≡ old ++ (col ++ Square i z ∷ [])
longer old col list new i y z is so_far e = is ∙ rw (so_far, e, append_assoc)

pub loop-k-preserved : goal.loop-k-preserved
loop-k-preserved c = rw add-one (longer _ _ _ _ _ _ _ c.in_ok-push.ensures.items c.loop-k.invariant (omega (arith, ints)))
