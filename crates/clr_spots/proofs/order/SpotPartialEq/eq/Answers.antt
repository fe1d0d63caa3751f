use Rattle.std.proofs.Common.{◌∙◌, ap₂, sym}
use Rattle.clr_spots.specs.SpotOrder.{same_spot}
use Rattle.clr_spots.proofs.SpotLemmas.{values_tested}
use Rattle.clr_spots.proofs.order.SpotPartialEq.eq.Goals as goal

pub returns-in-Values-Values : goal.returns-in-Values-Values
unfolding same_spot
returns-in-Values-Values c =
    values_tested c.same.result c.in-Values-Values.a c.in-Values-Values.b c.same.ensures
    ∙ sym (ap₂ same_spot c.in-Values-Values.is-0 c.in-Values-Values.is-1)
