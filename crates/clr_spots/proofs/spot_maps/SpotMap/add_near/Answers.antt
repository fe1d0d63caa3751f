use Rattle.clr_rows.proofs.BeginningLaws.{on_err}
use Rattle.clr_spots.proofs.Beginnings.{near_begun}
use Rattle.clr_spots.proofs.spot_maps.SpotMap.add_near.Goals as goal

pub returns-in_err-extend_from_slice-3-clause-err : goal.returns-in_err-extend_from_slice-3-clause-err
returns-in_err-extend_from_slice-3-clause-err c =
    on_err _ (near_begun c.args.self.now c.args.spots.now.list c.args.spots.now.wide c.args.list.now.items c.loop-spot.list.items
    c.extend_from_slice-in-loop-spot.new.self.items
    c.loop-spot.spot-index c.if-spots.false c.loop-spot.invariant c.in_err-extend_from_slice-3.ensures.items)
