use Rattle.std.proofs.Common.{◌≡◌, Some, rules}
use Rattle.clr_plan_causes.specs.CauseMarks.{meeting_parts}
use Rattle.clr_plan_causes.proofs.MeetingLemmas.{near_by}
use Rattle.clr_plan_causes.proofs.cause_places.ring_near.Goals as goal

pub returns : goal.returns
returns c meet =
    let parts = meeting_parts c.args.rows.now c.args.need.now in
    let are : parts ≡ Some (c.in_ok-first.first, c.in_ok-first.second) = search rules in
    near_by parts c.in_ok-first.first c.in_ok-first.second c.place_near.result are c.place_near.ensures meet
