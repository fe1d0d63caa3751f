use Rattle.clr_plan_causes.proofs.MeetingLemmas.{told_meets}
use Rattle.clr_plan_causes.proofs.cause_places.place_of_need.Goals as goal

pub returns : goal.returns
returns c s are subjects =
    let told = c.need_place-meeting.result in
    let placed = c.need_place-meeting.ensures s are in
    (told, placed, c.meeting_place.ensures (told_meets c.args.office.now s c.args.need.now told c.args.rows.now subjects placed))
