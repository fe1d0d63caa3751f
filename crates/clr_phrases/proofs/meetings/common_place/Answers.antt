use Rattle.clr_segments.proofs.Words64.{not_so}
use Rattle.clr_phrases.proofs.MeetingLemmas.{no_common_place}
use Rattle.clr_phrases.proofs.meetings.common_place.Goals as goal

pub returns-else-is_on_both-3-clause-none : goal.returns-else-is_on_both-3-clause-none
returns-else-is_on_both-3-clause-none c =
    no_common_place c.args.first.0 c.args.first.1 c.args.second.0 c.args.second.1 c.crossing_of_lines-place.result c.requires.first_part c.requires.second_part
    c.requires.some c.requires.one c.crossing_of_lines-place.ensures
    (not_so c.is_on_both.result c.if-is_on_both.false c.is_on_both.ensures)
    (not_so c.is_on_both-else-is_on_both.result c.if-is_on_both-2.false c.is_on_both-else-is_on_both.ensures)
    (not_so c.is_on_both-else-is_on_both-2.result c.if-is_on_both-3.false c.is_on_both-else-is_on_both-2.ensures)
