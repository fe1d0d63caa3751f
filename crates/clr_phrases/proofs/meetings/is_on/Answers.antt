use Rattle.clr_segments.proofs.Words64.{not_so}
use Rattle.clr_phrases.proofs.CrossingLemmas.{in_range_of_part}
use Rattle.clr_phrases.proofs.meetings.is_on.Goals as goal

pub returns-else-is_in_range : goal.returns-else-is_in_range
returns-else-is_in_range c = (
  λ t. absurd (not_so c.is_in_range.result c.if-is_in_range.false c.is_in_range.ensures (c.is_in_range.ensures.0 t)),
  λ on. c.is_in_range.ensures.1 (in_range_of_part c.args.p c.args.part.0 c.args.part.1 c.requires.0 c.requires.1 on),
)
