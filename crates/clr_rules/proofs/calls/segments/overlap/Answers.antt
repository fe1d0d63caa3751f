use Rattle.std.proofs.Common.{arith, sym}
use Rattle.clr_segments.specs.declared.meeting.Meet.TheVariants.{Overlap}
use Rattle.clr_segments.proofs.SearchLemmas.{two_by_meet}
use Rattle.clr_rules.proofs.calls.segments.overlap.Goals as goal

pub returns-in-Apart : goal.returns-in-Apart
returns-in-Apart c =
    let a = c.args in
    let found = two_by_meet c.meet.result a.one.0 a.one.1 a.other.0 a.other.1 c.requires.one.differ c.requires.other.differ c.meet.ensures in
    grind (arith, found)

pub returns-in-Overlap : goal.returns-in-Overlap
returns-in-Overlap c =
    let a = c.args in
    sym (two_by_meet Overlap a.one.0 a.one.1 a.other.0 a.other.1 c.requires.one.differ c.requires.other.differ c.in-Overlap.ensures)
