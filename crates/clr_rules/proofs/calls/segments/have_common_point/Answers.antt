use Rattle.std.proofs.Common.{arith, sym}
use Rattle.clr_segments.specs.declared.meeting.Meet.TheVariants.{Apart}
use Rattle.clr_segments.proofs.SearchLemmas.{common_by_meet}
use Rattle.clr_rules.proofs.calls.segments.have_common_point.Goals as goal

pub returns-in-Apart : goal.returns-in-Apart
returns-in-Apart c =
    let a = c.args in
    sym (common_by_meet Apart a.one.0 a.one.1 a.other.0 a.other.1 c.requires.one.differ c.requires.other.differ c.in-Apart.ensures)

pub returns-in-Once : goal.returns-in-Once
returns-in-Once c =
    let a = c.args in
    let found = common_by_meet c.meet.result a.one.0 a.one.1 a.other.0 a.other.1 c.requires.one.differ c.requires.other.differ c.meet.ensures in
    grind (arith, found)
