use Rattle.clr_check.proofs.CoverLemmas.{second_told}
use Rattle.clr_check.proofs.covers.is_covered.Goals as goal

pub returns : goal.returns
returns g c a b possible = second_told _ _ c.subjects_never_meet.result c.has_cover.result c.if-subjects_never_meet.false
    (c.subjects_never_meet.ensures a b possible) (c.has_cover.ensures a b possible)
