use Rattle.clr_ordered_needs.proofs.CoverLaws.{covered_breaks_no_more, covered_holds}
use Rattle.clr_ordered_needs.proofs.laws.members_covered_in_turn_break_no_more.Goals as goal

pub returns : goal.returns
returns g c = record { no_more = λ before s. covered_breaks_no_more before s; held = λ before s. covered_holds before s }
