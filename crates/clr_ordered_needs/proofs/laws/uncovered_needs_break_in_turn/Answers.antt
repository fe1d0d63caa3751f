use Rattle.clr_ordered_needs.proofs.BreakLaws.{uncovered_breaks}
use Rattle.clr_ordered_needs.proofs.UpToBlockers.{up_to_blockers_are_listed}
use Rattle.clr_ordered_needs.proofs.laws.uncovered_needs_break_in_turn.Goals as goal

pub returns : goal.returns
returns g c = record { broken = λ before s. uncovered_breaks before s; listed = λ before s. up_to_blockers_are_listed s before }
