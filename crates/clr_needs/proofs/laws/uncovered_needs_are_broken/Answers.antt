use Rattle.clr_needs.proofs.BrokenLaws.{uncovered_breaks}
use Rattle.clr_needs.proofs.laws.uncovered_needs_are_broken.Goals as goal

pub returns : goal.returns
returns c = record {
  by_position = λ s ts n a b apart changes uncovered touched blockers. uncovered_breaks s n a b ts uncovered blockers apart changes touched;
  by_name = λ s ts n a b apart changes uncovered touched blockers. uncovered_breaks s n a b ts uncovered blockers apart changes touched;
}
