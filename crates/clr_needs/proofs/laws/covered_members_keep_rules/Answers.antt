use Rattle.clr_needs.proofs.CoverLaws.{covered_holds}
use Rattle.clr_needs.proofs.laws.covered_members_keep_rules.Goals as goal

pub returns : goal.returns
returns c = record {
  by_position = λ s es apart covered holds. covered_holds s es (record { apart = apart; covered = covered }) holds;
  by_name = λ s es apart covered holds. covered_holds s es (record { apart = apart; covered = covered }) holds;
}
