use Rattle.clr_needs.proofs.CoverLaws.{covered_breaks_no_more}
use Rattle.clr_needs.proofs.laws.covered_members_break_no_more.Goals as goal

pub returns : goal.returns
returns c = record {
  by_position = λ s es apart covered. covered_breaks_no_more s es (record { apart = apart; covered = covered });
  by_name = λ s es apart covered. covered_breaks_no_more s es (record { apart = apart; covered = covered });
}
