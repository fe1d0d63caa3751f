use Rattle.clr_apart_members.proofs.OtherLaws.{others}
use Rattle.clr_apart_members.proofs.laws.others_found_by_no_test_are_independent.Goals as goal

pub returns : goal.returns
returns k = others k.members_beside_a_cut_are_independent.ensures k.rows_in_reach_are_found.ensures.groups
