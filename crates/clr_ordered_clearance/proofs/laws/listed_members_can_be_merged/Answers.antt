use Rattle.clr_ordered_clearance.proofs.ListedLemmas.{listed_merges, unrefused}
use Rattle.clr_ordered_clearance.proofs.laws.listed_members_can_be_merged.Goals as goal

pub returns : goal.returns
returns c = record { listed = listed_merges; unrefused = unrefused }
