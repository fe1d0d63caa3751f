use Rattle.clr_merge_sets.proofs.MergeSetLemmas.{IsLater}
use Rattle.clr_merge_sets.proofs.merge_sets.first_in_conflict.Given as goal

-- none of the members so far is in conflict
abbrev pub invariant-loop-member : goal.invariant-loop-member
invariant-loop-member g l = IsLater l.office (g.N.NameList.names l.members) l.member
