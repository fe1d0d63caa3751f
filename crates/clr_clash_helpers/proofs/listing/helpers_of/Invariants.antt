use Rattle.clr_needs.proofs.ListedNumbers.{AreListedTo}
use Rattle.clr_merge_sets.specs.MemberChanges.{set_of}
use Rattle.clr_clash_helpers.specs.Helpers.{IsHelperAt}
use Rattle.clr_clash_helpers.proofs.listing.helpers_of.Given as goal

-- the helpers among the members so far
abbrev pub invariant-loop-at : goal.invariant-loop-at
invariant-loop-at l = AreListedTo (IsHelperAt l.office (set_of l.members) l.others l.need) l.at l.list.items
