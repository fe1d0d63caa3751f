use Rattle.clr_needs.specs.Members.{NoneChanges}
use Rattle.clr_member_changes.proofs.member_changes.changer_among.Given as goal

-- none of the change sets so far changes the cell
abbrev pub invariant-loop-member : goal.invariant-loop-member
invariant-loop-member l = NoneChanges l.sets l.cell 0 l.member
