use Rattle.clr_listed_covers.specs.Late.{AreHelpedInList}
use Rattle.clr_listed_covers.proofs.late.first_late.Given as goal

-- each need so far is helped in time
abbrev pub invariant-loop-at : goal.invariant-loop-at
invariant-loop-at l = AreHelpedInList l.needs l.at
