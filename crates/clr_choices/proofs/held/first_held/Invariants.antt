use Rattle.std.proofs.Common.{map}
use Rattle.clr_clashes.specs.ListedClashes.{listed_clash_of}
use Rattle.clr_choices.proofs.Holding.{NoneHeld}
use Rattle.clr_choices.proofs.held.first_held.Given as goal

-- none so far is held
abbrev pub invariant-loop-clash : goal.invariant-loop-clash
invariant-loop-clash l = NoneHeld (map listed_clash_of l.broken) l.positions l.clash-index
