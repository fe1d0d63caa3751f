use Rattle.std.proofs.Common.{map, take}
use Rattle.clr_check.proofs.TurnLemmas.{IsTurnBy}
use Rattle.clr_check.proofs.turns.is_turn_of.Given as goal

-- by the precedences so far it is the member's turn
abbrev pub invariant-loop-precedence : goal.invariant-loop-precedence
invariant-loop-precedence l = IsTurnBy l.certificate (map (λ other. other.now) l.merged) l.name (take l.precedence-index l.precedence-items)
