use Rattle.std.proofs.Common.{◌≡◌, map, take}
use Rattle.clr_plan_features.specs.Turns.{names_before}
use Rattle.clr_plan_features.proofs.turns.names_before.Given as goal

-- the names of the precedences so far that name it as the later
abbrev pub invariant-loop-precedence : goal.invariant-loop-precedence
invariant-loop-precedence l = map (λ earlier. earlier.now) l.names.items ≡ names_before l.name (take l.precedence-index l.before)
