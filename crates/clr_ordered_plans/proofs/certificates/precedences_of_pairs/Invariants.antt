use Rattle.std.proofs.Common.{◌≡◌, map, take}
use Rattle.clr_ordered_plans.specs.Listed.{precedence_of}
use Rattle.clr_ordered_plans.proofs.certificates.precedences_of_pairs.Given as goal

-- the precedences so far
abbrev pub invariant-loop-pair : goal.invariant-loop-pair
invariant-loop-pair l = l.list.items ≡ map (precedence_of (map (λ name. name.now) l.members)) (take l.pair-index l.pairs)
