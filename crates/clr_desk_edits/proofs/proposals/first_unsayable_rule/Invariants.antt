use Rattle.std.proofs.Common.{◌≡◌, drop}
use Rattle.clr_desk_edits.specs.Proposals.{first_unsayable_rule}
use Rattle.clr_desk_edits.proofs.proposals.first_unsayable_rule.Given as goal

-- no rule so far has such a literal
abbrev pub invariant-loop-number : goal.invariant-loop-number
invariant-loop-number l = first_unsayable_rule l.number (drop l.number l.rules) ≡ first_unsayable_rule 0 l.rules
