use Rattle.std.proofs.Common.{◌≡◌, ℕ, take}
use Rattle.std.specs.List.{list_any}
use Rattle.clr_merge_sets.specs.Certificates.{pairs_in}
use Rattle.clr_merge_sets.specs.PositionPairs.{pairs_say}
use Rattle.clr_merge_sets.proofs.PrecedenceLemmas.{says}
use Rattle.clr_merge_sets.proofs.precedence_pairs.position_pairs.Given as goal

-- the pairs so far say what the precedences so far say
abbrev pub invariant-loop-precedence : goal.invariant-loop-precedence
invariant-loop-precedence l = (j k : ℕ)
    → pairs_say l.pairs.items j k ≡ list_any (says l.certificate.members j k) (pairs_in (take l.precedence-index l.precedence-items))
