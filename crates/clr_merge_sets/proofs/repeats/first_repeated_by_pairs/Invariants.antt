use Rattle.std.proofs.Common.{◌≡◌, ℕ, ◌<◌, false}
use Rattle.clr_clearance.specs.Verdicts.{is_repeated}
use Rattle.clr_merge_sets.proofs.repeats.first_repeated_by_pairs.Given as goal

-- no name so far stands earlier
abbrev pub invariant-loop-position : goal.invariant-loop-position
invariant-loop-position g l = (k : ℕ) → k < l.position → is_repeated (g.N.NameList.names l.names) k ≡ false
