use Rattle.std.proofs.Common.{◌≡◌, ℕ, ◌<◌, false}
use Rattle.clr_clearance.specs.Verdicts.{is_repeated}
use Rattle.clr_merge_sets.proofs.RepeatLemmas.{HasNames}
use Rattle.clr_merge_sets.proofs.repeats.first_repeated.Given as goal

-- the set has the names so far, none of which stands earlier
abbrev pub invariant-loop-position : goal.invariant-loop-position
invariant-loop-position g l = record {
  held : HasNames (g.N.NameList.names l.names) l.position l.earlier;
  different : (k : ℕ) → k < l.position → is_repeated (g.N.NameList.names l.names) k ≡ false;
}
