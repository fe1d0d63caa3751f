use Rattle.std.proofs.Common.{◌≡◌, ◌<◌, ℕ, length}
use Rattle.clr_deltas.specs.Deltas.{delta_at, wholes}
use Rattle.clr_contents.specs.Lean.{IsLeanOver}
use Rattle.clr_contents.proofs.sweeps.sweep.Given as goal

-- no content has changed, and those so far have only what they need
abbrev pub invariant-loop-at : goal.invariant-loop-at
invariant-loop-at l = record {
  seen : wholes l.live l.map ≡ wholes l.live l.fn.map;
  long : length l.map ≡ length l.fn.map;
  lean : (j : ℕ) → 0 < j → j < l.at → IsLeanOver (wholes l.live l.fn.map) j (delta_at l.map j);
}
