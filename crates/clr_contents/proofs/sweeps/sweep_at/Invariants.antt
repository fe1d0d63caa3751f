use Rattle.std.proofs.Common.{◌≡◌, ◌<◌, ◌≤◌, ℕ, length}
use Rattle.clr_deltas.specs.Deltas.{delta_at, wholes}
use Rattle.clr_contents.specs.Lean.{IsLeanBeside, IsLeanOver}
use Rattle.clr_contents.proofs.sweeps.sweep_at.Given as goal

-- no content has changed, those so far have no neutral difference if they had none but near, and later ones are as they were
abbrev pub invariant-loop-one : goal.invariant-loop-one
invariant-loop-one l = record {
  seen : wholes l.live l.map ≡ wholes l.live l.fn.map;
  long : length l.map ≡ length l.fn.map;
  lean : (j : ℕ) → 0 < j → j < l.one → IsLeanBeside (wholes l.live l.fn.map) l.at l.cells j (delta_at l.fn.map j)
      → IsLeanOver (wholes l.live l.fn.map) j (delta_at l.map j);
  later : (j : ℕ) → l.one ≤ j → delta_at l.map j ≡ delta_at l.fn.map j;
}
