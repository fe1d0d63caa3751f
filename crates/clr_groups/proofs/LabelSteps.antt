-- Labels that are put in place of others, and each member's own.
use Rattle.std.proofs.Common.{◌≡◌, ◌∙◌, ◌<◌, ◌≤◌, ◌+◌, ◌≢◌, ◌==◌, ℕ, Bool, true, false, cond, List, [], ◌∷◌, ◌++◌, inl, inr, get_or, length, refl, sym, ap}
use Rattle.std.proofs.Common.{arith, set}
use Rattle.std.proofs.lemmas.Bool.{cases_lt}
use Rattle.std.proofs.lemmas.Bool.Decides.{Decides-eqb}
use Rattle.std.proofs.lemmas.List.{get_or-set_other, get_or-set_same, get_or_append_left, length-append, length-set}
use Rattle.std.proofs.Math.Seq.{get_or-append_seam}
use Rattle.clr_groups.specs.Labels.{AreMoved, label, moved_label}

-- the labels before a position are replaced, one label by another
pub record AreMovedTo (from to k : ℕ) (old new : List ℕ) : Type 0 where
  pub long : length new ≡ length old
  pub done : (j : ℕ) → j < k → j < length old → label new j ≡ moved_label from to (label old j)
  pub rest : (j : ℕ) → k ≤ j → label new j ≡ label old j

-- each member's own ------------------------------------------------------------------------------

pub record AreOwn (k : ℕ) (labels : List ℕ) : Type 0 where
  pub long : length labels ≡ k
  pub own : (j : ℕ) → j < k → label labels j ≡ j
