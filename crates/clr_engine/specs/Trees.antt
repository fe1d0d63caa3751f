-- A tree as offices have it.
use Rattle.std.specs.Prelude.{◌≡◌, ◌<◌, ℕ, length}
use Rattle.clr_tree.specs.Trees.{Tree, needed, needed_delta, stored_count_at}
use Rattle.clr_deltas.specs.Deltas.{delta_at}

-- what is stored of each workspace is just what it differs in, so there are as many differences as it needs
pub record IsSwept (t : Tree) : Type 0 where
  pub deltas : (at : ℕ) → 0 < at → at < length t.list → delta_at t.deltas at ≡ needed_delta t.list at
  pub counts : (at : ℕ) → 0 < at → at < length t.list → stored_count_at t.stored at ≡ needed t.list at
