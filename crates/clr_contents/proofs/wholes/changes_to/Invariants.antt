use Rattle.std.proofs.Common.{◌≡◌}
use Rattle.std.specs.Vec.Iter.{into_iter_items}
use Rattle.clr_rows.specs.Contents.{no_changes}
use Rattle.clr_deltas.specs.Deltas.{wholes}
use Rattle.clr_workspaces.specs.Workspaces.{workspace_at}
use Rattle.clr_contents.specs.SeenRows.{set_each}
use Rattle.clr_contents.proofs.wholes.changes_to.Given as goal

-- the changes that are left, set over those so far, are all
abbrev pub invariant-loop-cell : goal.invariant-loop-cell
invariant-loop-cell l = set_each (workspace_at (wholes l.live l.map) l.at).base l.set (into_iter_items l.cell-iterator)
    ≡ set_each (workspace_at (wholes l.live l.map) l.at).base no_changes l.fn.rows.items
