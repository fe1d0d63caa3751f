use Rattle.std.proofs.Common.{ap, sym, ◌∙◌}
use Rattle.clr_workspaces.specs.Workspaces.{workspace_at}
use Rattle.clr_deltas.proofs.Meaning.{live-wholes}
use Rattle.clr_tree.specs.Trees.{Tree}
use Rattle.clr_contents.proofs.ReadLemmas.{within_deltas}
use Rattle.clr_tree.proofs.tree.Tree.live.Goals as goal

pub returns : goal.returns
returns c =
    let live = c.self.inside.live in
    let ls = c.self.inside.map in
    sym (live-wholes live ls (within_deltas live ls 0 c.self.invariant.0.rooted.filled)) ∙ ap (λ (t : Tree). (workspace_at t.list 0).current) c.self.view_is
