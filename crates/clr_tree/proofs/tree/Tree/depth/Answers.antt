use Rattle.std.proofs.Common.{ap, ◌∙◌}
use Rattle.clr_workspaces.specs.Workspaces.{depth_of}
use Rattle.clr_tree.specs.Trees.{Tree}
use Rattle.clr_tree.proofs.ModelLemmas.{within_tree}
use Rattle.clr_tree.proofs.tree.Tree.depth.Goals as goal

pub depth_at-requires-clause-within : goal.depth_at-requires-clause-within
depth_at-requires-clause-within c = within_tree c.self.inside.live c.self.inside.map c.args.self.now c.args.at c.self.view_is c.requires

pub returns : goal.returns
returns c = c.depth_at.ensures ∙ ap (λ (t : Tree). depth_of t.list c.args.at) c.self.view_is
