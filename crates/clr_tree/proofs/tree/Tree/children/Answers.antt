use Rattle.std.proofs.Common.{ap, sym, ◌∙◌}
use Rattle.clr_deltas.specs.Deltas.{wholes}
use Rattle.clr_workspaces.specs.Workspaces.{workspace_at, children_of}
use Rattle.clr_deltas.proofs.Meaning.{name-wholes}
use Rattle.clr_tree.specs.Trees.{Tree}
use Rattle.clr_operations.proofs.LeafLemmas.{children-wholes}
use Rattle.clr_tree.proofs.ModelLemmas.{within_tree}
use Rattle.clr_tree.proofs.tree.Tree.children.Goals as goal

pub name_at-requires : goal.name_at-requires
name_at-requires c = within_tree c.self.inside.live c.self.inside.map c.args.self.now c.args.at c.self.view_is c.requires

pub returns : goal.returns
returns c =
    c.children.ensures ∙ children-wholes c.self.inside.live c.self.inside.map c.name_at.result.now
    ∙ ap (children_of (wholes c.self.inside.live c.self.inside.map)) (c.name_at.ensures ∙ sym (name-wholes c.self.inside.live c.self.inside.map c.args.at))
    ∙ ap (λ (t : Tree). children_of t.list (workspace_at t.list c.args.at).name) c.self.view_is
