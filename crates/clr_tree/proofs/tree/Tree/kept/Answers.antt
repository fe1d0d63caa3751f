use Rattle.std.proofs.Common.{ap, sym, ◌∙◌, arith}
use Rattle.clr_workspaces.specs.Workspaces.{workspace_at}
use Rattle.clr_tree.specs.Trees.{Tree}
use Rattle.clr_tree.proofs.ModelLemmas.{within_tree}
use Rattle.clr_contents.proofs.ReadLemmas.{kept-wholes}
use Rattle.clr_tree.proofs.tree.Tree.kept.Goals as goal

pub is_kept-requires : goal.is_kept-requires
is_kept-requires c = within_tree c.self.inside.live c.self.inside.map c.args.self.now c.args.at c.self.view_is c.requires

pub returns-else-at-eq0 : goal.returns-else-at-eq0
returns-else-at-eq0 c =
    c.is_kept.ensures ∙ sym (kept-wholes c.self.inside.live c.self.inside.map c.args.at (omega arith)
    (within_tree c.self.inside.live c.self.inside.map c.args.self.now c.args.at c.self.view_is c.requires))
    ∙ ap (λ (t : Tree). (workspace_at t.list c.args.at).kept) c.self.view_is
