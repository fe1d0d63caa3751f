use Rattle.std.proofs.Common.{◌≡◌, subst}
use Rattle.std.specs.Prelude.{IfOk}
use Rattle.clr_workspaces.specs.Workspaces.{Workspace}
use Rattle.clr_workspace_parts.specs.Parts.{workspace_of}
use Rattle.clr_tree.proofs.LiveLemmas.{first_is}
use Rattle.clr_tree.proofs.ModelLemmas.{within_tree}
use Rattle.clr_tree.proofs.tree.Tree.part.Goals as goal

pub part_at-requires-clause-within : goal.part_at-requires-clause-within
part_at-requires-clause-within c = within_tree c.self.inside.live c.self.inside.map c.args.self.now c.args.at c.self.view_is c.requires.within

pub returns-then-at-eq0 : goal.returns-then-at-eq0
returns-then-at-eq0 c =
    subst (λ (w : Workspace). IfOk c.live_part.result (λ part. workspace_of part ≡ w))
    (first_is c.self.inside.live c.self.inside.map c.args.self.now c.args.at c.self.view_is c.self.invariant.0 c.if-at-eq0.true) c.live_part.ensures
