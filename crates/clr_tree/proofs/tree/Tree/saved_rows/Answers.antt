use Rattle.std.proofs.Common.{◌≡◌, true, sym, subst}
use Rattle.clr_tree.specs.Trees.{Tree}
use Rattle.clr_workspaces.specs.Workspaces.{workspace_at}
use Rattle.clr_workspaces.specs.Marks.{is_saved, mark_at}
use Rattle.clr_tree.proofs.LiveLemmas.{saved_below}
use Rattle.clr_tree.proofs.ModelLemmas.{within_tree}
use Rattle.clr_tree.proofs.tree.Tree.saved_rows.Goals as goal

pub saved_rows-requires-clause-child : goal.saved_rows-requires-clause-child
saved_rows-requires-clause-child c =
    saved_below c.self.inside.live c.self.inside.map c.args.self.now c.args.at c.self.view_is c.self.invariant.0 c.args.mark c.requires.saved

pub saved_rows-requires-clause-within : goal.saved_rows-requires-clause-within
saved_rows-requires-clause-within c = within_tree c.self.inside.live c.self.inside.map c.args.self.now c.args.at c.self.view_is c.requires.within

pub saved_rows-requires-clause-saved : goal.saved_rows-requires-clause-saved
saved_rows-requires-clause-saved c = subst (λ (t : Tree). is_saved (mark_at (workspace_at t.list c.args.at).marks c.args.mark)
    ≡ true) (sym c.self.view_is) c.requires.saved
