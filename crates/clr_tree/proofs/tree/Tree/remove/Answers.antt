use Rattle.std.proofs.Common.{◌≡◌, ap, sym, subst}
use Rattle.clr_tree.specs.Trees.{Tree}
use Rattle.clr_workspaces.specs.Workspaces.{workspace_at, children_of}
use Rattle.clr_workspaces.specs.Operations.{after_remove, after_remove_under, at_position}
use Rattle.clr_operations.proofs.LeafLemmas.{no_child_whole}
use Rattle.clr_workspaces.proofs.TreeLemmas.{sound_removed}
use Rattle.clr_deltas.specs.Deltas.{wholes}
use Rattle.clr_workspaces.specs.Soundness.{IsSound}
use Rattle.clr_contents.proofs.ReadLemmas.{within_wholes}
use Rattle.clr_tree.proofs.ModelLemmas.{within_tree, became}
use Rattle.clr_tree.proofs.tree.Tree.remove.Goals as goal

pub remove-requires-clause-within : goal.remove-requires-clause-within
remove-requires-clause-within c = within_tree c.self.inside.live c.self.inside.map c.args.self.now c.args.at c.self.view_is c.requires.within

pub remove-requires-clause-leaf : goal.remove-requires-clause-leaf
remove-requires-clause-leaf c = subst (λ (t : Tree). children_of t.list (workspace_at t.list c.args.at).name ≡ 0) (sym c.self.view_is) c.requires.leaf

pub invariant_of-self : goal.invariant_of-self
invariant_of-self c =
    let live = c.self.inside.live in
    let ls = c.self.inside.map in
    let ws = wholes live ls in
    let at = c.args.at in
    let in_ls = within_tree c.self.inside.live c.self.inside.map c.args.self.now c.args.at c.self.view_is c.requires.within in
    let lt = within_wholes live ls at in_ls in
    let s = c.self.invariant.0 in
    let q = s.rooted.under at c.requires.child lt in
    let leaf = subst (λ (t : Tree). children_of t.list (workspace_at t.list at).name ≡ 0) (sym c.self.view_is) c.requires.leaf in (
      subst IsSound (sym (c.remove.ensures.removed)) (subst IsSound (ap (λ o. at_position ws o (after_remove_under ws at)) (sym q.1))
          (sound_removed ws at q.0 s c.requires.child lt (no_child_whole live ls at leaf) q.1 q.2)),
      λ flag. c.remove.ensures.lean (c.self.invariant.1 flag),
    )

pub returns : goal.returns
returns c =
    let live = c.self.inside.live in
    let ls = c.self.inside.map in
    let ws = wholes live ls in
    let at = c.args.at in
    let in_ls = within_tree c.self.inside.live c.self.inside.map c.args.self.now c.args.at c.self.view_is c.requires.within in
    let lt = within_wholes live ls at in_ls in
    let s = c.self.invariant.0 in
    let q = s.rooted.under at c.requires.child lt in
    let leaf = subst (λ (t : Tree). children_of t.list (workspace_at t.list at).name ≡ 0) (sym c.self.view_is) c.requires.leaf in
    became live c.self.inside.live ls c.remove.new.map c.args.self.now (λ ws. after_remove ws c.args.at) c.self.view_is (c.remove.ensures.removed)
