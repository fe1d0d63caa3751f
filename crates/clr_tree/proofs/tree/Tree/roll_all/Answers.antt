use Rattle.std.proofs.Common.{◌≡◌, sym, subst}
use Rattle.clr_tree.specs.Trees.{Tree}
use Rattle.clr_workspaces.specs.Workspaces.{workspace_at, children_of}
use Rattle.clr_workspaces.specs.Operations.{after_roll_all}
use Rattle.clr_workspaces.proofs.TreeLemmas.{sound_unsaved}
use Rattle.clr_deltas.specs.Deltas.{wholes}
use Rattle.clr_workspaces.specs.Soundness.{IsSound}
use Rattle.clr_contents.proofs.ReadLemmas.{within_wholes}
use Rattle.clr_tree.proofs.ModelLemmas.{within_tree, became}
use Rattle.clr_tree.proofs.tree.Tree.roll_all.Goals as goal

pub roll_all-requires-clause-within : goal.roll_all-requires-clause-within
roll_all-requires-clause-within c = within_tree c.self.inside.live c.self.inside.map c.args.self.now c.args.at c.self.view_is c.requires.within

pub roll_all-requires-clause-leaf : goal.roll_all-requires-clause-leaf
roll_all-requires-clause-leaf c = subst (λ (t : Tree). children_of t.list (workspace_at t.list c.args.at).name ≡ 0) (sym c.self.view_is) c.requires.leaf

pub invariant_of-self : goal.invariant_of-self
invariant_of-self c =
    let live = c.self.inside.live in
    let ls = c.self.inside.map in
    let ws = wholes live ls in
    let at = c.args.at in
    let in_ls = within_tree c.self.inside.live c.self.inside.map c.args.self.now c.args.at c.self.view_is c.requires.within in
    let lt = within_wholes live ls at in_ls in
    let s = c.self.invariant.0 in (
      subst IsSound (sym (c.roll_all.ensures.rolled)) (sound_unsaved ws at s lt c.requires.child (workspace_at ws at).base (workspace_at ws at).base),
      λ flag. c.roll_all.ensures.lean (c.self.invariant.1 flag),
    )

pub returns : goal.returns
returns c =
    let live = c.self.inside.live in
    let ls = c.self.inside.map in
    let ws = wholes live ls in
    let at = c.args.at in
    let in_ls = within_tree c.self.inside.live c.self.inside.map c.args.self.now c.args.at c.self.view_is c.requires.within in
    let lt = within_wholes live ls at in_ls in
    let s = c.self.invariant.0 in
    became live c.self.inside.live ls c.roll_all.new.map c.args.self.now (λ ws. after_roll_all ws c.args.at) c.self.view_is (c.roll_all.ensures.rolled)
