use Rattle.std.proofs.Common.{◌≡◌, true, false, sym, subst}
use Rattle.clr_tree.specs.Trees.{Tree}
use Rattle.clr_workspaces.specs.Workspaces.{workspace_at}
use Rattle.clr_workspaces.specs.Marks.{is_saved, is_held, mark_at}
use Rattle.clr_workspaces.specs.Operations.{after_roll_to}
use Rattle.clr_workspaces.proofs.TreeLemmas.{sound_rolled_to}
use Rattle.clr_deltas.specs.Deltas.{wholes}
use Rattle.clr_workspaces.specs.Soundness.{IsSound}
use Rattle.clr_contents.proofs.ReadLemmas.{within_wholes}
use Rattle.clr_tree.proofs.ModelLemmas.{within_tree, became}
use Rattle.clr_deltas.proofs.Answered.{either}
use Rattle.clr_deltas.proofs.Answered.{on_ok, on_err}
use Rattle.clr_tree.proofs.tree.Tree.roll_to.Goals as goal

pub roll_to-requires-clause-within : goal.roll_to-requires-clause-within
roll_to-requires-clause-within c = within_tree c.self.inside.live c.self.inside.map c.args.self.now c.args.at c.self.view_is c.requires.within

pub roll_to-requires-clause-saved : goal.roll_to-requires-clause-saved
roll_to-requires-clause-saved c = subst (λ (t : Tree). is_saved (mark_at (workspace_at t.list c.args.at).marks c.args.mark)
    ≡ true) (sym c.self.view_is) c.requires.saved

pub roll_to-requires-clause-free : goal.roll_to-requires-clause-free
roll_to-requires-clause-free c = subst (λ (t : Tree). is_held (workspace_at t.list c.args.at).marks c.args.mark ≡ false) (sym c.self.view_is) c.requires.free

pub invariant_of-self : goal.invariant_of-self
invariant_of-self c =
    let live = c.self.inside.live in
    let ls = c.self.inside.map in
    let ws = wholes live ls in
    let at = c.args.at in
    let in_ls = within_tree c.self.inside.live c.self.inside.map c.args.self.now c.args.at c.self.view_is c.requires.within in
    let lt = within_wholes live ls at in_ls in
    let s = c.self.invariant.0 in (
      either c.roll_to.result _ _ _ (λ is. subst IsSound (sym (is)) (sound_rolled_to ws at s lt c.requires.child c.args.mark)) (λ is. subst IsSound (sym is) s)
          c.roll_to.ensures.ok c.roll_to.ensures.err,
      λ flag. c.roll_to.ensures.lean (c.self.invariant.1 flag),
    )

pub returns-clause-ok : goal.returns-clause-ok
returns-clause-ok c =
    let live = c.self.inside.live in
    let ls = c.self.inside.map in
    let ws = wholes live ls in
    let at = c.args.at in
    let in_ls = within_tree c.self.inside.live c.self.inside.map c.args.self.now c.args.at c.self.view_is c.requires.within in
    let lt = within_wholes live ls at in_ls in
    let s = c.self.invariant.0 in
    on_ok c.roll_to.result _ _ (λ is. became live c.self.inside.live ls c.roll_to.new.map c.args.self.now (λ ws. after_roll_to ws c.args.at c.args.mark)
    c.self.view_is (is)) c.roll_to.ensures.ok

pub returns-clause-err : goal.returns-clause-err
returns-clause-err c = on_err c.roll_to.result _ _ (λ is. became c.self.inside.live c.self.inside.live c.self.inside.map c.roll_to.new.map c.args.self.now
    (λ ws. ws) c.self.view_is is) c.roll_to.ensures.err
