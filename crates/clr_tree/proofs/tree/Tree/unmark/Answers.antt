use Rattle.std.proofs.Common.{◌≡◌, ◌<◌, true, ap, sym, subst, ◌∙◌}
use Rattle.clr_deltas.specs.Deltas.{wholes}
use Rattle.clr_workspaces.specs.Marks.{is_saved, mark_at}
use Rattle.clr_workspaces.specs.Workspaces.{workspace_at}
use Rattle.clr_workspaces.specs.Operations.{after_unmark}
use Rattle.clr_workspaces.specs.Soundness.{IsSound}
use Rattle.clr_tree.specs.Trees.{Tree}
use Rattle.clr_contents.proofs.ReadLemmas.{within_wholes}
use Rattle.clr_tree.proofs.ModelLemmas.{within_tree, became}
use Rattle.clr_contents.proofs.MarkLemmas.{length-marks, saved_within}
use Rattle.clr_operations.proofs.OperationLemmas.{mark_removed}
use Rattle.clr_workspaces.proofs.TreeLemmas.{sound_unmarked}
use Rattle.clr_contents.specs.Lean.{IsLean}
use Rattle.clr_operations.proofs.LeanLemmas.{lean_unmarked}
use Rattle.clr_tree.proofs.tree.Tree.unmark.Goals as goal

pub drop_mark-requires-clause-there : goal.drop_mark-requires-clause-there
drop_mark-requires-clause-there c = within_tree c.self.inside.live c.self.inside.map c.args.self.now c.args.at c.self.view_is c.requires.within

pub drop_mark-requires-clause-marked : goal.drop_mark-requires-clause-marked
drop_mark-requires-clause-marked c =
    let live = c.self.inside.live in
    let ls = c.self.inside.map in
    let lt = within_tree c.self.inside.live c.self.inside.map c.args.self.now c.args.at c.self.view_is c.requires.within in
    let saved = subst (λ (t : Tree). is_saved (mark_at (workspace_at t.list c.args.at).marks c.args.mark) ≡ true) (sym c.self.view_is) c.requires.saved in
    subst (λ n. c.args.mark < n) (length-marks live ls c.args.at c.requires.child lt) (saved_within (workspace_at (wholes live ls) c.args.at).marks c.args.mark
    saved)

pub invariant_of-self : goal.invariant_of-self
invariant_of-self c =
    let live = c.self.inside.live in
    let ls = c.self.inside.map in
    let lt = within_tree c.self.inside.live c.self.inside.map c.args.self.now c.args.at c.self.view_is c.requires.within in
    let saved = subst (λ (t : Tree). is_saved (mark_at (workspace_at t.list c.args.at).marks c.args.mark) ≡ true) (sym c.self.view_is) c.requires.saved in (
      subst IsSound (sym (ap (wholes live) c.drop_mark.ensures ∙ mark_removed live ls c.args.at c.self.invariant.0.rooted c.requires.child lt c.args.mark))
          (sound_unmarked (wholes live ls) c.args.at c.self.invariant.0 (within_wholes live ls c.args.at lt) c.requires.child c.args.mark saved),
      λ flag. subst (IsLean live) (sym c.drop_mark.ensures) (lean_unmarked live ls c.args.at c.self.invariant.0.rooted c.requires.child lt c.args.mark
          (c.self.invariant.1 flag)),
    )

pub returns : goal.returns
returns c =
    let live = c.self.inside.live in
    let ls = c.self.inside.map in
    let lt = within_tree c.self.inside.live c.self.inside.map c.args.self.now c.args.at c.self.view_is c.requires.within in
    became live live ls c.drop_mark.new.self c.args.self.now (λ ws. after_unmark ws c.args.at c.args.mark) c.self.view_is (ap (wholes live) c.drop_mark.ensures
    ∙ mark_removed live ls c.args.at c.self.invariant.0.rooted c.requires.child lt c.args.mark)
