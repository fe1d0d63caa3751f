use Rattle.std.proofs.Common.{false, ap, sym, subst, ◌∙◌}
use Rattle.clr_deltas.specs.Deltas.{wholes}
use Rattle.clr_workspaces.specs.Operations.{set_kept}
use Rattle.clr_workspaces.specs.Soundness.{IsSound}
use Rattle.clr_contents.proofs.ReadLemmas.{within_wholes}
use Rattle.clr_tree.proofs.ModelLemmas.{within_tree, became}
use Rattle.clr_operations.proofs.OperationLemmas.{kept_set}
use Rattle.clr_workspaces.proofs.TreeLemmas.{sound_kept}
use Rattle.clr_contents.specs.Lean.{IsLean}
use Rattle.clr_operations.proofs.LeanLemmas.{lean_flag}
use Rattle.clr_tree.proofs.tree.Tree.release.Goals as goal

pub set_kept-requires : goal.set_kept-requires
set_kept-requires c = within_tree c.self.inside.live c.self.inside.map c.args.self.now c.args.at c.self.view_is c.requires.within

pub invariant_of-self : goal.invariant_of-self
invariant_of-self c =
    let live = c.self.inside.live in
    let ls = c.self.inside.map in
    let lt = within_tree c.self.inside.live c.self.inside.map c.args.self.now c.args.at c.self.view_is c.requires.within in (
      subst IsSound (sym (ap (wholes live) c.set_kept.ensures ∙ kept_set live ls c.args.at c.self.invariant.0.rooted c.requires.child lt false))
          (sound_kept (wholes live ls) c.args.at c.self.invariant.0 (within_wholes live ls c.args.at lt) c.requires.child false),
      λ flag. subst (IsLean live) (sym c.set_kept.ensures) (lean_flag live ls c.args.at c.self.invariant.0.rooted c.requires.child lt false
          (c.self.invariant.1 flag)),
    )

pub returns : goal.returns
returns c =
    let live = c.self.inside.live in
    let ls = c.self.inside.map in
    let lt = within_tree c.self.inside.live c.self.inside.map c.args.self.now c.args.at c.self.view_is c.requires.within in
    became live live ls c.set_kept.new.self c.args.self.now (λ ws. set_kept ws c.args.at false) c.self.view_is (ap (wholes live) c.set_kept.ensures
    ∙ kept_set live ls c.args.at c.self.invariant.0.rooted c.requires.child lt false)
