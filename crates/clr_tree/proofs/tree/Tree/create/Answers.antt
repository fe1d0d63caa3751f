use Rattle.std.proofs.Common.{◌≡◌, ◌<◌, None, length, sym, subst}
use Rattle.clr_tree.specs.Trees.{Tree}
use Rattle.clr_workspaces.specs.Workspaces.{find, depth_of}
use Rattle.clr_workspaces.specs.Operations.{after_create}
use Rattle.clr_workspaces.specs.declared.limits.TheConstants.{MOST_WORKSPACES, MOST_LEVELS}
use Rattle.clr_workspaces.proofs.TreeLemmas.{sound_created}
use Rattle.clr_deltas.specs.Deltas.{wholes}
use Rattle.clr_workspaces.specs.Soundness.{IsSound}
use Rattle.clr_contents.proofs.ReadLemmas.{within_wholes}
use Rattle.clr_tree.proofs.ModelLemmas.{within_tree, became}
use Rattle.clr_deltas.proofs.Answered.{either}
use Rattle.clr_deltas.proofs.Answered.{on_ok, on_err}
use Rattle.clr_tree.proofs.tree.Tree.create.Goals as goal

pub create-requires-clause-within : goal.create-requires-clause-within
create-requires-clause-within c = within_tree c.self.inside.live c.self.inside.map c.args.self.now c.args.parent c.self.view_is c.requires.within

pub create-requires-clause-absent : goal.create-requires-clause-absent
create-requires-clause-absent c = subst (λ (t : Tree). find t.list c.args.name.now ≡ None) (sym c.self.view_is) c.requires.absent

pub invariant_of-self : goal.invariant_of-self
invariant_of-self c =
    let live = c.self.inside.live in
    let ls = c.self.inside.map in
    let ws = wholes live ls in
    let at = c.args.parent in
    let in_ls = within_tree c.self.inside.live c.self.inside.map c.args.self.now c.args.parent c.self.view_is c.requires.within in
    let lt = within_wholes live ls at in_ls in
    let s = c.self.invariant.0 in
    let absent = subst (λ (t : Tree). find t.list c.args.name.now ≡ None) (sym c.self.view_is) c.requires.absent in
    let room = subst (λ (t : Tree). length t.list < MOST_WORKSPACES) (sym c.self.view_is) c.requires.room in
    let shallow = subst (λ (t : Tree). depth_of t.list at < MOST_LEVELS) (sym c.self.view_is) c.requires.shallow in (
      either c.create.result _ _ _ (λ is. subst IsSound (sym (is)) (sound_created ws c.args.name.now at s lt absent c.requires.good room shallow))
          (λ is. subst IsSound (sym is) s) c.create.ensures.ok c.create.ensures.err,
      λ flag. c.create.ensures.lean (c.self.invariant.1 flag),
    )

pub returns-clause-ok : goal.returns-clause-ok
returns-clause-ok c =
    let live = c.self.inside.live in
    let ls = c.self.inside.map in
    let ws = wholes live ls in
    let at = c.args.parent in
    let in_ls = within_tree c.self.inside.live c.self.inside.map c.args.self.now c.args.parent c.self.view_is c.requires.within in
    let lt = within_wholes live ls at in_ls in
    let s = c.self.invariant.0 in
    let absent = subst (λ (t : Tree). find t.list c.args.name.now ≡ None) (sym c.self.view_is) c.requires.absent in
    let room = subst (λ (t : Tree). length t.list < MOST_WORKSPACES) (sym c.self.view_is) c.requires.room in
    let shallow = subst (λ (t : Tree). depth_of t.list at < MOST_LEVELS) (sym c.self.view_is) c.requires.shallow in
    on_ok c.create.result _ _ (λ is. became live c.self.inside.live ls c.create.new.map c.args.self.now (λ ws. after_create ws c.args.name.now c.args.parent)
    c.self.view_is (is)) c.create.ensures.ok

pub returns-clause-err : goal.returns-clause-err
returns-clause-err c = on_err c.create.result _ _ (λ is. became c.self.inside.live c.self.inside.live c.self.inside.map c.create.new.map c.args.self.now
    (λ ws. ws) c.self.view_is is) c.create.ensures.err
