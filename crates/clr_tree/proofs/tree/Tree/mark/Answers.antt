use Rattle.std.proofs.Common.{◌≡◌, ◌<◌, None, sym, subst}
use Rattle.clr_tree.specs.Trees.{Tree}
use Rattle.clr_workspaces.specs.Workspaces.{workspace_at}
use Rattle.clr_workspaces.specs.Marks.{find_mark, saved_count}
use Rattle.clr_workspaces.specs.Operations.{after_mark}
use Rattle.clr_workspaces.specs.declared.limits.TheConstants.{MOST_SAVEPOINTS}
use Rattle.clr_workspaces.proofs.NameLemmas.{good_more, absent_name, count_names}
use Rattle.clr_workspaces.proofs.TreeLemmas.{sound_saved}
use Rattle.clr_deltas.specs.Deltas.{wholes}
use Rattle.clr_workspaces.specs.Soundness.{IsSound}
use Rattle.clr_contents.proofs.ReadLemmas.{within_wholes}
use Rattle.clr_tree.proofs.ModelLemmas.{within_tree, became}
use Rattle.clr_deltas.proofs.Answered.{either}
use Rattle.clr_deltas.proofs.Answered.{on_ok, on_err}
use Rattle.clr_tree.proofs.tree.Tree.mark.Goals as goal

pub mark-requires-clause-within : goal.mark-requires-clause-within
mark-requires-clause-within c = within_tree c.self.inside.live c.self.inside.map c.args.self.now c.args.at c.self.view_is c.requires.within

pub invariant_of-self : goal.invariant_of-self
invariant_of-self c =
    let live = c.self.inside.live in
    let ls = c.self.inside.map in
    let ws = wholes live ls in
    let at = c.args.at in
    let in_ls = within_tree c.self.inside.live c.self.inside.map c.args.self.now c.args.at c.self.view_is c.requires.within in
    let lt = within_wholes live ls at in_ls in
    let s = c.self.invariant.0 in
    let absent = subst (λ (t : Tree). find_mark (workspace_at t.list at).marks c.args.name.now ≡ None) (sym c.self.view_is) c.requires.absent in
    let room = subst (λ n. n < MOST_SAVEPOINTS) (sym (count_names (workspace_at ws at).marks))
    (subst (λ (t : Tree). saved_count (workspace_at t.list at).marks < MOST_SAVEPOINTS) (sym c.self.view_is) c.requires.room) in (
      either c.mark.result _ _ _ (λ is. subst IsSound (sym (is)) (sound_saved ws at s lt c.requires.child c.args.name.now
          (good_more (workspace_at ws at).marks c.args.name.now (s.saved at lt) c.requires.good (absent_name (workspace_at ws at).marks c.args.name.now absent)
          room (workspace_at ws at).current))) (λ is. subst IsSound (sym is) s) c.mark.ensures.ok c.mark.ensures.err,
      λ flag. c.mark.ensures.lean (c.self.invariant.1 flag),
    )

pub returns-clause-ok : goal.returns-clause-ok
returns-clause-ok c =
    let live = c.self.inside.live in
    let ls = c.self.inside.map in
    let ws = wholes live ls in
    let at = c.args.at in
    let in_ls = within_tree c.self.inside.live c.self.inside.map c.args.self.now c.args.at c.self.view_is c.requires.within in
    let lt = within_wholes live ls at in_ls in
    let s = c.self.invariant.0 in
    let absent = subst (λ (t : Tree). find_mark (workspace_at t.list at).marks c.args.name.now ≡ None) (sym c.self.view_is) c.requires.absent in
    let room = subst (λ n. n < MOST_SAVEPOINTS) (sym (count_names (workspace_at ws at).marks))
    (subst (λ (t : Tree). saved_count (workspace_at t.list at).marks < MOST_SAVEPOINTS) (sym c.self.view_is) c.requires.room) in
    on_ok c.mark.result _ _ (λ is. became live c.self.inside.live ls c.mark.new.map c.args.self.now (λ ws. after_mark ws c.args.at c.args.name.now)
    c.self.view_is (is)) c.mark.ensures.ok

pub returns-clause-err : goal.returns-clause-err
returns-clause-err c = on_err c.mark.result _ _ (λ is. became c.self.inside.live c.self.inside.live c.self.inside.map c.mark.new.map c.args.self.now (λ ws. ws)
    c.self.view_is is) c.mark.ensures.err
