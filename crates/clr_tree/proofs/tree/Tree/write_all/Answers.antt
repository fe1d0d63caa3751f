use Rattle.std.proofs.Common.{ap, sym, subst, ◌∙◌}
use Rattle.clr_deltas.specs.Differences.{RowsByCell}
use Rattle.clr_operations.specs.Moves.{put_into}
use Rattle.clr_workspaces.specs.Operations.{after_write}
use Rattle.clr_workspaces.proofs.TreeLemmas.{sound_current}
use Rattle.clr_deltas.specs.Deltas.{wholes}
use Rattle.clr_workspaces.specs.Soundness.{IsSound}
use Rattle.clr_contents.proofs.ReadLemmas.{within_wholes}
use Rattle.clr_tree.proofs.ModelLemmas.{within_tree, became}
use Rattle.clr_deltas.proofs.Answered.{either}
use Rattle.clr_deltas.proofs.Answered.{on_ok, on_err}
use Rattle.clr_tree.proofs.tree.Tree.write_all.Goals as goal

pub write_rows-requires-clause-within : goal.write_rows-requires-clause-within
write_rows-requires-clause-within c = within_tree c.self.inside.live c.self.inside.map c.args.self.now c.args.at c.self.view_is c.requires

pub invariant_of-self : goal.invariant_of-self
invariant_of-self c =
    let live = c.self.inside.live in
    let ls = c.self.inside.map in
    let ws = wholes live ls in
    let at = c.args.at in
    let in_ls = within_tree c.self.inside.live c.self.inside.map c.args.self.now c.args.at c.self.view_is c.requires in
    let lt = within_wholes live ls at in_ls in
    let s = c.self.invariant.0 in (
      either c.write_rows.result _ _ _ (λ is. subst IsSound (sym (is ∙ ap (λ (rs : RowsByCell). put_into ws at rs) c.in_ok-rows.ensures))
          (sound_current ws at s lt _)) (λ is. subst IsSound (sym is) s) c.write_rows.ensures.ok c.write_rows.ensures.err,
      λ flag. c.write_rows.ensures.lean (c.self.invariant.1 flag),
    )

pub returns-clause-ok : goal.returns-clause-ok
returns-clause-ok c =
    let live = c.self.inside.live in
    let ls = c.self.inside.map in
    let ws = wholes live ls in
    let at = c.args.at in
    let in_ls = within_tree c.self.inside.live c.self.inside.map c.args.self.now c.args.at c.self.view_is c.requires in
    let lt = within_wholes live ls at in_ls in
    let s = c.self.invariant.0 in
    on_ok c.write_rows.result _ _ (λ is. became live c.write_rows.new.live ls c.write_rows.new.map c.args.self.now
    (λ ws. after_write ws c.args.at c.args.changed.now) c.self.view_is (is ∙ ap (λ (rs : RowsByCell). put_into ws at rs) c.in_ok-rows.ensures))
    c.write_rows.ensures.ok

pub returns-clause-err : goal.returns-clause-err
returns-clause-err c = on_err c.write_rows.result _ _ (λ is. became c.self.inside.live c.write_rows.new.live c.self.inside.map c.write_rows.new.map
    c.args.self.now (λ ws. ws) c.self.view_is is) c.write_rows.ensures.err
