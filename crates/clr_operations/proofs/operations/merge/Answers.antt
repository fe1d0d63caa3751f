use Rattle.std.proofs.Common.{◌∙◌, ◌<◌, ap, sym, subst, refl, arith, List, length}
use Rattle.clr_rows.specs.declared.cells.CellId.{CellId}
use Rattle.clr_rows.specs.Contents.{Changes, rows_after}
use Rattle.clr_deltas.specs.Differences.{RowsByCell, cells_in}
use Rattle.clr_deltas.specs.Deltas.{wholes}
use Rattle.clr_workspaces.specs.Workspaces.{workspace_at}
use Rattle.clr_deltas.proofs.Answered.{on_ok, on_err}
use Rattle.clr_workspaces.specs.Roots.{IsRooted}
use Rattle.clr_contents.specs.Lean.{IsLeanBut, StayOwnButNear}
use Rattle.clr_workspaces.specs.Operations.{own_changes, with_base_merged, after_write}
use Rattle.clr_operations.proofs.LeanLemmas.{lean_merged, lean_still}
use Rattle.clr_deltas.proofs.Answered.{either}
use Rattle.clr_workspaces.proofs.RootLemmas.{rooted_set}
use Rattle.clr_operations.proofs.operations.merge.Goals as goal

pub merge_rows-done-requires-clause-rows : goal.merge_rows-done-requires-clause-rows
merge_rows-done-requires-clause-rows c = c.in_ok-rows.ensures ∙ ap (λ (x : Changes). rows_after x) c.requires.changed

pub merge_rows-done-requires-clause-own : goal.merge_rows-done-requires-clause-own
merge_rows-done-requires-clause-own c = c.in_ok-own.ensures ∙ ap (λ (x : Changes). rows_after x) c.requires.changed

pub sweep_at-requires-clause-within : goal.sweep_at-requires-clause-within
sweep_at-requires-clause-within c = let within = c.requires.within in let up = c.requires.earlier in let long = c.merge_rows-done.ensures.long in
    omega (arith, within, up, long)

pub sweep_at-requires-clause-rooted : goal.sweep_at-requires-clause-rooted
sweep_at-requires-clause-rooted c =
    let ws = wholes c.args.live.now c.args.map.now in
    let p = c.args.above in
    let vs = after_write ws p (own_changes (workspace_at ws c.args.at)) in
    either c.merge_rows-done.result _ _ _ (λ is. subst IsRooted (sym is) (rooted_set vs c.args.at (with_base_merged (workspace_at vs c.args.at)) refl refl
    (rooted_set ws p _ refl refl c.requires.rooted))) (λ is. subst IsRooted (sym is) c.requires.rooted)
    c.merge_rows-done.ensures.ok c.merge_rows-done.ensures.err

pub returns-clause-ok : goal.returns-clause-ok
returns-clause-ok c = on_ok c.merge_rows-done.result _ _ (λ is. c.sweep_at.ensures.seen ∙ is) c.merge_rows-done.ensures.ok

pub returns-clause-err : goal.returns-clause-err
returns-clause-err c = on_err c.merge_rows-done.result _ _ (λ is. c.sweep_at.ensures.seen ∙ is) c.merge_rows-done.ensures.err

pub returns-clause-lean : goal.returns-clause-lean
returns-clause-lean c = λ lean.
    let live = c.args.live.now in
    let ls = c.args.map.now in
    let ws = wholes live ls in
    let next = c.merge_rows-done.new.live in
    let ms = c.merge_rows-done.new.map in
    let p = c.args.above in
    let rows = rows_after (own_changes (workspace_at ws c.args.at)) in
    let e = c.merge_rows-done.ensures in
    let own = c.in_ok-own.ensures ∙ ap (λ (x : Changes). rows_after x) c.requires.changed in
    let cells = c.as_slice-2.ensures.value ∙ c.in_ok-cells.ensures ∙ ap cells_in (c.as_slice.ensures.value ∙ own) in
    let stay = subst (λ (rs : RowsByCell). StayOwnButNear p (cells_in rs) ls ms) own e.elsewhere in
    let p_in : p < length ls = let within = c.requires.within in let up = c.requires.earlier in omega (arith, within, up) in
    let but : IsLeanBut p (cells_in rows) next ms = either c.merge_rows-done.result _ _ _
    (λ is. lean_merged live next ls ms c.args.at p c.requires.rooted p_in e.long is stay lean)
    (λ is. lean_still live next ls ms p (cells_in rows) c.requires.rooted p_in is stay lean) e.ok e.err in
    c.sweep_at.ensures.lean (subst (λ (qs : List CellId). IsLeanBut p qs next ms) (sym cells) but)
