use Rattle.std.proofs.Common.{◌∙◌, ap, sym, subst, refl, arith, List}
use Rattle.clr_rows.specs.declared.cells.CellId.{CellId}
use Rattle.clr_rows.specs.Contents.{over}
use Rattle.clr_deltas.specs.Differences.{cells_in}
use Rattle.clr_deltas.specs.Deltas.{wholes}
use Rattle.clr_workspaces.specs.Workspaces.{workspace_at}
use Rattle.clr_deltas.proofs.Answered.{on_ok, on_err}
use Rattle.clr_workspaces.specs.Roots.{IsRooted}
use Rattle.clr_contents.specs.Lean.{IsLeanBut}
use Rattle.clr_workspaces.specs.Operations.{with_current}
use Rattle.clr_operations.proofs.LeanLemmas.{lean_put, lean_still}
use Rattle.clr_deltas.proofs.Answered.{either}
use Rattle.clr_workspaces.proofs.RootLemmas.{rooted_set}
use Rattle.clr_operations.proofs.operations.write_rows.Goals as goal

pub sweep_at-requires-clause-within : goal.sweep_at-requires-clause-within
sweep_at-requires-clause-within c = let within = c.requires.within in let long = c.put_rows-done.ensures.extends.long in omega (arith, within, long)

pub sweep_at-requires-clause-rooted : goal.sweep_at-requires-clause-rooted
sweep_at-requires-clause-rooted c =
    let ws = wholes c.args.live.now c.args.map.now in
    let w = workspace_at ws c.args.at in
    either c.put_rows-done.result _ _ _ (λ is. subst IsRooted (sym is) (rooted_set ws c.args.at (with_current (over w.current c.args.rows.items) w) refl refl
    c.requires.rooted)) (λ is. subst IsRooted (sym is) c.requires.rooted)
    c.put_rows-done.ensures.ok c.put_rows-done.ensures.err

pub returns-clause-ok : goal.returns-clause-ok
returns-clause-ok c = on_ok c.put_rows-done.result _ _ (λ is. c.sweep_at.ensures.seen ∙ is) c.put_rows-done.ensures.ok

pub returns-clause-err : goal.returns-clause-err
returns-clause-err c = on_err c.put_rows-done.result _ _ (λ is. c.sweep_at.ensures.seen ∙ is) c.put_rows-done.ensures.err

pub returns-clause-lean : goal.returns-clause-lean
returns-clause-lean c = λ lean.
    let live = c.args.live.now in
    let ls = c.args.map.now in
    let next = c.put_rows-done.new.live in
    let ms = c.put_rows-done.new.map in
    let at = c.args.at in
    let rows = c.args.rows.items in
    let e = c.put_rows-done.ensures in
    let cells = c.as_slice-2.ensures.value ∙ c.in_ok-cells.ensures ∙ ap cells_in c.as_slice.ensures.value in
    let but : IsLeanBut at (cells_in rows) next ms = either c.put_rows-done.result _ _ _
    (λ is. lean_put live next ls ms at rows c.requires.rooted c.requires.within e.extends.long is e.elsewhere lean)
    (λ is. lean_still live next ls ms at (cells_in rows) c.requires.rooted c.requires.within is e.elsewhere lean) e.ok e.err in
    c.sweep_at.ensures.lean (subst (λ (qs : List CellId). IsLeanBut at qs next ms) (sym cells) but)
