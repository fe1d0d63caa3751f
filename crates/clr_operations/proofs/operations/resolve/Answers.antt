use Rattle.std.proofs.Common.{◌∙◌, ◌∷◌, [], sym, subst, arith}
use Rattle.clr_deltas.specs.Deltas.{wholes}
use Rattle.clr_deltas.proofs.Answered.{on_ok, on_err}
use Rattle.clr_workspaces.specs.Roots.{IsRooted}
use Rattle.clr_contents.specs.Lean.{IsLeanBut}
use Rattle.clr_operations.proofs.LeanLemmas.{lean_resolved, lean_still, rooted_resolved}
use Rattle.clr_deltas.proofs.Answered.{either}
use Rattle.clr_operations.proofs.operations.resolve.Goals as goal

pub sweep_cell-requires-clause-within : goal.sweep_cell-requires-clause-within
sweep_cell-requires-clause-within c = let within = c.requires.within in let long = c.resolve_row-done.ensures.long in omega (arith, within, long)

pub sweep_cell-requires-clause-rooted : goal.sweep_cell-requires-clause-rooted
sweep_cell-requires-clause-rooted c =
    let ws = wholes c.args.live.now c.args.map.now in
    either c.resolve_row-done.result _ _ _ (λ is. subst IsRooted (sym is) (rooted_resolved ws c.args.at c.args.above c.args.cell c.args.keep c.requires.rooted))
    (λ is. subst IsRooted (sym is) c.requires.rooted)
    c.resolve_row-done.ensures.ok c.resolve_row-done.ensures.err

pub returns-clause-ok : goal.returns-clause-ok
returns-clause-ok c = on_ok c.resolve_row-done.result _ _ (λ is. c.sweep_cell.ensures.seen ∙ is) c.resolve_row-done.ensures.ok

pub returns-clause-err : goal.returns-clause-err
returns-clause-err c = on_err c.resolve_row-done.result _ _ (λ is. c.sweep_cell.ensures.seen ∙ is) c.resolve_row-done.ensures.err

pub returns-clause-lean : goal.returns-clause-lean
returns-clause-lean c = λ lean.
    let live = c.args.live.now in
    let ls = c.args.map.now in
    let ms = c.resolve_row-done.new.map in
    let at = c.args.at in
    let cells = c.args.cell ∷ [] in
    let e = c.resolve_row-done.ensures in
    let but : IsLeanBut at cells live ms = either c.resolve_row-done.result _ _ _
    (λ is. lean_resolved live ls ms at c.args.above c.args.cell c.args.keep c.requires.rooted c.requires.within e.long is e.elsewhere lean)
    (λ is. lean_still live live ls ms at cells c.requires.rooted c.requires.within is e.elsewhere lean) e.ok e.err in
    c.sweep_cell.ensures.lean but
