use Rattle.std.proofs.Common.{◌≡◌, ◌∙◌, ◌++◌, ap, sym, subst, refl, arith, false, None, List}
use Rattle.std.specs.FinMap as finite
use Rattle.clr_rows.specs.declared.cells.CellId.{CellId}
use Rattle.clr_rows.specs.Contents.{Changes, rows_after}
use Rattle.clr_deltas.specs.Differences.{Differences, cells_in, is_among}
use Rattle.clr_deltas.specs.Deltas.{delta_at, wholes}
use Rattle.clr_workspaces.specs.Marks.{mark_last}
use Rattle.clr_workspaces.specs.Workspaces.{workspace_at}
use Rattle.clr_deltas.proofs.Answered.{on_ok, on_err}
use Rattle.clr_workspaces.specs.Roots.{IsRooted}
use Rattle.clr_contents.specs.Lean.{IsLeanBut, StayOwnButNear}
use Rattle.clr_workspaces.specs.Operations.{change_marks, own_changes, refresh}
use Rattle.clr_workspaces.proofs.RootLemmas.{below_rooted}
use Rattle.clr_contents.proofs.ComparedLemmas.{among_neither, no_difference}
use Rattle.clr_operations.proofs.LeanLemmas.{lean_refreshed, lean_still}
use Rattle.clr_deltas.proofs.Answered.{either}
use Rattle.clr_workspaces.proofs.RootLemmas.{rooted_set}
use Rattle.clr_operations.proofs.operations.refresh.Goals as goal

pub refresh_base-done-requires-clause-rows : goal.refresh_base-done-requires-clause-rows
refresh_base-done-requires-clause-rows c = c.in_ok-rows.ensures ∙ ap (λ (x : Changes). rows_after x) c.requires.changed

pub refresh_base-done-requires-clause-cells : goal.refresh_base-done-requires-clause-cells
refresh_base-done-requires-clause-cells c =
    let under = (delta_at c.args.map.now c.args.at).base in
    let now = (delta_at c.args.map.now c.args.at).current in
    let new = c.in_ok-new.ensures ∙ ap cells_in c.as_slice.ensures.value in
    let base = c.in_ok-base.ensures ∙ ap (λ (d : Differences). finite.keys d) c.base.ensures in
    let old = c.in_ok-old.ensures ∙ ap (λ (d : Differences). finite.keys d) c.current.ensures in
    let held : c.as_slice-2.result.now ++ c.as_slice-3.result.now ≡ finite.keys under ++ finite.keys now = λ i. (c.as_slice-2.ensures.value ∙ base) i
    ++ (c.as_slice-3.ensures.value ∙ old) i in
    let rest = c.as_slice-5.ensures.value ∙ c.in_ok-held.ensures ∙ held in
    c.as_slice-6.ensures.value ∙ c.in_ok-cells.ensures ∙ (λ i. (c.as_slice-4.ensures.value ∙ new) i ++ rest i)

pub sweep_at-requires-clause-within : goal.sweep_at-requires-clause-within
sweep_at-requires-clause-within c = let within = c.requires.within in let long = c.refresh_base-done.ensures.long in omega (arith, within, long)

pub sweep_at-requires-clause-rooted : goal.sweep_at-requires-clause-rooted
sweep_at-requires-clause-rooted c =
    let ws = wholes c.args.live.now c.args.map.now in
    let moved = change_marks ws c.args.above (mark_last (workspace_at ws c.args.at).name) in
    either c.refresh_base-done.result _ _ _
    (λ is. subst IsRooted (sym is) (rooted_set moved c.args.at (refresh (workspace_at ws c.args.above).current (workspace_at moved c.args.at)) refl refl
    (below_rooted ws c.args.above (mark_last (workspace_at ws c.args.at).name) c.requires.rooted)))
    (λ is. subst IsRooted (sym is) c.requires.rooted) c.refresh_base-done.ensures.ok c.refresh_base-done.ensures.err

pub returns-clause-ok : goal.returns-clause-ok
returns-clause-ok c = on_ok c.refresh_base-done.result _ _ (λ is. c.sweep_at.ensures.seen ∙ is) c.refresh_base-done.ensures.ok

pub returns-clause-err : goal.returns-clause-err
returns-clause-err c = on_err c.refresh_base-done.result _ _ (λ is. c.sweep_at.ensures.seen ∙ is) c.refresh_base-done.ensures.err

pub returns-clause-lean : goal.returns-clause-lean
returns-clause-lean c = λ lean.
    let live = c.args.live.now in
    let ls = c.args.map.now in
    let ms = c.refresh_base-done.new.map in
    let at = c.args.at in
    let p = c.args.above in
    let rows = rows_after (own_changes (workspace_at (wholes live ls) at)) in
    let under = (delta_at ls at).base in
    let now = (delta_at ls at).current in
    let all = cells_in rows ++ (finite.keys under ++ finite.keys now) in
    let e = c.refresh_base-done.ensures in
    let after = c.in_ok-rows.ensures ∙ ap (λ (x : Changes). rows_after x) c.requires.changed in
    let new = c.in_ok-new.ensures ∙ ap cells_in (c.as_slice.ensures.value ∙ after) in
    let base = c.in_ok-base.ensures ∙ ap (λ (d : Differences). finite.keys d) c.base.ensures in
    let old = c.in_ok-old.ensures ∙ ap (λ (d : Differences). finite.keys d) c.current.ensures in
    let held : c.as_slice-2.result.now ++ c.as_slice-3.result.now ≡ finite.keys under ++ finite.keys now = λ i. (c.as_slice-2.ensures.value ∙ base) i
    ++ (c.as_slice-3.ensures.value ∙ old) i in
    let rest = c.as_slice-5.ensures.value ∙ c.in_ok-held.ensures ∙ held in
    let joined : c.as_slice-4.result.now ++ c.as_slice-5.result.now ≡ all = λ i. (c.as_slice-4.ensures.value ∙ new) i ++ rest i in
    let cells = c.as_slice-7.ensures.value ∙ c.in_ok-cells.ensures ∙ joined in
    let moved = c.as_slice-6.ensures.value ∙ c.in_ok-cells.ensures ∙ joined in
    let stay = subst (λ (qs : List CellId). StayOwnButNear at qs ls ms) moved e.elsewhere in
    let none : (q : CellId) → is_among all q ≡ false → (is_among (cells_in rows) q ≡ false) × ((finite.get under q ≡ None) × (finite.get now q ≡ None)) =
    λ q apart.
    let one = among_neither (cells_in rows) (finite.keys under ++ finite.keys now) q apart in
    let two = among_neither (finite.keys under) (finite.keys now) q one.1 in (one.0, (no_difference under q two.0, no_difference now q two.1)) in
    let but : IsLeanBut at all live ms = either c.refresh_base-done.result _ _ _
    (λ is. lean_refreshed live ls at p c.requires.rooted c.requires.child c.requires.within c.requires.parent c.requires.earlier all none ms e.long is stay
    lean)
    (λ is. lean_still live live ls ms at all c.requires.rooted c.requires.within is stay lean) e.ok e.err in
    c.sweep_at.ensures.lean (subst (λ (qs : List CellId). IsLeanBut at qs live ms) (sym cells) but)
