use Rattle.std.proofs.Common.{◌≡◌, ◌∙◌, ◌++◌, ap, sym, subst, refl, arith, false, None, List}
use Rattle.std.specs.FinMap as finite
use Rattle.clr_rows.specs.declared.cells.CellId.{CellId}
use Rattle.clr_deltas.specs.Differences.{Differences, is_among}
use Rattle.clr_deltas.specs.Deltas.{delta_at, saved_differences, stored_at, wholes}
use Rattle.clr_workspaces.specs.Workspaces.{workspace_at}
use Rattle.clr_deltas.proofs.Answered.{on_ok, on_err}
use Rattle.clr_workspaces.specs.Roots.{IsRooted}
use Rattle.clr_contents.specs.Lean.{IsLeanBut, StayOwnButNear}
use Rattle.clr_workspaces.specs.Operations.{roll_to}
use Rattle.clr_contents.proofs.ComparedLemmas.{among_neither, no_difference}
use Rattle.clr_operations.proofs.LeanLemmas.{lean_rolled, lean_still}
use Rattle.clr_deltas.proofs.Answered.{either}
use Rattle.clr_workspaces.proofs.RootLemmas.{rooted_set}
use Rattle.clr_operations.proofs.operations.roll_to.Goals as goal

pub roll_back-done-requires-clause-cells : goal.roll_back-done-requires-clause-cells
roll_back-done-requires-clause-cells c =
    let old = c.in_ok-old.ensures ∙ ap (λ (d : Differences). finite.keys d) c.current.ensures in
    c.as_slice-3.ensures.value ∙ c.in_ok-cells.ensures ∙ (λ i. (c.as_slice.ensures.value ∙ c.in_ok-new.ensures) i ++ (c.as_slice-2.ensures.value ∙ old) i)

pub sweep_at-requires-clause-within : goal.sweep_at-requires-clause-within
sweep_at-requires-clause-within c = let within = c.requires.within in let long = c.roll_back-done.ensures.long in omega (arith, within, long)

pub sweep_at-requires-clause-rooted : goal.sweep_at-requires-clause-rooted
sweep_at-requires-clause-rooted c =
    let ws = wholes c.args.live.now c.args.map.now in
    either c.roll_back-done.result _ _ _ (λ is. subst IsRooted (sym is) (rooted_set ws c.args.at (roll_to c.args.mark (workspace_at ws c.args.at)) refl refl
    c.requires.rooted)) (λ is. subst IsRooted (sym is) c.requires.rooted)
    c.roll_back-done.ensures.ok c.roll_back-done.ensures.err

pub returns-clause-ok : goal.returns-clause-ok
returns-clause-ok c = on_ok c.roll_back-done.result _ _ (λ is. c.sweep_at.ensures.seen ∙ is) c.roll_back-done.ensures.ok

pub returns-clause-err : goal.returns-clause-err
returns-clause-err c = on_err c.roll_back-done.result _ _ (λ is. c.sweep_at.ensures.seen ∙ is) c.roll_back-done.ensures.err

pub returns-clause-lean : goal.returns-clause-lean
returns-clause-lean c = λ lean.
    let live = c.args.live.now in
    let ls = c.args.map.now in
    let ms = c.roll_back-done.new.map in
    let at = c.args.at in
    let d = saved_differences (stored_at (delta_at ls at).marks c.args.mark) in
    let now = (delta_at ls at).current in
    let all = finite.keys d ++ finite.keys now in
    let e = c.roll_back-done.ensures in
    let new = c.in_ok-new.ensures ∙ ap (λ (x : Differences). finite.keys x) c.in_ok-differences.ensures in
    let old = c.in_ok-old.ensures ∙ ap (λ (x : Differences). finite.keys x) c.current.ensures in
    let joined : c.as_slice.result.now ++ c.as_slice-2.result.now ≡ all = λ i. (c.as_slice.ensures.value ∙ new) i ++ (c.as_slice-2.ensures.value ∙ old) i in
    let moved = c.as_slice-3.ensures.value ∙ c.in_ok-cells.ensures ∙ joined in
    let cells = c.as_slice-4.ensures.value ∙ c.in_ok-cells.ensures ∙ joined in
    let stay = subst (λ (qs : List CellId). StayOwnButNear at qs ls ms) moved e.elsewhere in
    let none : (q : CellId) → is_among all q ≡ false → (finite.get d q ≡ None) × (finite.get now q ≡ None) = λ q apart.
    let both = among_neither (finite.keys d) (finite.keys now) q apart in (no_difference d q both.0, no_difference now q both.1) in
    let but : IsLeanBut at all live ms = either c.roll_back-done.result _ _ _
    (λ is. lean_rolled live ls at c.requires.rooted c.requires.child c.requires.within c.args.mark all ms c.requires.saved none e.long is stay lean)
    (λ is. lean_still live live ls ms at all c.requires.rooted c.requires.within is stay lean) e.ok e.err in
    c.sweep_at.ensures.lean (subst (λ (qs : List CellId). IsLeanBut at qs live ms) (sym cells) but)
