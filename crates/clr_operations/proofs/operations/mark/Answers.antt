use Rattle.std.proofs.Common.{◌∙◌, ap, sym, subst, ◌++◌, ◌∷◌, []}
use Rattle.clr_deltas.specs.declared.stored_marks.StoredMark.TheVariants as stored
use Rattle.clr_deltas.specs.Deltas.{wholes, delta_changed}
use Rattle.clr_deltas.proofs.Answered.{on_ok, on_err}
use Rattle.clr_operations.proofs.OperationLemmas.{mark_made}
use Rattle.clr_contents.specs.Lean.{IsLean}
use Rattle.clr_operations.proofs.LeanLemmas.{lean_marked}
use Rattle.clr_deltas.proofs.Answered.{either}
use Rattle.clr_operations.proofs.operations.mark.Goals as goal

pub returns-clause-ok : goal.returns-clause-ok
returns-clause-ok c =
    let live = c.args.live.now in
    let ls = c.args.map.now in
    let at = c.args.at in
    let name = c.in_ok-name.ensures in
    let differences = c.in_ok-differences.ensures ∙ c.current.ensures in
    on_ok c.push_mark.result _ _ (λ is.
    ap (wholes live) is ∙ (λ i. wholes live (delta_changed ls at (λ l. record l { marks = l.marks ++ stored.Saved (name i) (differences i) ∷ [] })))
    ∙ mark_made live ls at c.requires.rooted c.requires.child c.requires.within c.args.name.now) c.push_mark.ensures.ok

pub returns-clause-err : goal.returns-clause-err
returns-clause-err c = on_err c.push_mark.result _ _ (λ is. ap (wholes c.args.live.now) is) c.push_mark.ensures.err

pub returns-clause-lean : goal.returns-clause-lean
returns-clause-lean c = λ lean.
    let live = c.args.live.now in
    let ls = c.args.map.now in
    let at = c.args.at in
    let name = c.in_ok-name.ensures in
    let differences = c.in_ok-differences.ensures ∙ c.current.ensures in
    either c.push_mark.result _ _ _
    (λ is. subst (IsLean live) (sym (is ∙ (λ i. delta_changed ls at (λ l. record l { marks = l.marks ++ stored.Saved (name i) (differences i) ∷ [] }))))
    (lean_marked live ls at c.requires.rooted c.requires.child c.requires.within c.args.name.now lean))
    (λ is. subst (IsLean live) (sym is) lean) c.push_mark.ensures.ok c.push_mark.ensures.err
