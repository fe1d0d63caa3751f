use Rattle.std.proofs.Common.{◌++◌, ◌∷◌, [], ap, sym, subst, remove, ◌∙◌, arith}
use Rattle.clr_deltas.specs.declared.stored_marks.StoredMark.TheVariants as stored
use Rattle.clr_deltas.specs.Deltas.{wholes, delta_at, delta_changed, leaf, find_delta}
use Rattle.clr_deltas.proofs.Meaning.{find-wholes}
use Rattle.clr_operations.proofs.CreateLemmas.{created_live, created_under, pushed_rooted, p_pushed, remove_last}
use Rattle.clr_contents.specs.Lean.{IsLean}
use Rattle.clr_operations.proofs.LeanLemmas.{lean_child, lean_leaf}
use Rattle.clr_operations.proofs.operations.create.Goals as goal

pub push_leaf-requires : goal.push_leaf-requires
push_leaf-requires c = ap (find_delta c.args.map.now) c.in_ok-name.ensures.ok ∙ sym (find-wholes c.args.live.now c.args.map.now c.args.name.now)
    ∙ c.requires.absent

pub returns-in_default-clause-ok : goal.returns-in_default-clause-ok
returns-in_default-clause-ok c =
    let live = c.args.live.now in
    let ls = c.args.map.now in
    let p = c.args.parent in
    let own = c.in_ok-name.ensures.ok in
    let above = c.in_ok-above.ensures ∙ c.name_at.ensures in
    let pushed = c.in_ok-push_leaf.ensures.ok ∙ (λ i. ls ++ leaf (own i) (above i) ∷ []) in
    let child = c.in_ok-child.ensures in
    ap (wholes live) c.in_default.ensures.ok
    ∙ (λ i. wholes live (delta_changed (pushed i) p (λ l. record l { marks = l.marks ++ stored.Child (child i) ∷ [] })))
    ∙ created_under live ls c.args.name.now p c.requires.rooted c.requires.within c.requires.absent c.requires.good (omega arith)

pub returns-else-parent-gt0-clause-ok : goal.returns-else-parent-gt0-clause-ok
returns-else-parent-gt0-clause-ok c =
    let live = c.args.live.now in
    let ls = c.args.map.now in
    let own = c.in_ok-name.ensures.ok in
    let above = c.in_ok-above.ensures ∙ c.name_at.ensures in
    let pushed = c.in_ok-push_leaf.ensures.ok ∙ (λ i. ls ++ leaf (own i) (above i) ∷ []) in
    ap (wholes live) pushed ∙ created_live live ls c.args.name.now c.args.parent c.requires.rooted c.requires.within (omega arith)

pub returns-in_default-clause-lean : goal.returns-in_default-clause-lean
returns-in_default-clause-lean c = λ lean.
    let live = c.args.live.now in
    let ls = c.args.map.now in
    let p = c.args.parent in
    let name = c.args.name.now in
    let own = c.in_ok-name.ensures.ok in
    let above = c.in_ok-above.ensures ∙ c.name_at.ensures in
    let pushed = c.in_ok-push_leaf.ensures.ok ∙ (λ i. ls ++ leaf (own i) (above i) ∷ []) in
    let child = c.in_ok-child.ensures in
    let r = c.requires.rooted in
    let lt = c.requires.within in
    let absent = c.requires.absent in
    let good = c.requires.good in
    subst (IsLean live) (sym (c.in_default.ensures.ok ∙ (λ i. delta_changed (pushed i) p (λ l. record l { marks = l.marks ++ stored.Child (child i) ∷ [] }))))
    (lean_child live (ls ++ leaf name (delta_at ls p).name ∷ []) p (pushed_rooted live ls name p r lt absent good) (omega arith)
    (p_pushed live ls name p r lt absent good) name (lean_leaf live ls name p r lt lean))

pub returns-else-parent-gt0-clause-lean : goal.returns-else-parent-gt0-clause-lean
returns-else-parent-gt0-clause-lean c = λ lean.
    let live = c.args.live.now in
    let ls = c.args.map.now in
    let own = c.in_ok-name.ensures.ok in
    let above = c.in_ok-above.ensures ∙ c.name_at.ensures in
    let pushed = c.in_ok-push_leaf.ensures.ok ∙ (λ i. ls ++ leaf (own i) (above i) ∷ []) in
    subst (IsLean live) (sym pushed) (lean_leaf live ls c.args.name.now c.args.parent c.requires.rooted c.requires.within lean)

pub returns-in_err-push_leaf-clause-lean : goal.returns-in_err-push_leaf-clause-lean
returns-in_err-push_leaf-clause-lean c = λ lean. subst (IsLean c.args.live.now) (sym c.in_err-push_leaf.ensures.err) lean

pub returns-in-Err-clause-err : goal.returns-in-Err-clause-err
returns-in-Err-clause-err c =
    let was = c.in-Err.ensures.err ∙ c.in_ok-push_leaf.ensures.ok in
    ap (wholes c.args.live.now) (c.remove-name.ensures.gone ∙ (λ i. remove (was i) (c.len-last.ensures i)) ∙ remove_last c.args.map.now _)

pub returns-in-Err-clause-lean : goal.returns-in-Err-clause-lean
returns-in-Err-clause-lean c = λ lean.
    let was = c.in-Err.ensures.err ∙ c.in_ok-push_leaf.ensures.ok in
    subst (IsLean c.args.live.now) (sym (c.remove-name.ensures.gone ∙ (λ i. remove (was i) (c.len-last.ensures i)) ∙ remove_last c.args.map.now _)) lean
