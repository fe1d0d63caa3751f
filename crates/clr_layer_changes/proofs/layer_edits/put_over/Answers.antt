use Rattle.std.proofs.Common.{◌∷◌, ◌++◌, [], Option, ap, sym, ◌∙◌, take}
use Rattle.std.proofs.lemmas.List.{take_all, take_more}
use Rattle.clr_rows.specs.declared.cells.CellId.{CellId}
use Rattle.clr_rows.specs.declared.rows.Row.{Row}
use Rattle.clr_rows.specs.Contents.{changes, over}
use Rattle.clr_change.specs.ChangeSets.{set_change}
use Rattle.clr_change.proofs.EditLemmas.{set_change_is}
use Rattle.clr_layer_changes.proofs.NotedLemmas.{over_more, over_nothing}
use Rattle.clr_layer_changes.proofs.layer_edits.put_over.Goals as goal

pub loop-at-init : goal.loop-at-init
loop-at-init c = λ content is. is ∙ ap (changes c.args.base.now) (sym (over_nothing content))

pub loop-at-preserved : goal.loop-at-preserved
loop-at-preserved c = λ content is.
    let base = c.args.base.now in
    let cells = c.args.cells.now in
    let at = c.at-item.result in
    let so_far = take c.loop-at.at-index cells in
    c.in_ok-set.ensures.ok
    ∙ (λ i. set_change (c.loop-at.invariant content is i) at.0 (c.get.ensures i) (c.as_ref.ensures.value i))
    ∙ set_change_is base (over content so_far) at.0 at.1
    ∙ ap (changes base) (sym (over_more content so_far at)
    ∙ ap (λ (e : CellId × Option Row). over content (so_far ++ e ∷ [])) c.at-item.is
    ∙ sym (ap (over content) (take_more cells c.loop-at.at-index at c.loop-at-test.true)))

pub returns : goal.returns
returns c = λ content is.
    c.loop-at.invariant content is ∙ ap (λ es. changes c.args.base.now (over content es)) (take_all c.loop-at.at-index c.args.cells.now c.loop-at-test.false)
