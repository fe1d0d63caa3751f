use Rattle.std.proofs.Common.{[], ◌≤◌, subst, sym, refl, true, false}
use Rattle.clr_row_versions.specs.Gains.{Reaches}
use Rattle.clr_new_pairs.specs.NewPairs.{Passes}
use Rattle.clr_needs.specs.Needs.{IsTouched}
use Rattle.clr_foot.specs.Scenes.{setting_in}
use Rattle.clr_foot.specs.Touches.{IsInCells}
use Rattle.clr_row_versions.specs.Versions.{Finds}
use Rattle.clr_needs.proofs.NeedOrder.{need_exact}
use Rattle.clr_row_versions.proofs.Searches.{sets_of}
use Rattle.clr_foot.proofs.TouchSteps.{IsTouchedBelow, all_touched, no_rule_yet, one_rule_more}
use Rattle.clr_foot.proofs.scenes.Scene.list_touched.Goals as goal

pub loop-rule-init : goal.loop-rule-init
loop-rule-init g c =
    let scene = c.args.self.now in
    let root = g.V.RowView.content scene.root.now in
    let sets = sets_of scene.members.sets.items in
    subst (Reaches (Passes scene.book.now c.args.leaves_out) (IsTouched (setting_in g.V.RowView.content scene)) (IsTouchedBelow scene.book.now root sets 0) [])
    (sym c.new-needs.ensures.items)
    (no_rule_yet scene.book.now root sets c.args.leaves_out [])

pub loop-rule-preserved : goal.loop-rule-preserved
loop-rule-preserved g c =
    let scene = c.args.self.now in
    one_rule_more scene.book.now (g.V.RowView.content scene.root.now) (sets_of scene.members.sets.items) c.args.leaves_out c.loop-rule.rule [] _ _
    c.loop-rule.invariant
    c.in_ok-add_of_rule.ensures

pub put_in_order-requires : goal.put_in_order-requires
put_in_order-requires g c = need_exact

pub returns : goal.returns
returns g c =
    let scene = c.args.self.now in
    all_touched scene.book.now (g.V.RowView.content scene.root.now) (sets_of scene.members.sets.items) c.args.leaves_out c.loop-rule.rule []
    c.loop-rule.needs.items
    _ (subst (λ n. n ≤ c.loop-rule.rule) c.len-rule-end.ensures.value c.loop-rule-test.false) refl c.loop-rule.invariant c.put_in_order.ensures.ascending
    c.put_in_order.ensures.same

pub add_of_rule-requires-clause-old : goal.add_of_rule-requires-clause-old
add_of_rule-requires-clause-old g c =
    let s = setting_in g.V.RowView.content c.args.self.now in
    subst (Finds s false (IsInCells c.args.self.now.members.cells.items)) (sym c.as_slice-in-loop-rule-2.ensures.value)
    (subst (λ cells. Finds s false (IsInCells cells) c.in_ok-old.old.items) c.as_slice-2.ensures.value c.in_ok-old.ensures)

pub add_of_rule-requires-clause-fresh : goal.add_of_rule-requires-clause-fresh
add_of_rule-requires-clause-fresh g c =
    let s = setting_in g.V.RowView.content c.args.self.now in
    subst (Finds s true (IsInCells c.args.self.now.members.cells.items)) (sym c.as_slice-in-loop-rule.ensures.value)
    (subst (λ cells. Finds s true (IsInCells cells) c.in_ok-fresh.fresh.items) c.as_slice.ensures.value c.in_ok-fresh.ensures)
