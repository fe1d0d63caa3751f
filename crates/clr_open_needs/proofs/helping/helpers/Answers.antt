use Rattle.std.proofs.Common.{◌∙◌, ◌+◌, ap, arith, subst, sym}
use Rattle.clr_foot.specs.Scenes.{model_of, setting_of}
use Rattle.clr_needs.specs.Needs.{AreServers}
use Rattle.clr_needs.proofs.ListedNumbers.{none_listed, one_left_out, one_listed}
use Rattle.clr_open_needs.specs.OpenNeeds.{IsHelperOf, IsToldHelper}
use Rattle.clr_open_needs.proofs.HelperLaws.{AreHelpersTo, all_help}
use Rattle.clr_open_needs.proofs.helping.helpers.Goals as goal
use Rattle.clr_open_needs.proofs.helping.helpers.Goals.{else-is_helper, then-is_helper+in_ok-push}

pub loop-position-init : goal.loop-position-init
loop-position-init g c =
    none_listed (IsHelperOf (setting_of (model_of g.V.RowView.content c.args.scene.now)) c.args.need.now) c.new-list.result.items c.new-list.ensures.items

pub is_helper-requires-clause-servers : goal.is_helper-requires-clause-servers
is_helper-requires-clause-servers g c = subst (AreServers (setting_of (model_of g.V.RowView.content c.args.scene.now)) c.args.need.now)
    (sym c.as_slice.ensures.value) c.in_ok-servers.ensures

pub loop-position-preserved : goal.loop-position-preserved
loop-position-preserved g c =
    let s = setting_of (model_of g.V.RowView.content c.args.scene.now) in
    let n = c.args.need.now in
    let k = c.loop-position.position in
    elim c.if-is_helper.branch [
      | then-is_helper+in_ok-push w ↦ one_listed (IsHelperOf s n) k c.loop-position.list.items _ (ap (λ v. v.items) w.list-is ∙ w.in_ok-push.ensures.items)
          (subst (IsToldHelper s n k) w.if-is_helper.true c.is_helper.ensures) c.loop-position.invariant
      | else-is_helper w ↦ subst (λ v. AreHelpersTo s n (k + 1) v.items) (sym w.list-is) (one_left_out (IsHelperOf s n) k c.loop-position.list.items
          (subst (IsToldHelper s n k) w.if-is_helper.false c.is_helper.ensures) c.loop-position.invariant)
    ]

pub returns : goal.returns
returns g c =
    let m = model_of g.V.RowView.content c.args.scene.now in
    all_help m.rules m.root m.sets c.args.need.now c.loop-position.position c.loop-position.list.items (omega arith) c.loop-position.invariant
