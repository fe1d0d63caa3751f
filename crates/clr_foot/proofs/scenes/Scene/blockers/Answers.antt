use Rattle.std.proofs.Common.{◌∙◌, ◌+◌, ◌≤◌, ap, arith, subst, sym}
use Rattle.std.proofs.lemmas.List.{length-map}
use Rattle.clr_needs.specs.Blocking.{IsBlockerOf, IsToldBlocker}
use Rattle.clr_needs.specs.Needs.{AreServers}
use Rattle.clr_foot.specs.Scenes.{setting_in}
use Rattle.clr_needs.proofs.BlockerLaws.{AreBlockersTo, all_block}
use Rattle.clr_needs.proofs.ListedNumbers.{none_listed, one_left_out, one_listed}
use Rattle.clr_row_versions.proofs.Searches.{sets_of}
use Rattle.clr_foot.proofs.scenes.Scene.blockers.Goals as goal
use Rattle.clr_foot.proofs.scenes.Scene.blockers.Goals.{else-is_blocker, then-is_blocker+in_ok-push}

pub loop-position-init : goal.loop-position-init
loop-position-init g c =
    let s = setting_in g.V.RowView.content c.args.self.now in
    none_listed (IsBlockerOf s c.args.need.now) c.new-list.result.items c.new-list.ensures.items

pub is_blocker-requires-clause-servers : goal.is_blocker-requires-clause-servers
is_blocker-requires-clause-servers g c = subst (AreServers (setting_in g.V.RowView.content c.args.self.now) c.args.need.now) (sym c.as_slice.ensures.value)
    c.in_ok-servers.ensures

pub loop-position-preserved : goal.loop-position-preserved
loop-position-preserved g c =
    let s = setting_in g.V.RowView.content c.args.self.now in
    let n = c.args.need.now in
    let k = c.loop-position.position in
    elim c.if-is_blocker.branch [
      | then-is_blocker+in_ok-push w ↦ one_listed (IsBlockerOf s n) k c.loop-position.list.items _ (ap (λ v. v.items) w.list-is ∙ w.in_ok-push.ensures.items)
          (subst (IsToldBlocker s n k) w.if-is_blocker.true c.is_blocker.ensures) c.loop-position.invariant
      | else-is_blocker w ↦ subst (λ v. AreBlockersTo s n (k + 1) v.items) (sym w.list-is) (one_left_out (IsBlockerOf s n) k c.loop-position.list.items
          (subst (IsToldBlocker s n k) w.if-is_blocker.false c.is_blocker.ensures) c.loop-position.invariant)
    ]

pub returns : goal.returns
returns g c =
    let scene = c.args.self.now in
    all_block scene.book.now (g.V.RowView.content scene.root.now) (sets_of scene.members.sets.items) c.args.need.now c.loop-position.position
    c.loop-position.list.items
    (subst (λ n. n ≤ c.loop-position.position) (sym (length-map scene.members.sets.items (λ s. s.now))) (omega arith)) c.loop-position.invariant
