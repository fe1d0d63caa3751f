use Rattle.std.proofs.Common.{get_or, subst}
use Rattle.clr_foot.specs.Scenes.{model_of, setting_of}
use Rattle.clr_listed_covers.specs.Covers.{IsCoverByPair}
use Rattle.clr_listed_covers.proofs.PairCovers.{none_serves, none_serves_more, none_serves_yet, pair_covers, unread_pair}
use Rattle.clr_listed_covers.proofs.covers.cover_by_pairs.Goals as goal

pub loop-pair-init : goal.loop-pair-init
loop-pair-init g c = none_serves_yet (setting_of (model_of g.V.RowView.content c.args.scene.now)) c.args.need.now c.args.pairs.now

pub returns-in-Some : goal.returns-in-Some
returns-in-Some g c =
    let s = setting_of (model_of g.V.RowView.content c.args.scene.now) in
    pair_covers s c.args.need.now c.args.pairs.now c.loop-pair.pair-index unread_pair c.loop-pair-test.true c.in-Some.cover
    (subst (IsCoverByPair s c.args.need.now (get_or c.args.pairs.now c.loop-pair.pair-index unread_pair)) c.in-Some.is c.cover_by_pair.ensures)

pub loop-pair-preserved : goal.loop-pair-preserved
loop-pair-preserved g c =
    let s = setting_of (model_of g.V.RowView.content c.args.scene.now) in
    none_serves_more s c.args.need.now c.args.pairs.now c.loop-pair.pair-index unread_pair c.loop-pair-test.true c.loop-pair.invariant
    (subst (IsCoverByPair s c.args.need.now (get_or c.args.pairs.now c.loop-pair.pair-index unread_pair)) c.in_default.is c.cover_by_pair.ensures)

pub returns : goal.returns
returns g c = none_serves (setting_of (model_of g.V.RowView.content c.args.scene.now)) c.args.need.now c.args.pairs.now c.loop-pair.pair-index
    c.loop-pair-test.false c.loop-pair.invariant
