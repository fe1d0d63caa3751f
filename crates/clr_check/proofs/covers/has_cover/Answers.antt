use Rattle.clr_foot.specs.Scenes.{setting_in}
use Rattle.clr_merge_sets.specs.PositionPairs.{pairs_say}
use Rattle.clr_check.proofs.CoverLemmas.{none_covers, one_not}
use Rattle.clr_check.proofs.JudgeLemmas.{no_entry}
use Rattle.clr_check.proofs.covers.has_cover.Goals as goal

pub loop-entry-preserved : goal.loop-entry-preserved
loop-entry-preserved g c a b possible =
    one_not (pairs_say c.args.pairs.now) (setting_in g.V.RowView.content c.args.scene.now) c.args.need.now a b c.args.entries.now c.loop-entry.entry-index
    no_entry c.covers.result
    c.loop-entry-test.true c.if-covers.false (c.covers.ensures a b possible)
    (c.loop-entry.invariant a b possible)

pub returns : goal.returns
returns g c a b possible =
    none_covers (pairs_say c.args.pairs.now) (setting_in g.V.RowView.content c.args.scene.now) c.args.need.now a b c.args.entries.now
    c.loop-entry.entry-index
    c.loop-entry-test.false (c.loop-entry.invariant a b possible)
