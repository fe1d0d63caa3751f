use Rattle.clr_row_versions.specs.RootVersions.{setting_in}
use Rattle.clr_needs.specs.Witnesses.{lasts_at}
use Rattle.clr_needs.proofs.VersionOrder.{first_is_least, none_at_all, none_more, unread}
use Rattle.clr_row_versions.proofs.root_versions.RootVersions.least_lasting.Goals as goal

pub returns-then-is_lasting : goal.returns-then-is_lasting
returns-then-is_lasting g c =
    first_is_least (lasts_at (setting_in g.V.RowView.content c.args.self.now) c.args.need.now) c.args.ids.now c.loop-id.id-index unread c.is_lasting.result
    c.loop-id-test.true c.is_lasting.ensures c.loop-id.invariant c.requires.ascending
    c.if-is_lasting.true

pub loop-id-preserved : goal.loop-id-preserved
loop-id-preserved g c =
    none_more (lasts_at (setting_in g.V.RowView.content c.args.self.now) c.args.need.now) c.args.ids.now c.loop-id.id-index unread c.is_lasting.result
    c.loop-id-test.true c.is_lasting.ensures c.loop-id.invariant c.if-is_lasting.false

pub returns : goal.returns
returns g c = none_at_all (lasts_at (setting_in g.V.RowView.content c.args.self.now) c.args.need.now) c.args.ids.now c.loop-id.id-index c.loop-id-test.false
    c.loop-id.invariant
