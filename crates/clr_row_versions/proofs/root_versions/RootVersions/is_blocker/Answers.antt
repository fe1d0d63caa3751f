use Rattle.clr_row_versions.specs.RootVersions.{setting_in}
use Rattle.clr_needs.proofs.BlockerLaws.{brings_is_blocker, neither_is_blocker, takes_is_blocker}
use Rattle.clr_row_versions.proofs.root_versions.RootVersions.is_blocker.Goals as goal

pub returns-then-has_subject_with : goal.returns-then-has_subject_with
returns-then-has_subject_with g c =
    brings_is_blocker (setting_in g.V.RowView.content c.args.self.now) c.args.need.now c.has_subject_with.result c.args.position c.requires.possible
    c.has_subject_with.ensures c.if-has_subject_with.true

pub returns-in-None : goal.returns-in-None
returns-in-None g c =
    neither_is_blocker (setting_in g.V.RowView.content c.args.self.now) c.args.need.now c.args.servers.now c.requires.servers c.args.position
    c.has_subject_with.result c.has_subject_with.ensures c.if-has_subject_with.false
    c.in-None.ensures

pub returns-in-Some : goal.returns-in-Some
returns-in-Some g c =
    takes_is_blocker (setting_in g.V.RowView.content c.args.self.now) c.args.need.now c.args.servers.now c.requires.servers c.args.position c.in-Some.field-0
    c.in-Some.ensures.0
