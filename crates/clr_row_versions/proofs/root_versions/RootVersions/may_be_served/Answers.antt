use Rattle.std.proofs.Common.{◌∙◌, [], Some, ap, refl}
use Rattle.clr_row_versions.specs.RootVersions.{setting_in}
use Rattle.clr_row_versions.specs.Versions.{row_of}
use Rattle.clr_rules.proofs.FittingLemmas.{first_sound}
use Rattle.clr_row_versions.proofs.ServingLaws.{never_at_crossing}
use Rattle.clr_row_versions.proofs.VersionFits.{fit_one}
use Rattle.clr_row_versions.proofs.root_versions.RootVersions.may_be_served.Goals as goal

pub lies_on_shape-requires-clause-server : goal.lies_on_shape-requires-clause-server
lies_on_shape-requires-clause-server g c =
    let s = setting_in g.V.RowView.content c.args.self.now in
    first_sound s.rules (row_of c.args.server) [] (fit_one s c.requires.fit c.args.server (row_of c.args.server) c.requires.server refl)

pub lies_on_shape-requires-clause-shape : goal.lies_on_shape-requires-clause-shape
lies_on_shape-requires-clause-shape g c =
    let s = setting_in g.V.RowView.content c.args.self.now in
    first_sound s.rules (row_of c.args.subject) [] (fit_one s c.requires.fit c.args.subject (row_of c.args.subject) c.requires.subject refl)

pub returns-in-Crossing : goal.returns-in-Crossing
returns-in-Crossing g c told =
    never_at_crossing c.args.self.now.book.now c.args.rule _ _ _ (row_of c.args.server) (row_of c.args.subject) (c.rule.ensures
    ∙ ap Some c.in-Crossing.is) (c.lies_on_shape.ensures told)
