use Rattle.std.proofs.Common.{subst}
use Rattle.clr_row_versions.specs.RootVersions.{setting_in}
use Rattle.clr_row_versions.specs.Versions.{IsAtIfAny}
use Rattle.clr_row_versions.proofs.VersionFits.{fit_three}
use Rattle.clr_row_versions.proofs.root_versions.RootVersions.serves_if_any.Goals as goal

pub serves-requires-clause-fit : goal.serves-requires-clause-fit
serves-requires-clause-fit g c =
    let s = setting_in g.V.RowView.content c.args.self.now in
    fit_three s c.requires.fit c.args.first c.in-Some.server c.args.second _ _ _ c.requires.first (subst (IsAtIfAny s) c.in-Some.is c.requires.server)
    c.requires.second
    c.as_held.ensures c.as_held-in-Some.ensures c.held_if_any.ensures
