use Rattle.std.proofs.Common.{subst}
use Rattle.clr_rows.specs.Held.{Held}
use Rattle.clr_row_versions.specs.Versions.{row_of}
use Rattle.clr_row_versions.proofs.VersionFits.{fit_one}
use Rattle.clr_cut_rows.specs.Searches.{AreNearCells, setting_in}
use Rattle.clr_cut_rows.proofs.SearchLemmas.{left_told, right_told}
use Rattle.clr_cut_rows.proofs.cut_rows.CutRows.may_be_touched.Goals as goal

pub cells_near-requires-clause-fit : goal.cells_near-requires-clause-fit
cells_near-requires-clause-fit g c = fit_one (setting_in g.V.RowView.content c.args.self.now) c.requires.ready.fit c.args.version _ c.requires.at
    c.as_held.ensures

pub returns-then-is_touching : goal.returns-then-is_touching
returns-then-is_touching g c = left_told c.is_touching.result c.if-is_touching.true c.is_touching.ensures

pub returns : goal.returns
returns g c =
    let s = setting_in g.V.RowView.content c.args.self.now in
    right_told c.is_touching.result c.is_near_touching.result c.if-is_touching.false c.is_touching.ensures
    (c.is_near_touching.ensures (row_of c.args.version)
    (subst (λ (r : Held). AreNearCells s c.args.rule r c.in_ok-near.near) c.as_held.ensures c.in_ok-near.ensures))
