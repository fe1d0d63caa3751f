use Rattle.std.proofs.Common.{subst, sym}
use Rattle.clr_row_versions.specs.Versions.{FitNewRows}
use Rattle.clr_row_versions.proofs.Searches.{sets_of}
use Rattle.clr_row_versions.proofs.VersionFits.{fit_new_rows}
use Rattle.clr_cut_rows.proofs.cut_rows.CutRows.new.Goals as goal

pub file_new_rows-requires : goal.file_new_rows-requires
file_new_rows-requires g c = record {
  fit = subst (λ refs. FitNewRows c.args.book.now (sets_of refs)) (sym c.in_ok-members.ensures)
      (fit_new_rows c.args.book.now (g.V.RowView.content c.args.root.now) (sets_of c.args.sets.items) c.requires.fit);
}
