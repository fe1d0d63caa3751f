use Rattle.clr_row_versions.proofs.Searches.{sets_of}
use Rattle.clr_cut_rows.proofs.NearLemmas.{new_near, old_near}
use Rattle.clr_cut_rows.proofs.cut_rows.CutRows.cells_near.Goals as goal

pub returns : goal.returns
returns g c =
    let cut = c.args.self.now in
    let root = g.V.RowView.content cut.root.now in
    let sets = sets_of cut.members.sets.items in
    record {
      old = old_near cut.book.now root sets c.args.rule (c.args.held.cell, c.args.held.row.now) c.requires.number
          (g.F.RowFinder.settled cut.finder.now) _ c.in_ok-old.ensures c.requires.ready.is_settled;
      new = new_near cut.book.now root sets c.args.rule (c.args.held.cell, c.args.held.row.now) c.requires.number
          (g.F.RowFinder.settled cut.new_rows) _ c.in_ok-new.ensures cut.filed;
    }
