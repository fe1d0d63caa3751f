use Rattle.clr_rows.specs.Held.{held_of}
use Rattle.clr_cut_rows.specs.Searches.{aim_of, setting_in}
use Rattle.clr_cut_passes.proofs.OfficeLemmas.{one_taken}
use Rattle.clr_cut_passes.proofs.counts.PassCounts.note_row.Goals as goal

pub returns-clause-counts : goal.returns-clause-counts
returns-clause-counts g c = one_taken (aim_of c.args.cut.now) (setting_in g.V.RowView.content c.args.cut.now) (held_of c.args.held) c.in_ok-standing.standing
    c.args.self.now c.note.new.self c.in_ok-standing.ensures c.note.ensures
