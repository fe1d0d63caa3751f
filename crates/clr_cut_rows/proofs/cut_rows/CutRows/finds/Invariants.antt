use Rattle.clr_rows.specs.Held.{held_of}
use Rattle.clr_cut_rows.specs.Searches.{setting_in}
use Rattle.clr_cut_rows.proofs.SearchLemmas.{NoneUnder}
use Rattle.clr_cut_rows.proofs.cut_rows.CutRows.finds.Given as goal

-- the row is found under none of the rules so far
abbrev pub invariant-loop-rule : goal.invariant-loop-rule
invariant-loop-rule g l = NoneUnder l.self.aim (setting_in g.V.RowView.content l.self) (held_of l.held) l.rule
