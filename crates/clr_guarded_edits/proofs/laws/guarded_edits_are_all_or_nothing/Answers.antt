use Rattle.clr_guarded_edits.proofs.RunLemmas.{nothing_else, over_old_rows, rows_that_came, stale_row, taken_key, written_law}
use Rattle.clr_guarded_edits.proofs.laws.guarded_edits_are_all_or_nothing.Goals as goal

pub returns : goal.returns
returns c = record {
  written = written_law;
  over_old_rows = over_old_rows;
  nothing_else = nothing_else;
  stale = stale_row;
  taken = taken_key;
  came = rows_that_came;
}
