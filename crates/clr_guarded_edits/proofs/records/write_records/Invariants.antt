use Rattle.std.proofs.Common.{◌≡◌, ◌++◌}
use Rattle.std.specs.List.{flat_map}
use Rattle.clr_lines.specs.Rows.{IsBetweenRows}
use Rattle.clr_records.specs.Writing.{written_by}
use Rattle.clr_guarded_edits.specs.Records.{change_lines, records_text}
use Rattle.clr_guarded_edits.proofs.records.write_records.Given as goal

-- the lines so far, with those of the changes that are left, are all of them
abbrev pub invariant-loop-cell : goal.invariant-loop-cell
invariant-loop-cell l = record {
  between : IsBetweenRows l.writer;
  lines : written_by l.writer ++ flat_map (change_lines l.schema) l.cell-iterator ≡ records_text l.schema l.old l.new;
}
