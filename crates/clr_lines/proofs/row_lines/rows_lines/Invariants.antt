use Rattle.std.proofs.Common.{◌≡◌, ◌++◌}
use Rattle.std.specs.List.{flat_map}
use Rattle.csv.specs.Writing.{writer_pending, writer_under}
use Rattle.clr_lines.specs.Rows.{IsBetweenRows, row_line, rows_text}
use Rattle.clr_lines.proofs.row_lines.rows_lines.Given as goal

-- the lines so far, with those of the rows that are left, are all the lines
abbrev pub invariant-loop-cell : goal.invariant-loop-cell
invariant-loop-cell l = record {
  between : IsBetweenRows l.writer;
  lines : (writer_under l.writer).items ++ writer_pending l.writer ++ flat_map (row_line l.schema) l.cell-iterator ≡ rows_text l.schema l.sheet;
}
