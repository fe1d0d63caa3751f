use Rattle.std.proofs.Common.{◌≡◌, take}
use Rattle.std.specs.Prelude.{count_by}
use Rattle.clr_map_marks.specs.Tables.{is_of_points}
use Rattle.clr_map_marks.proofs.grounds.tables_of_points.Given as goal

-- the tables of points so far are counted
abbrev pub invariant-loop-table : goal.invariant-loop-table
invariant-loop-table l = l.number ≡ count_by is_of_points (take l.table-index l.tables)
