use Rattle.std.proofs.Common.{◌≡◌, ◌≤◌, take}
use Rattle.std.specs.Prelude.{count_by}
use Rattle.clr_deltas.specs.Deltas.{is_stored_mark_of}
use Rattle.clr_deltas.proofs.stored_marks.count_marks_of.Given as goal

abbrev pub invariant-loop-mark : goal.invariant-loop-mark
invariant-loop-mark l = record {
  so_far : l.count ≡ count_by (is_stored_mark_of l.child) (take l.mark-index l.marks);
  few : l.count ≤ l.mark-index;
}
