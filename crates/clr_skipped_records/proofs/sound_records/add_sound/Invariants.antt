use Rattle.std.proofs.Common.{◌≤◌}
use Rattle.clr_records.specs.Writing.{IsBetween, written_by}
use Rattle.clr_skipped_records.proofs.WalkLemmas.{HasWritten}
use Rattle.clr_skipped_records.proofs.sound_records.add_sound.Given as goal

-- the records without a fault so far are written
abbrev pub invariant-loop-i : goal.invariant-loop-i
invariant-loop-i l = record {
  between : IsBetween l.writer;
  small : l.next ≤ l.i;
  written : HasWritten l.faults l.records (written_by l.initial.writer) (written_by l.writer) l.next l.i;
}
