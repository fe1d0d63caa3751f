use Rattle.std.proofs.Common.{◌≡◌, ◌-◌, ◌+◌, false, vec_len, length, ◌<◌}
use Rattle.std.specs.Io.KnownBytes.{Consumes}
use Rattle.clr_process_io.specs.declared.reading.TheConstants.{MOST_INPUT_BYTES}
use Rattle.clr_process_io.proofs.reading.read_input.Given as goal

abbrev pub invariant-loop-buffer : goal.invariant-loop-buffer
invariant-loop-buffer g l = record {
  good : g.R.Source.failed l.reader ≡ false;
  so_far : Consumes (g.R.Source.remaining l.fn.reader) (g.R.Source.remaining l.reader) l.text.items;
  room : 0 < length l.buffer;
}

abbrev pub decreases-loop-buffer : goal.decreases-loop-buffer
decreases-loop-buffer g l = MOST_INPUT_BYTES + 1 - vec_len l.text
