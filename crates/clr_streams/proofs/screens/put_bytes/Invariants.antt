use Rattle.std.proofs.Common.{◌≡◌, ◌++◌, ℕ, List, true, drop}
use Rattle.std.specs.Io.KnownBytes.{Appends}
use Rattle.clr_streams.specs.Shown.{shown, shown_behind}
use Rattle.clr_streams.proofs.screens.put_bytes.Given as goal

-- what went out, with what is shown of the rest behind the last two bytes
abbrev pub invariant-loop-byte : goal.invariant-loop-byte
invariant-loop-byte g l = record {
  went : (out : List ℕ) × Appends (g.W.Sink.contents l.fn.below) (g.W.Sink.contents l.below) out
      × (out ++ shown_behind true l.first l.second (drop l.byte-index l.text) ≡ shown true l.text);
  goes_on : g.W.Sink.failed l.below ≡ g.W.Sink.failed l.fn.below;
}
