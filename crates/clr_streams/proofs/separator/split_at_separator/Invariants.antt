use Rattle.std.proofs.Common.{◌≡◌, ◌-◌, ◌≤◌, length, take, drop}
use Rattle.clr_streams.specs.Separator.{around_separator}
use Rattle.clr_streams.proofs.Lines.{with_front}
use Rattle.clr_streams.proofs.separator.split_at_separator.Given as goal

abbrev pub invariant-loop-start : goal.invariant-loop-start
invariant-loop-start l = record {
  within : l.start ≤ length l.text;
  so_far : with_front (take l.start l.text) (around_separator (drop l.start l.text)) ≡ around_separator l.text;
}

abbrev pub decreases-loop-start : goal.decreases-loop-start
decreases-loop-start l = length l.text - l.start
