use Rattle.std.proofs.Common.{◌≡◌, ◌+◌, drop}
use Rattle.clr_streams.proofs.Lines.{line_size}
use Rattle.clr_streams.proofs.separator.line_len.Given as goal

abbrev pub invariant-loop-i : goal.invariant-loop-i
invariant-loop-i l = line_size l.text ≡ l.i + line_size (drop l.i l.text)
