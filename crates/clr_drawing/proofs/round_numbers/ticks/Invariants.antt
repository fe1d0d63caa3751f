use Rattle.std.proofs.Common.{◌≡◌}
use Rattle.clr_drawing.specs.Ticks.{first_ticks}
use Rattle.clr_drawing.proofs.round_numbers.ticks.Given as goal

-- the ticks so far
abbrev pub invariant-loop-number : goal.invariant-loop-number
invariant-loop-number l = l.list.items ≡ first_ticks l.fn.low l.fn.high l.fn.step l.number
