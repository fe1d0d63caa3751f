use Rattle.std.proofs.Common.{◌≡◌, ◌++◌, replicate, string_bytes}
use Rattle.clr_hints.proofs.metres.shift_point.Given as goal

-- the zeros so far stand behind the digits
abbrev pub invariant-loop-written : goal.invariant-loop-written
invariant-loop-written l = string_bytes l.digits ≡ l.whole ++ l.decimals ++ replicate l._written 48
