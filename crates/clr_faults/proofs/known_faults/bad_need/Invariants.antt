use Rattle.std.proofs.Common.{◌≡◌, drop}
use Rattle.clr_faults.specs.KnownFaults.{first_bad_need}
use Rattle.clr_faults.proofs.known_faults.bad_need.Given as goal

-- the first name of the other rules that is no need is that of all
abbrev pub invariant-loop-number : goal.invariant-loop-number
invariant-loop-number l =
    first_bad_need l.schema l.number (drop l.number l.book) (drop l.number l.names) ≡ first_bad_need l.schema 0 l.book l.names
