use Rattle.std.proofs.Common.{◌≡◌, drop}
use Rattle.clr_faults.specs.KnownFaults.{first_bad_name}
use Rattle.clr_faults.proofs.known_faults.bad_name.Given as goal

-- the first of the other names that is no need is that of all
abbrev pub invariant-loop-at : goal.invariant-loop-at
invariant-loop-at l = first_bad_name l.schema l.rule l.at (drop l.at l.names) ≡ first_bad_name l.schema l.rule 0 l.names
