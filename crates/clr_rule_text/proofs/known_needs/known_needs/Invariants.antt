use Rattle.std.proofs.Common.{◌≡◌, drop}
use Rattle.clr_readings.proofs.Fronts.{with_front}
use Rattle.clr_rule_text.specs.Known.{known_needs}
use Rattle.clr_rule_text.proofs.known_needs.known_needs.Given as goal

-- the needs read so far, and then those of the rules that are left, are what is meant
abbrev pub invariant-loop-number : goal.invariant-loop-number
invariant-loop-number l =
    with_front l.all.items (known_needs l.schema l.number (drop l.number l.book) (drop l.number l.names)) ≡ known_needs l.schema 0 l.book l.names
