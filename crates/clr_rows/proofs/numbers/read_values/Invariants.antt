use Rattle.std.proofs.Common.{◌≡◌, true, take}
use Rattle.std.specs.List.{list_all}
use Rattle.clr_rows.specs.Schemas.{is_number}
use Rattle.clr_rows.proofs.numbers.read_values.Given as goal

-- the numbers so far are within 64 bits
abbrev pub invariant-loop-value : goal.invariant-loop-value
invariant-loop-value l = list_all is_number (take l.value-index l.values) ≡ true
