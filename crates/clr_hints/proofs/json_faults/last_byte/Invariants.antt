use Rattle.std.proofs.Common.{◌≡◌, take}
use Rattle.clr_hints.specs.JsonFaults.{last_byte}
use Rattle.clr_hints.proofs.json_faults.last_byte.Given as goal

-- the last byte so far that is no white space
abbrev pub invariant-loop-byte : goal.invariant-loop-byte
invariant-loop-byte l = l.last ≡ last_byte (take l.byte-index l.text)
