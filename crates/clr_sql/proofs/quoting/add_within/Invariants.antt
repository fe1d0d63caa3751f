use Rattle.std.proofs.Common.{◌≡◌, ◌++◌, take}
use Rattle.std.specs.List.{flat_map}
use Rattle.clr_sql.specs.Quoting.{quoted_byte}
use Rattle.clr_sql.proofs.quoting.add_within.Given as goal

-- the bytes so far are added
abbrev pub invariant-loop-byte : goal.invariant-loop-byte
invariant-loop-byte l = l.text.items ≡ l.initial.text.items ++ flat_map (quoted_byte l.quote) (take l.byte-index l.words)
