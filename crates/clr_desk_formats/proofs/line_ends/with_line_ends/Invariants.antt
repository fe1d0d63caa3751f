use Rattle.std.proofs.Common.{◌≡◌, take}
use Rattle.clr_desk_formats.specs.declared.line_ends.JsonState.TheVariants.{Between}
use Rattle.clr_desk_formats.specs.LineEnds.{lined_from}
use Rattle.clr_desk_formats.proofs.LineEnds.{last_of, place_of}
use Rattle.clr_desk_formats.proofs.line_ends.with_line_ends.Given as goal

-- the bytes so far have the ends of their lines; the place and the byte behind them are known
abbrev pub invariant-loop-byte : goal.invariant-loop-byte
invariant-loop-byte l = (l.lines.items ≡ lined_from Between 10 (take l.byte-index l.text)) × (l.place ≡ place_of Between (take l.byte-index l.text))
    × (l.before ≡ last_of 10 (take l.byte-index l.text))
