use Rattle.std.proofs.Common.{◌≡◌, ◌++◌, drop}
use Rattle.clr_streams.specs.Shown.{shown, shown_behind}
use Rattle.clr_streams.proofs.shown.show.Given as goal

-- what was made, with what is shown of the rest behind the last two bytes
abbrev pub invariant-loop-byte : goal.invariant-loop-byte
invariant-loop-byte l = l.made.items ++ shown_behind l.keeps_lines l.first l.second (drop l.byte-index l.text) ≡ shown l.keeps_lines l.text
