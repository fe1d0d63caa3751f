use Rattle.std.proofs.Common.{◌≡◌, ◌++◌, length, map, string_bytes}
use denote.Text.{Utf8}
use denote.Shadow.{shadow}
use Rattle.clr_phrases.specs.Rows.{byte_on_one_line}
use Rattle.clr_phrases.proofs.rows.add_on_one_line.Given as goal

-- what was added, with the rest on one line
abbrev pub invariant-loop-line : goal.invariant-loop-line
invariant-loop-line l =
    shadow (Utf8 l.rest) × (string_bytes l.text ++ map byte_on_one_line l.rest ≡ string_bytes l.fn.text ++ map byte_on_one_line l.words)

abbrev pub decreases-loop-line : goal.decreases-loop-line
decreases-loop-line l = length l.rest
