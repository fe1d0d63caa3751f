use Rattle.std.proofs.Common.{◌≡◌, ◌++◌, length, string_bytes}
use denote.Text.{Utf8}
use denote.Shadow.{shadow}
use Rattle.clr_plan_map.specs.Sentences.{one_line}
use Rattle.clr_plan_map.proofs.sentences.one_line.Given as goal

-- the line so far, with the rest on one line, is the whole
abbrev pub invariant-loop-part : goal.invariant-loop-part
invariant-loop-part l = shadow (Utf8 l.rest) × (string_bytes l.line ++ one_line l.rest ≡ one_line l.text)

abbrev pub decreases-loop-part : goal.decreases-loop-part
decreases-loop-part l = length l.rest
