use Rattle.std.proofs.Common.{◌≡◌, ◌++◌, length, string_bytes}
use denote.Text.{Utf8}
use denote.Shadow.{shadow}
use Rattle.clr_map_frames.proofs.headings.add_words_that_fit.Given as goal

-- the line so far and the rest are the line that was there and the text
abbrev pub invariant-loop-word : goal.invariant-loop-word
invariant-loop-word l = shadow (Utf8 l.rest) × (string_bytes l.line ++ l.rest ≡ string_bytes l.initial.line ++ l.text)

abbrev pub decreases-loop-word : goal.decreases-loop-word
decreases-loop-word l = length l.rest
