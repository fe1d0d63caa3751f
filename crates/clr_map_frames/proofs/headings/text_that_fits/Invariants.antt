use Rattle.std.proofs.Common.{◌≡◌, ◌++◌, string_bytes}
use Rattle.std.specs.Str.Iter.{chars_rest}
use Rattle.clr_map_frames.proofs.headings.text_that_fits.Given as goal

-- the characters so far and the rest are the text
abbrev pub invariant-loop-character : goal.invariant-loop-character
invariant-loop-character l = string_bytes l.cut ++ chars_rest l.character-iterator ≡ l.text
