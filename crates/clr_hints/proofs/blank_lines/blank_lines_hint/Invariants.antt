use Rattle.std.proofs.Common.{◌≡◌, drop, length}
use Rattle.clr_hints.specs.BlankLines.{has_blank_line}
use Rattle.clr_hints.proofs.BlankLemmas.{ends_blank}
use Rattle.clr_hints.proofs.blank_lines.blank_lines_hint.Given as goal

-- a blank line stands in the text where one ends in the rest of it
abbrev pub invariant-loop-byte : goal.invariant-loop-byte
invariant-loop-byte l = record {
  whole : l.byte-index-end ≡ length l.text;
  rest : has_blank_line l.text ≡ ends_blank l.is_line_begun (drop l.byte-index l.text);
}
