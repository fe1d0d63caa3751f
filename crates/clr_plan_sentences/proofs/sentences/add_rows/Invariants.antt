use Rattle.std.proofs.Common.{◌≡◌, ◌++◌, string_bytes, take}
use Rattle.std.specs.List.{flat_map}
use Rattle.clr_plan_sentences.specs.Sentences.{row_lines}
use Rattle.clr_plan_sentences.proofs.sentences.add_rows.Given as goal

-- the lines of the rows so far
abbrev pub invariant-loop-row : goal.invariant-loop-row
invariant-loop-row l = string_bytes l.text ≡ string_bytes l.initial.text ++ flat_map row_lines (take l.row-index l.rows)
