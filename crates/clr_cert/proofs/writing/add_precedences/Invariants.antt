use Rattle.std.proofs.Common.{◌≡◌, ◌++◌, map, take}
use Rattle.clr_records.specs.Writing.{IsBetween, records_text, written_by}
use Rattle.clr_cert.specs.Texts.{before_fields}
use Rattle.clr_cert.proofs.writing.add_precedences.Given as goal

-- the precedences so far are written
abbrev pub invariant-loop-precedence : goal.invariant-loop-precedence
invariant-loop-precedence l = record {
  between : IsBetween l.writer;
  written : written_by l.writer ≡ written_by l.initial.writer ++ records_text (map before_fields (take l.precedence-index l.precedences));
}
