use Rattle.std.proofs.Common.{◌≡◌, ◌++◌, map, take}
use Rattle.clr_records.specs.Writing.{IsBetween, records_text, written_by}
use Rattle.clr_cert.specs.Texts.{member_fields}
use Rattle.clr_cert.proofs.writing.add_members.Given as goal

-- the members so far are written
abbrev pub invariant-loop-name : goal.invariant-loop-name
invariant-loop-name l = record {
  between : IsBetween l.writer;
  written : written_by l.writer ≡ written_by l.initial.writer ++ records_text (map member_fields (take l.name-index l.members));
}
