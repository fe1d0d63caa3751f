use Rattle.std.proofs.Common.{◌≡◌, ◌++◌, ◌<◌, ℕ, map, take}
use Rattle.std.specs.Prelude.{slice_index_or}
use Rattle.clr_cert.specs.declared.certificates.Entry.{Entry}
use Rattle.clr_records.specs.Writing.{IsBetween, records_text, written_by}
use Rattle.clr_cert.specs.Texts.{IsReadBackWhereNamed, entry_fields}
use Rattle.clr_cert.proofs.writing.add_entries.Given as goal

-- the entries so far are written, and each that the schema names is read back
abbrev pub invariant-loop-entry : goal.invariant-loop-entry
invariant-loop-entry l = record {
  between : IsBetween l.writer;
  written : written_by l.writer ≡ written_by l.initial.writer ++ records_text (map (entry_fields l.schema) (take l.entry-index l.entries));
  read_back : (k : ℕ) (d : Entry) → k < l.entry-index → IsReadBackWhereNamed l.schema (slice_index_or l.entries k d);
}
