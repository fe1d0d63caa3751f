use Rattle.std.proofs.Common.{◌∙◌, ◌++◌, ap, map, sym}
use Rattle.std.specs.Str.{is_utf8}
use Rattle.csv.specs.Records.{Row, fields_of}
use Rattle.csv.specs.Writing.{default_writer, row_text}
use Rattle.clr_records.specs.Writing.{written_by}
use Rattle.clr_skipped_records.proofs.SplitLemmas.{text_made}
use Rattle.clr_skipped_records.proofs.sound_records.sound_text.Goals as goal

pub returns-then-is_text : goal.returns-then-is_text
returns-then-is_text c =
    let headed = c.in_ok-add_record.ensures.written
    ∙ ap (λ (row : Row). written_by c.in_ok-writer.writer ++ row_text default_writer (fields_of row)) c.as_byte_record.ensures in
    text_made (fields_of c.args.header.now) c.args.faults.now (map fields_of c.args.records.now) _ _ _ c.in_ok-text.text.items
    c.in_ok-writer.ensures.written headed c.in_ok-add_sound.ensures.written c.in_ok-text.ensures
    (ap is_utf8 (sym c.as_slice.ensures.value) ∙ sym c.is_text.ensures ∙ c.if-is_text.true)
