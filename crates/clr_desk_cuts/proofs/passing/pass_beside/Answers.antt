use Rattle.std.proofs.Common.{◌≡◌, ◌∙◌, ℕ, List, ap, inl, refl, subst, sym}
use Rattle.std.proofs.lemmas.Result.{err_from_is_err_and}
use Rattle.clr_needs.specs.Settings.{Setting}
use Rattle.clr_rows.specs.Contents.{Content}
use Rattle.clr_rows.specs.declared.tables.TableDef.{TableDef}
use Rattle.clr_rules.specs.Books.{FitsBook}
use Rattle.clr_rules.specs.declared.rules.Rule.{Rule}
use Rattle.clr_cut_rows.specs.Searches.{model_of}
use Rattle.clr_layer_streams.specs.declared.streams.LayerStream.{LayerStream}
use Rattle.clr_layer_streams.specs.Sources.{bytes_of}
use Rattle.clr_cut_streams.specs.declared.told.Told.{Told}
use Rattle.clr_cut_streams.proofs.Going.{told_on}
use Rattle.clr_desk_cuts.specs.Inquiries.{asked_by}
use Rattle.clr_desk_cuts.proofs.PassLemmas.{ended_if, no_header, passed_if}
use Rattle.clr_desk_cuts.proofs.passing.pass_beside.Goals as goal

pub returns-in_err-stream-clause-fault : goal.returns-in_err-stream-clause-fault
returns-in_err-stream-clause-fault g c =
    let p = err_from_is_err_and c.from_residual.result c.from_residual.ensures.1 in
    rw (p.1, p.2)
    (no_header (asked_by c.args.inquiry.now) (bytes_of g.R.Read.remaining c.args.source.now) _ _ c.in_err-stream.field-0.0
    (refl, refl, c.requires.writer, c.requires.notes) (rw c.schema-schema.ensures.value at c.in_err-stream.ensures.fault))

pub returns-in_err-stream-clause-source : goal.returns-in_err-stream-clause-source
returns-in_err-stream-clause-source g c =
    let p = err_from_is_err_and c.from_residual.result c.from_residual.ensures.1 in
    rw (p.1, p.2) (told_on LayerStream Told _ c.in_err-stream.field-0.0 c.in_err-stream.ensures.source)

pub returns-in_err-put_line-clause-fault : goal.returns-in_err-put_line-clause-fault
returns-in_err-put_line-clause-fault g c =
    let p = err_from_is_err_and c.from_residual-in_err-put_line.result c.from_residual-in_err-put_line.ensures.1 in
    rw (p.1, p.2, c.in_err-put_line.ensures.fault) (inl c.in_err-put_line.ensures.fails)

pub returns-in_err-header_line-clause-source : goal.returns-in_err-header_line-clause-source
returns-in_err-header_line-clause-source g c =
    let p = err_from_is_err_and c.from_residual-in_err-header_line.result c.from_residual-in_err-header_line.ensures.1 in
    rw (p.1, p.2) c.in_ok-stream.ensures.reading.unfailed

pub returns-in_err-put_line-clause-source : goal.returns-in_err-put_line-clause-source
returns-in_err-put_line-clause-source g c =
    let p = err_from_is_err_and c.from_residual-in_err-put_line.result c.from_residual-in_err-put_line.ensures.1 in
    rw (p.1, p.2, c.in_err-put_line.ensures.fault) c.in_ok-stream.ensures.reading.unfailed

pub pass_over-requires-clause-book : goal.pass_over-requires-clause-book
pass_over-requires-clause-book g c =
    let tables = c.args.inquiry.now.opened.now.office.schema in
    let book : (model_of (λ (rows : Content). rows) c.args.rows.now).rules ≡ c.args.inquiry.now.opened.now.office.book =
    ap (λ (s : Setting ℕ). s.rules) c.requires.setting in
    subst (λ (ts : List TableDef). FitsBook ts (model_of (λ (rows : Content). rows) c.args.rows.now).rules) (sym c.schema-schema.ensures.value)
    (subst (λ (rules : List Rule). FitsBook tables rules) (sym book) c.schema-schema.ensures.admitted.fit.book)

pub returns-clause-whole : goal.returns-clause-whole
returns-clause-whole g c =
    let header = rw (c.as_slice.ensures.value, c.in_ok-header_line.ensures) at c.in_ok-put_line.ensures.bytes in
    passed_if g.R.Read.remaining (bytes_of g.R.Read.remaining c.args.source.now) (λ (rows : Content). rows) (asked_by c.args.inquiry.now) _
    c.open.new.source c.in_ok-stream.stream c.args.inquiry.now.def.now
    (g.W.Sink.contents c.args.writer.now) (g.W.Sink.contents c.put_line.new.writer) (g.W.Sink.contents c.pass_over.new.writer)
    (g.N.Sink.contents c.args.notes.now) (g.N.Sink.contents c.pass_over.new.notes)
    (g.W.Sink.failed c.pass_over.new.writer) (g.N.Sink.failed c.pass_over.new.notes) c.pass_over.result c.pass_over.ensures.whole
    (record {
      aim = c.requires.aim;
      setting = c.requires.setting;
      listed = refl;
      tables = c.schema-schema.ensures.value;
    })
    (record {
      tables = c.in_ok-stream.ensures.schema ∙ c.schema-schema.ensures.value;
      table = c.in_ok-stream.ensures.table;
      rounded = c.in_ok-stream.ensures.rounded;
      begun = λ bytes known. c.in_ok-stream.ensures.begun bytes known;
    })
    c.requires.stands header

pub returns-clause-fault : goal.returns-clause-fault
returns-clause-fault g c =
    let header = rw (c.as_slice.ensures.value, c.in_ok-header_line.ensures) at c.in_ok-put_line.ensures.bytes in
    ended_if g.R.Read.remaining (bytes_of g.R.Read.remaining c.args.source.now) (λ (rows : Content). rows) (asked_by c.args.inquiry.now) _
    c.open.new.source c.in_ok-stream.stream c.args.inquiry.now.def.now
    (g.W.Sink.contents c.args.writer.now) (g.W.Sink.contents c.put_line.new.writer) (g.W.Sink.contents c.pass_over.new.writer)
    (g.N.Sink.contents c.args.notes.now) (g.N.Sink.contents c.pass_over.new.notes)
    (g.W.Sink.failed c.pass_over.new.writer) (g.N.Sink.failed c.pass_over.new.notes) _ c.pass_over.result c.pass_over.ensures.fault
    (record {
      aim = c.requires.aim;
      setting = c.requires.setting;
      listed = refl;
      tables = c.schema-schema.ensures.value;
    })
    (record {
      tables = c.in_ok-stream.ensures.schema ∙ c.schema-schema.ensures.value;
      table = c.in_ok-stream.ensures.table;
      rounded = c.in_ok-stream.ensures.rounded;
      begun = λ bytes known. c.in_ok-stream.ensures.begun bytes known;
    })
    c.requires.stands header
