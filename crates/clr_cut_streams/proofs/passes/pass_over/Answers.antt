use Rattle.std.proofs.Common.{◌∙◌, Option, SFits, Some, ap, is_some, of_z, rules, sym, to_z, to_z-of_z, w64}
use Rattle.std.proofs.lemmas.Result.{err_from_is_err_and}
use Rattle.clr_layer_text.specs.declared.rows.LayerRow.{LayerRow}
use Rattle.clr_layer_streams.specs.Streams.{form_of}
use Rattle.clr_cut_streams.specs.declared.told.Told.{Told}
use Rattle.clr_cut_streams.proofs.Going.{again, begun, cell_is, ends, fits_there, goes_on, told_of_row, told_on, unread, untold, without_key}
use Rattle.clr_cut_streams.proofs.TellingOn.{there_as_copied}
use Rattle.clr_cut_streams.proofs.passes.pass_over.Goals as goal

pub loop-init : goal.loop-init
loop-init g c =
    rw (c.new-told.ensures, c.new-seen.ensures)
    (begun g.R.Read.remaining g.V.RowView.content c.args.cut.now c.args.source.now c.args.stream.now
    (g.W.Sink.contents c.args.writer.now) (g.N.Sink.contents c.args.notes.now)
    (g.W.Sink.failed c.args.writer.now) (g.N.Sink.failed c.args.notes.now) c.requires.reading c.requires.first c.requires.writer c.requires.notes)

pub returns-in_err-row-clause-fault : goal.returns-in_err-row-clause-fault
returns-in_err-row-clause-fault g c =
    let p = err_from_is_err_and c.from_residual.result c.from_residual.ensures.1 in
    rw (p.1, p.2)
    (unread g.R.Read.remaining g.V.RowView.content c.args.cut.now c.args.source.now c.args.stream.now c.loop.source c.next_row.new.source c.loop.stream
    c.loop.seen _ c.loop.told c.next_row.new.self.number c.in_err-row.field-0.0 c.loop.invariant c.next_row.ensures.number c.in_err-row.ensures.fault)

pub returns-in_err-row-clause-source : goal.returns-in_err-row-clause-source
returns-in_err-row-clause-source g c =
    let p = err_from_is_err_and c.from_residual.result c.from_residual.ensures.1 in
    rw (p.1, p.2) (told_on (Option LayerRow) Told _ c.in_err-row.field-0.0 c.in_err-row.ensures.source)

pub returns-in_default-clause-whole : goal.returns-in_default-clause-whole
returns-in_default-clause-whole g c =
    ends g.R.Read.remaining g.V.RowView.content c.args.cut.now c.args.source.now c.args.stream.now c.loop.source c.loop.stream c.next_row.new.self
    c.loop.seen _ c.loop.told c.loop.invariant c.next_row.ensures.form (λ bytes rows h. rw c.in_default.is at (c.in_ok-row.ensures.row bytes rows h))

pub returns-in_default-key-clause-fault : goal.returns-in_default-key-clause-fault
returns-in_default-key-clause-fault g c =
    without_key g.R.Read.remaining g.V.RowView.content c.args.cut.now c.args.source.now c.args.stream.now c.loop.source c.next_row.new.source
    c.loop.stream c.next_row.new.self c.loop.seen _ c.loop.told
    c.in-Some.row c.number.result c.loop.invariant c.next_row.ensures.form c.next_row.ensures.number
    (λ bytes rows h. rw c.in-Some.is at (c.in_ok-row.ensures.row bytes rows h)) c.in_default-key.is c.number.ensures

pub returns-then-is_some-clause-fault : goal.returns-then-is_some-clause-fault
returns-then-is_some-clause-fault g c =
    let fits : SFits w64 c.in-Some-key.key = search rules in
    let key = to_z w64 (of_z w64 c.in-Some-key.key) in
    let keyed = c.in-Some-key.is ∙ ap Some (sym (to_z-of_z fits)) in
    let there = ap is_some (sym c.get.ensures) ∙ there_as_copied c.get.result ∙ sym c.is_some.ensures ∙ c.if-is_some.true in
    again g.R.Read.remaining g.V.RowView.content c.args.cut.now c.args.source.now c.args.stream.now c.loop.source c.next_row.new.source
    c.loop.stream c.next_row.new.self c.loop.seen _ c.loop.told
    c.in-Some.row c.number-then-is_some.result (record { table = c.table-table.result; key = key }) c.loop.invariant
    c.next_row.ensures.form c.next_row.ensures.number (λ bytes rows h. rw c.in-Some.is at (c.in_ok-row.ensures.row bytes rows h))
    (cell_is c.table-table.result (form_of c.args.stream.now).table key c.in-Some.row c.table-table.ensures keyed) there
    c.number-then-is_some.ensures

pub tell_row-requires-clause-row : goal.tell_row-requires-clause-row
tell_row-requires-clause-row g c =
    let fits : SFits w64 c.in-Some-key.key = search rules in
    let key = to_z w64 (of_z w64 c.in-Some-key.key) in
    let keyed = c.in-Some-key.is ∙ ap Some (sym (to_z-of_z fits)) in
    fits_there (form_of c.args.stream.now) (form_of c.loop.stream) c.args.cut.now.schema.now c.in-Some.row
    (record { table = c.table-table.result; key = key }) (rw c.in-Some.is at c.in_ok-row.ensures.fits) c.loop.invariant.form c.requires.schema
    (cell_is c.table-table.result (form_of c.args.stream.now).table key c.in-Some.row c.table-table.ensures keyed)

pub returns-in_err-standing-clause-fault : goal.returns-in_err-standing-clause-fault
returns-in_err-standing-clause-fault g c =
    let p = err_from_is_err_and c.from_residual-in_err-standing.result c.from_residual-in_err-standing.ensures.1 in
    rw (p.1, p.2)
    (untold g.R.Read.remaining g.V.RowView.content c.args.cut.now c.args.source.now c.args.stream.now _ _ c.in_err-standing.field-0.0
    c.in_err-standing.ensures.fault)

pub returns-in_err-standing-clause-source : goal.returns-in_err-standing-clause-source
returns-in_err-standing-clause-source g c =
    let p = err_from_is_err_and c.from_residual-in_err-standing.result c.from_residual-in_err-standing.ensures.1 in
    rw (p.1, p.2) (told_of_row Told _ _ _ c.in_err-standing.field-0.0 c.in_ok-row.ensures.reading.unfailed c.in_err-standing.ensures.fault)

pub returns-in_err-note_cell-clause-source : goal.returns-in_err-note_cell-clause-source
returns-in_err-note_cell-clause-source g c =
    let p = err_from_is_err_and c.from_residual-in_err-note_cell.result c.from_residual-in_err-note_cell.ensures.1 in
    rw (p.1, p.2) c.in_ok-row.ensures.reading.unfailed

pub returns-clause-source : goal.returns-clause-source
returns-clause-source g c = c.loop.invariant.going.unfailed

pub loop-preserved : goal.loop-preserved
loop-preserved g c =
    let fits : SFits w64 c.in-Some-key.key = search rules in
    let key = to_z w64 (of_z w64 c.in-Some-key.key) in
    let keyed = c.in-Some-key.is ∙ ap Some (sym (to_z-of_z fits)) in
    let row = c.in-Some.row in
    let told = c.in_ok-standing.ensures in
    goes_on g.R.Read.remaining g.V.RowView.content c.args.cut.now c.args.source.now c.args.stream.now c.loop.source c.next_row.new.source
    c.loop.stream c.next_row.new.self c.loop.seen c.note_cell.new.seen
    (g.W.Sink.contents c.args.writer.now) (g.W.Sink.contents c.loop.writer) (g.W.Sink.contents c.tell_row.new.writer)
    (g.N.Sink.contents c.args.notes.now) (g.N.Sink.contents c.loop.notes) (g.N.Sink.contents c.tell_row.new.notes)
    (g.W.Sink.failed c.loop.writer) (g.W.Sink.failed c.tell_row.new.writer) (g.N.Sink.failed c.loop.notes) (g.N.Sink.failed c.tell_row.new.notes)
    c.loop.told c.tell_row.new.told row c.in_ok-standing.standing (record { table = c.table-table.result; key = key }) c.loop.invariant
    c.in_ok-row.ensures.reading c.next_row.ensures.form c.next_row.ensures.number
    (λ bytes rows h. rw c.in-Some.is at (c.in_ok-row.ensures.row bytes rows h))
    (ap is_some c.in-Some-key.is)
    (cell_is c.table-table.result (form_of c.args.stream.now).table key row c.table-table.ensures keyed)
    (record {
      is_new = ap is_some (sym c.get.ensures) ∙ there_as_copied c.get.result ∙ sym c.is_some.ensures ∙ c.if-is_some.false;
      stands = told.standing;
      counted = told.counts;
      text_out = told.text;
      notes_out = told.notes;
      printed = told.printed;
      is_noted = c.in_ok-note_cell.ensures;
    })
    told.goes_on
