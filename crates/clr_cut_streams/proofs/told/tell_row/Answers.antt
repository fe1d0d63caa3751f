use Rattle.std.proofs.Common.{inl, inr}
use Rattle.std.proofs.lemmas.Result.{err_from_is_err_and}
use Rattle.clr_cut_rows.specs.Searches.{model_of}
use Rattle.clr_cut_streams.proofs.TellingOn.{one_fits}
use Rattle.clr_cut_streams.proofs.told.tell_row.Goals as goal

pub note_row-requires-clause-fit : goal.note_row-requires-clause-fit
note_row-requires-clause-fit g c =
    let cut = c.args.cut.now in
    one_fits cut.schema.now (model_of g.V.RowView.content cut.rows.now).rules (c.args.cell, c.args.row.now.row) c.requires.book c.requires.row

pub returns-clause-text : goal.returns-clause-text
returns-clause-text g c =
    rw (c.as_slice.ensures.value, c.in_ok-line_if_shown.ensures, c.is_shown-is_shown.ensures) at c.in_ok-put_line.ensures.bytes

pub returns-clause-notes : goal.returns-clause-notes
returns-clause-notes g c = rw (c.as_slice-2.ensures.value, c.in_ok-line_if_other.ensures) at c.in_ok-put_line-2.ensures.bytes

pub returns-clause-printed : goal.returns-clause-printed
returns-clause-printed g c = rw c.is_shown-is_shown.ensures at c.count_if-told.ensures

pub returns-in_err-put_line-clause-fault : goal.returns-in_err-put_line-clause-fault
returns-in_err-put_line-clause-fault g c =
    let p = err_from_is_err_and c.from_residual-in_err-put_line.result c.from_residual-in_err-put_line.ensures.1 in
    rw (p.1, p.2, c.in_err-put_line.ensures.fault) (inl c.in_err-put_line.ensures.fails)

pub returns-in_err-put_line-2-clause-fault : goal.returns-in_err-put_line-2-clause-fault
returns-in_err-put_line-2-clause-fault g c =
    let p = err_from_is_err_and c.from_residual-in_err-put_line-2.result c.from_residual-in_err-put_line-2.ensures.1 in
    rw (p.1, p.2, c.in_err-put_line-2.ensures.fault) (inr c.in_err-put_line-2.ensures.fails)
