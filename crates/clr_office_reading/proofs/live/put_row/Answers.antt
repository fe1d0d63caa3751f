use Rattle.std.proofs.Common.{is_some, sym, ap, ◌∙◌}
use Rattle.std.specs.FinMap as finite
use Rattle.std.proofs.lemmas.Bool.{false≢true}
use Rattle.clr_rows.specs.Contents.{row_at}
use Rattle.clr_rows.proofs.RowLemmas.{put_here}
use Rattle.clr_office_reading.proofs.PutBack.{put_back}
use Rattle.clr_office_reading.proofs.live.put_row.Goals as goal

-- where the cell has a row, putting another there doesn't fail
pub returns-in_err-put-in-Some-clause-err : goal.returns-in_err-put-in-Some-clause-err
returns-in_err-put-in-Some-clause-err c =
    let cell = c.in_ok-cell.cell in
    absurd (false≢true (c.in_err-put-in-Some.ensures.held
    (ap (λ m. is_some (row_at m cell)) c.in_ok-put.ensures.ok ∙ ap is_some (put_here c.args.sheet.now cell c.args.named.row))))

pub returns-clause-err : goal.returns-clause-err
returns-clause-err c =
    c.in_ok-put-in-Some.ensures.ok ∙ ap (λ m. finite.insert m c.in_ok-cell.cell c.in-Some.before) c.in_ok-put.ensures.ok
    ∙ put_back c.args.sheet.now c.in_ok-cell.cell c.args.named.row c.in-Some.before (sym c.in_ok-put.ensures.before ∙ c.in-Some.is)
