use Rattle.std.proofs.Common.{◌≡◌, Bor, Option, Some, None, refl, is_some, unwrap_or, sym, ap, ◌∙◌}
use Rattle.std.specs.Option.{option_map, option_copied}
use Rattle.clr_rows.specs.declared.rows.Row.{Row}
use Rattle.clr_rows.specs.declared.cells.Change.{Change}
use Rattle.clr_rows.specs.Contents.{row_at}
use Rattle.clr_rows.proofs.ChangeLemmas.{row-taken_over, after_of}
use Rattle.clr_change.proofs.staging.has_row.Goals as goal

pub returns-in-Some : goal.returns-in-Some
returns-in-Some g c =
    let row = row_at (g.V.RowView.content c.args.view.now) c.args.cell in
    c.is_some.ensures
    ∙ ap (λ (found : Option Change). is_some (unwrap_or (option_map after_of found) row)) c.in-Some.ensures.change
    ∙ ap (λ (r : Option Row). is_some r) (sym (row-taken_over (g.V.RowView.content c.args.view.now) c.args.staged.now c.args.cell))

pub returns-in-None : goal.returns-in-None
returns-in-None g c =
    let row = row_at (g.V.RowView.content c.args.view.now) c.args.cell in
    c.is_some-in-None.ensures ∙ same_test c.row.result ∙ ap (λ (r : Option Row). is_some r) c.row.ensures
    ∙ ap (λ (found : Option Change). is_some (unwrap_or (option_map after_of found) row)) c.in-None.ensures.change
    ∙ ap (λ (r : Option Row). is_some r) (sym (row-taken_over (g.V.RowView.content c.args.view.now) c.args.staged.now c.args.cell))
  where
    same_test : (found : Option (Bor Row)) → is_some found ≡ is_some (option_copied found)
    same_test None = refl
    same_test (Some x) = refl
