use Rattle.std.proofs.Common.{unwrap_or, ap, sym, ◌∙◌}
use Rattle.std.specs.declared.option.Option.{Option}
use Rattle.std.specs.Option.{option_copied, option_map}
use Rattle.clr_rows.specs.declared.cells.Change.{Change}
use Rattle.clr_rows.specs.Contents.{Content, row_at}
use Rattle.clr_rows.proofs.ChangeLemmas.{after_of, row-taken_over}
use Rattle.clr_contents.proofs.views.ChangedViewRowView.row.Goals as goal

pub returns-in-Some : goal.returns-in-Some
returns-in-Some c =
    let below = c.self.inside.below.now in
    let changed = c.self.inside.changed.now in
    let found = sym c.get.ensures.change ∙ ap option_copied c.in-Some.is in
    c.as_ref.ensures.value
    ∙ sym (row-taken_over below changed c.args.cell ∙ ap (λ (o : Option Change). unwrap_or (option_map after_of o) (row_at below c.args.cell)) found)
    ∙ ap (λ (m : Content). row_at m c.args.cell) c.self.view_is

pub returns-in-None : goal.returns-in-None
returns-in-None c =
    let below = c.self.inside.below.now in
    let changed = c.self.inside.changed.now in
    let found = sym c.get.ensures.change ∙ ap option_copied c.in-None.is in
    c.row.ensures
    ∙ sym (row-taken_over below changed c.args.cell ∙ ap (λ (o : Option Change). unwrap_or (option_map after_of o) (row_at below c.args.cell)) found)
    ∙ ap (λ (m : Content). row_at m c.args.cell) c.self.view_is
