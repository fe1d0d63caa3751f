use Rattle.std.proofs.Common.{◌∙◌, Some, append-nil, append_assoc, refl}
use Rattle.std.proofs.lemmas.Result.{on_ok_weaker}
use Rattle.std.specs.Prelude.{slice_get}
use Rattle.clr_cut_proposals.specs.Designs.{listed_text, new_row_text}
use Rattle.clr_cut_proposals.proofs.designs.add_brought.Goals as goal

pub returns-in-Some : goal.returns-in-Some
returns-in-Some c =
    let cell = c.args.cell in
    let tables = c.args.schema.now in
    on_ok_weaker c.add_new_row_at.result
    (λ e. e ∙ rw (c.in-Some.is, c.in_ok-add_listed.ensures)
    (append_assoc c.args.text.now.items (listed_text tables cell)
    (new_row_text c.args.target.now cell (Some c.in-Some.row.now) (slice_get tables cell.table)))) c.add_new_row_at.ensures

pub returns-in-None : goal.returns-in-None
returns-in-None c = c.in_ok-add_listed.ensures ∙ rw (c.in-None.is, append-nil) refl
