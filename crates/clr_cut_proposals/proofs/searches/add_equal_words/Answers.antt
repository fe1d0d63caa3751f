use Rattle.std.proofs.Common.{◌∙◌, codes}
use Rattle.std.proofs.lemmas.Result.{on_ok_weaker}
use Rattle.clr_rules.specs.declared.columns.Col.TheVariants.{At}
use Rattle.clr_sql.specs.Values.{value_text}
use Rattle.clr_cut_proposals.specs.Searches.{column_text, equal_words}
use Rattle.clr_cut_proposals.proofs.Pieces.{pieces_4}
use Rattle.clr_cut_proposals.proofs.searches.add_equal_words.Goals as goal

pub returns : goal.returns
unfolding equal_words
returns c =
    let literal = c.args.literal.now in
    on_ok_weaker c.add_value.result
    (λ e. e ∙ rw (c.in_ok-extend_from_slice-2.ensures.items, c.in_ok-add_column.ensures, c.in_ok-extend_from_slice.ensures.items)
    (pieces_4 c.args.text.now.items (codes " AND COALESCE(") (column_text c.args.schema.now c.args.row.now c.args.side.now (At literal.0))
    (codes ", '') = ") (value_text literal.1))) c.add_value.ensures
