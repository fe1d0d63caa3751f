use Rattle.std.proofs.Common.{◌∙◌, codes}
use Rattle.std.proofs.lemmas.Result.{on_ok_weaker}
use Rattle.clr_cut_proposals.specs.Proposals.{rows_text, shape_name}
use Rattle.clr_sql.specs.Quoting.{quoted_name}
use Rattle.clr_sql.specs.Relations.{column_name}
use Rattle.std.specs.List.{flat_map}
use Rattle.clr_cut_proposals.proofs.Pieces.{pieces_5}
use Rattle.clr_cut_proposals.proofs.proposals.add_rows.Goals as goal

pub returns : goal.returns
unfolding rows_text
returns c =
    on_ok_weaker c.add_name.result
    (λ e. e ∙ rw (
      c.in_ok-extend_from_slice-2.ensures.items,
      c.in_ok-add_shape_name.ensures,
      c.in_ok-add_columns.ensures,
      c.in_ok-extend_from_slice.ensures.items,
      c.as_str.ensures,
      c.as_slice.ensures,
    )
    (pieces_5 c.args.text.now.items
    (codes "SELECT \"KEY\"")
    (flat_map column_name c.args.table.now.columns)
    (shape_name c.args.table.now.shape)
    (codes " FROM ")
    (quoted_name c.args.table.now.name))) c.add_name.ensures
