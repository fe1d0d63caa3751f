use Rattle.std.proofs.Common.{◌∙◌, codes}
use Rattle.std.proofs.lemmas.Result.{on_ok_weaker}
use Rattle.clr_cut_proposals.specs.Searches.{except_found, filter_text, into_found, is_wide_text, wide_rows_text}
use Rattle.clr_rows.specs.Schemas.{name_of_table}
use Rattle.clr_sql.specs.Quoting.{quoted_name}
use Rattle.clr_cut_proposals.proofs.Pieces.{pieces_7}
use Rattle.clr_cut_proposals.proofs.searches.add_wide_rows_of.Goals as goal

pub returns : goal.returns
unfolding wide_rows_text
returns c =
    on_ok_weaker c.add_except_found.result
    (λ e. e ∙ rw (
      c.in_ok-add_filter.ensures,
      c.in_ok-add_is_wide.ensures,
      c.in_ok-extend_from_slice-2.ensures.items,
      c.in_ok-add_name.ensures,
      c.in_ok-extend_from_slice.ensures.items,
      c.in_ok-add_into_found.ensures,
      c.name_of_table-table.ensures.value,
    )
    (pieces_7 c.args.text.now.items
    (into_found (name_of_table c.args.schema.now c.args.side.now.table))
    (codes "m.\"KEY\" FROM ")
    (quoted_name (name_of_table c.args.schema.now c.args.side.now.table))
    (codes " AS m WHERE ")
    (is_wide_text c.args.target.now.dialect)
    (filter_text c.args.schema.now (codes "m") c.args.side.now)
    (except_found (name_of_table c.args.schema.now c.args.side.now.table)))) c.add_except_found.ensures
