use Rattle.std.proofs.Common.{◌∙◌, codes}
use Rattle.std.proofs.lemmas.Result.{on_ok_weaker}
use Rattle.clr_cut_proposals.specs.RoleModels.{role_of, table_of}
use Rattle.clr_cut_proposals.specs.Searches.{except_found, filter_text, into_found, near_text, search_text, side_by_side}
use Rattle.clr_rows.specs.Schemas.{name_of_table}
use Rattle.clr_cut_proposals.proofs.Pieces.{pieces_6}
use Rattle.clr_cut_proposals.proofs.searches.add_search.Goals as goal

pub returns : goal.returns
unfolding search_text
returns c =
    let tables = c.args.schema.now in
    let version = c.args.version in
    let row = c.args.row in
    let table = name_of_table tables row.side.now.table in
    let from = name_of_table tables version.side.now.table in
    on_ok_weaker c.add_except_found.result
    (λ e. e ∙ rw (
      c.in_ok-add_near.ensures,
      c.in_ok-add_filter-2.ensures,
      c.in_ok-add_filter.ensures,
      c.in_ok-add_side_by_side.ensures,
      c.in_ok-add_into_found.ensures,
      c.name_of_table-from.ensures.value,
      c.name_of_table-table.ensures.value,
    )
    (pieces_6 c.args.text.now.items
    (into_found table)
    (side_by_side (table_of c.args.versions from) table)
    (filter_text tables (codes "v") version.side.now)
    (filter_text tables (codes "m") row.side.now)
    (near_text c.args.target.now tables (role_of version) (role_of row))
    (except_found table))) c.add_except_found.ensures
