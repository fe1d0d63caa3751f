use Rattle.std.proofs.Common.{◌∙◌, codes, FitsSigned, rules, w64}
use Rattle.std.proofs.lemmas.Int.{to_z-of_z}
use Rattle.std.proofs.lemmas.Result.{on_ok_weaker}
use Rattle.clr_cut_proposals.specs.Designs.{cell_in}
use Rattle.clr_cut_proposals.specs.Searches.{except_found, into_found}
use Rattle.clr_sql.specs.Conditions.{key_condition}
use Rattle.clr_sql.specs.Quoting.{quoted_name}
use Rattle.clr_cut_proposals.proofs.Pieces.{pieces_6}
use Rattle.clr_cut_proposals.proofs.designs.add_cell_in.Goals as goal

pub returns : goal.returns
unfolding cell_in
returns c =
    let fits : FitsSigned w64 c.args.cell.key = search rules in
    on_ok_weaker c.add_except_found.result
    (λ e. e ∙ rw (
      c.in_ok-add_key_condition.ensures,
      c.in_ok-extend_from_slice-2.ensures.items,
      c.in_ok-add_name.ensures,
      c.in_ok-extend_from_slice.ensures.items,
      c.in_ok-add_into_found.ensures,
      c.as_str-name.ensures,
      to_z-of_z w64 c.args.cell.key fits,
    )
    (pieces_6 c.args.text.now.items
    (into_found c.args.table.now.name)
    (codes "\"KEY\" FROM ")
    (quoted_name c.args.table.now.name)
    (codes " WHERE ")
    (key_condition c.args.cell.key)
    (except_found c.args.table.now.name))) c.add_except_found.ensures
