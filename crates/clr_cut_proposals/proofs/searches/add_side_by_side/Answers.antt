use Rattle.std.proofs.Common.{◌∙◌, codes}
use Rattle.std.proofs.lemmas.Result.{on_ok_weaker}
use Rattle.clr_cut_proposals.specs.RoleModels.{table_of}
use Rattle.clr_cut_proposals.specs.Searches.{side_by_side}
use Rattle.clr_sql.specs.Quoting.{quoted_name}
use Rattle.clr_cut_proposals.proofs.Pieces.{last_piece, pieces_5}
use Rattle.clr_cut_proposals.proofs.searches.add_side_by_side.Goals as goal

pub returns : goal.returns
unfolding side_by_side
returns c =
    on_ok_weaker c.extend_from_slice-3.result
    (λ e. e ∙ rw (
      c.in_ok-add_name.ensures,
      c.in_ok-extend_from_slice-2.ensures.items,
      c.in_ok-add_temporary.ensures,
      c.in_ok-extend_from_slice.ensures.items,
      c.prefix.ensures c.args.from.now,
    )
    (pieces_5 c.args.text.now.items
    (codes "m.\"KEY\" FROM ")
    (quoted_name (table_of c.args.versions c.args.from.now))
    (codes " AS v, ")
    (quoted_name c.args.table.now)
    (codes " AS m WHERE 1 = 1"))) (last_piece c.extend_from_slice-3.result _ _ _ c.extend_from_slice-3.ensures.items)
