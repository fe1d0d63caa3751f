use Rattle.std.proofs.Common.{◌∙◌, codes}
use Rattle.std.proofs.lemmas.Result.{on_ok_weaker}
use Rattle.clr_sql.specs.Quoting.{quoted_name}
use Rattle.clr_cut_proposals.specs.Proposals.{if_found}
use Rattle.clr_cut_proposals.specs.Searches.{found_table}
use Rattle.clr_cut_proposals.proofs.Pieces.{last_piece, pieces_3}
use Rattle.clr_cut_proposals.proofs.proposals.add_if_found.Goals as goal

pub returns : goal.returns
unfolding if_found
returns c =
    on_ok_weaker c.extend_from_slice-2.result
    (λ e. e ∙ rw (c.in_ok-add_temporary.ensures, c.in_ok-extend_from_slice.ensures.items)
    (pieces_3 c.args.text.now.items (codes " WHERE \"KEY\" IN (SELECT \"KEY\" FROM ") (quoted_name (found_table c.args.table.now)) (codes ")")))
    (last_piece c.extend_from_slice-2.result _ _ _ c.extend_from_slice-2.ensures.items)
