use Rattle.std.proofs.Common.{◌∙◌, ◌++◌, codes}
use Rattle.std.proofs.lemmas.Result.{on_ok_weaker}
use Rattle.clr_sql.specs.Quoting.{quoted_name}
use Rattle.clr_cut_proposals.specs.Proposals.{made_table}
use Rattle.clr_cut_proposals.proofs.Pieces.{last_piece, pieces_3}
use Rattle.clr_cut_proposals.proofs.proposals.add_made_table.Goals as goal

pub returns : goal.returns
unfolding made_table
returns c =
    on_ok_weaker c.extend_from_slice-2.result
    (λ e. e ∙ rw (c.in_ok-add_temporary.ensures, c.in_ok-extend_from_slice.ensures.items)
    (pieces_3 c.args.text.now.items (codes "CREATE TEMPORARY TABLE ") (quoted_name (c.args.prefix.now ++ c.args.name.now)) (codes " AS ")))
    (last_piece c.extend_from_slice-2.result _ _ _ c.extend_from_slice-2.ensures.items)
