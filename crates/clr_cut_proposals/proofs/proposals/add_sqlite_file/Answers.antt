use Rattle.std.proofs.Common.{◌∙◌, codes}
use Rattle.std.proofs.lemmas.Result.{on_ok_weaker}
use Rattle.clr_cut_proposals.specs.Proposals.{sqlite_file, titled_layer}
use Rattle.clr_cut_proposals.proofs.Pieces.{last_piece, pieces_5}
use Rattle.clr_cut_proposals.proofs.proposals.add_sqlite_file.Goals as goal

pub returns : goal.returns
unfolding sqlite_file
returns c =
    on_ok_weaker c.extend_from_slice-4.result
    (λ e. e ∙ rw (
      c.in_ok-add_titled_layer.ensures,
      c.in_ok-extend_from_slice-3.ensures.items,
      c.in_ok-extend_from_slice-2.ensures.items,
      c.in_ok-extend_from_slice.ensures.items,
      c.as_bytes.ensures.value,
      c.as_str.ensures,
    )
    (pieces_5 c.args.text.now.items
    (codes ".headers off\n.mode csv\n.once ")
    c.args.table.now.name
    (codes ".csv\n")
    (titled_layer c.args.target.now c.args.table.now)
    (codes ";\n"))) (last_piece c.extend_from_slice-4.result _ _ _ c.extend_from_slice-4.ensures.items)
