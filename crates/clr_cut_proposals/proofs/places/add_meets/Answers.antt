use Rattle.std.proofs.Common.{◌∙◌, append_assoc, codes}
use Rattle.std.proofs.lemmas.Result.{on_ok_weaker}
use Rattle.clr_cut_proposals.proofs.Pieces.{last_piece}
use Rattle.clr_cut_proposals.proofs.places.add_meets.Goals as goal

pub returns-in_ok-extend_from_slice-in-PostGis : goal.returns-in_ok-extend_from_slice-in-PostGis
returns-in_ok-extend_from_slice-in-PostGis c =
    let added = c.extend_from_slice-in-PostGis in
    on_ok_weaker added.result
    (λ e. e ∙ rw (c.in-PostGis.is, c.in_ok-extend_from_slice-in-PostGis.ensures.items)
    (append_assoc c.args.text.now.items (codes " AND m.\"WKT\" && ") c.args.around.now)) (last_piece added.result _ _ _ added.ensures.items)
