use Rattle.std.proofs.Common.{◌∙◌, append_assoc}
use Rattle.std.proofs.lemmas.Result.{on_ok_weaker}
use Rattle.clr_guarded_edits.proofs.Turns.{last_piece}
use Rattle.clr_guarded_edits.proofs.sql_texts.add_beginning.Goals as goal

pub returns-in_ok-extend_from_slice-in-PostGis : goal.returns-in_ok-extend_from_slice-in-PostGis
returns-in_ok-extend_from_slice-in-PostGis c =
    on_ok_weaker c.add_locks.result (λ e. e ∙ rw (c.in-PostGis.is, c.in_ok-extend_from_slice-in-PostGis.ensures.items) (simp append_assoc)) c.add_locks.ensures

pub returns-in-SpatiaLite : goal.returns-in-SpatiaLite
returns-in-SpatiaLite c =
    let added = c.extend_from_slice-in-SpatiaLite in
    rw c.in-SpatiaLite.is (last_piece added.result _ _ _ added.ensures.items)
