use Rattle.std.proofs.Common.{codes, map}
use Rattle.std.specs.Prelude.{string_bytes}
use Rattle.std.proofs.lemmas.Result.{on_ok_weaker}
use Rattle.clr_phrases.specs.Places.{place_text}
use Rattle.clr_work_orders.specs.Actions.{other_text, piece_text}
use Rattle.clr_work_orders.proofs.RemedyLemmas.{behind_four}
use Rattle.clr_work_orders.proofs.actions.add_split.Goals as goal

pub returns : goal.returns
returns c =
    let tables = c.args.schema.now in
    let names = map (λ name. name.now) c.args.names.now in
    let split = c.args.split.now in
    on_ok_weaker c.add_other.result (λ last. behind_four (string_bytes c.args.text.now) (codes "with both split at ") (place_text split.place)
    (piece_text tables names split.first) (other_text tables names split.other) _ _ _ _ c.in_ok-push_str.ensures.bytes c.in_ok-write.ensures.bytes
    c.in_ok-add_piece.ensures last) c.add_other.ensures
