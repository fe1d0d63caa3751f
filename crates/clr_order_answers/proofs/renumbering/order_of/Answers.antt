use Rattle.std.proofs.lemmas.Option.{slice_get-get_or}
use Rattle.clr_order_search.proofs.Rests.{has_at}
use Rattle.clr_order_answers.proofs.renumbering.order_of.Goals as goal

pub bounds-list-place : goal.bounds-list-place
bounds-list-place c = c.requires _ (has_at c.args.places.now c.loop-place.place-index _
    (slice_get-get_or c.args.places.now c.loop-place.place-index 0 c.loop-place-test.true))
