use Rattle.clr_layer_text.specs.Wkt.{next_text}
use Rattle.clr_layer_text.proofs.Turns.{text_more}
use Rattle.clr_sql.proofs.shapes.add_others.Goals as goal

pub loop-place-preserved : goal.loop-place-preserved
loop-place-preserved c = text_more next_text c.args.places.now c.loop-place.place-index _ _ _ _ c.loop-place-test.true c.loop-place.invariant
    c.in_ok-add_next.ensures
