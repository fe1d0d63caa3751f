use Rattle.std.proofs.Common.{Bor, Bool, ℕ, List, Result}
use Rattle.std.proofs.lemmas.Result.{err_from_is_err_and}
use Rattle.clr_rows.specs.declared.places.Place.{Place}
use Rattle.clr_records.proofs.InTurn.{begins, one_more, stops, whole}
use Rattle.clr_layer_text.specs.Faults.{layer_lacks_memory}
use Rattle.clr_layer_text.specs.declared.faults.LayerFault.{LayerFault}
use Rattle.clr_layer_text.specs.Wkt.{place_of}
use Rattle.clr_layer_text.proofs.Turns.{itself}
use Rattle.clr_layer_text.proofs.shape_reading.places_of_pieces.Goals as goal

-- the place of a piece
abbrev place_in : Bool → ℕ → Bor (List ℕ) → Result Place LayerFault
place_in rounded n piece = place_of rounded piece.now

pub loop-piece-init : goal.loop-piece-init
loop-piece-init c = rw c.new-places.ensures.items (begins (λ n. place_of c.args.rounded) (λ piece. piece.now) 0 c.args.pieces.now)

pub returns-in_err-one : goal.returns-in_err-one
returns-in_err-one c =
    let e = err_from_is_err_and c.from_residual.result c.from_residual.ensures.1 in
    rw (e.1, e.2) (stops layer_lacks_memory (place_in c.args.rounded) c.in_err-one.field-0.0 c.loop-piece.places.items 0 c.args.pieces.now
    c.loop-piece.piece-index _ _ c.loop-piece-test.true
    (itself c.args.pieces.now c.loop-piece.piece-index _ c.loop-piece-test.true) c.in_err-one.ensures c.loop-piece.invariant)

pub loop-piece-preserved : goal.loop-piece-preserved
loop-piece-preserved c =
    rw c.in_ok-push.ensures.items (one_more (place_in c.args.rounded) c.loop-piece.places.items 0 c.args.pieces.now c.loop-piece.piece-index _ _ _
    c.loop-piece-test.true
    (itself c.args.pieces.now c.loop-piece.piece-index _ c.loop-piece-test.true) c.in_ok-one.ensures c.loop-piece.invariant)

pub returns : goal.returns
returns c = whole (place_in c.args.rounded) c.loop-piece.places.items 0 c.args.pieces.now c.loop-piece.piece-index _ c.loop-piece-test.false
    c.loop-piece.invariant
