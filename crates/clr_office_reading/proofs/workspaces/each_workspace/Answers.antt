use Rattle.std.proofs.Common.{[], ◌∷◌, map, refl}
use Rattle.std.proofs.lemmas.Result.{err_from_is_err_and}
use Rattle.std.proofs.lemmas.List.{map-append}
use Rattle.clr_deltas.specs.NamedDeltas.{stored_delta}
use Rattle.clr_office_reading.proofs.NameTurns.{none_read}
use Rattle.clr_office_reading.proofs.WorkspaceTurns.{goes_on, ends, is_done}
use Rattle.clr_office_reading.proofs.workspaces.each_workspace.Goals as goal

pub loop-item-init : goal.loop-item-init
loop-item-init g c = rw c.new-parts.ensures.items record { so_far = refl; named = none_read c.new-names.result c.new-names.ensures.empty }

pub workspace-requires : goal.workspace-requires
workspace-requires g c = rw c.as_slice.ensures.value c.loop-item.invariant.named

pub returns-in_err-one : goal.returns-in_err-one
returns-in_err-one g c =
    let p = err_from_is_err_and c.from_residual.result c.from_residual.ensures.1 in
    rw (p.1, p.2) (ends g.J.JsonValue.stands_for c.args.format c.args.schema.now c.in_err-one.field-0.0 c.loop-item.parts.items c.args.items.now
    c.loop-item.item-index _ _ c.loop-item-test.true c.item-item.is (rw c.as_slice.ensures.value at c.in_err-one.ensures) c.loop-item.invariant.so_far)

pub loop-item-preserved : goal.loop-item-preserved
loop-item-preserved g c =
    rw c.in_ok-push.ensures.items record {
      so_far = goes_on g.J.JsonValue.stands_for c.args.format c.args.schema.now c.loop-item.parts.items c.args.items.now c.loop-item.item-index _
          c.in_ok-one.one _ c.loop-item-test.true c.item-item.is (rw c.as_slice.ensures.value at c.in_ok-one.ensures) c.loop-item.invariant.so_far;
      named = rw (map-append stored_delta c.loop-item.parts.items (c.in_ok-one.one ∷ []))
          (c.in_ok-note_name.ensures.noted (map stored_delta c.loop-item.parts.items) (stored_delta c.in_ok-one.one) c.loop-item.invariant.named refl);
    }

pub returns : goal.returns
returns g c = is_done g.J.JsonValue.stands_for c.args.format c.args.schema.now (map stored_delta c.loop-item.parts.items) c.args.items.now
    c.loop-item.item-index _ c.loop-item-test.false c.loop-item.invariant.so_far
