use Rattle.std.proofs.Common.{[], ◌∷◌, map, refl}
use Rattle.std.proofs.lemmas.List.{map-append}
use Rattle.clr_deltas.specs.NamedDeltas.{stored_delta}
use Rattle.clr_office_reading.proofs.NameTurns.{none_read}
use Rattle.clr_faults.specs.Readings.{deltas_with}
use Rattle.clr_faults.proofs.Firsts.{goes_on, ends, is_done, deltas, deltas_fail}
use Rattle.clr_faults.proofs.workspace_lists.workspace_fault_in.Goals as goal

pub loop-at-init : goal.loop-at-init
loop-at-init c = rw c.new-parts.ensures.items record { so_far = refl; named = none_read c.new-names.result c.new-names.ensures.empty }

pub workspace-requires : goal.workspace-requires
workspace-requires c = rw c.as_slice.ensures.value c.loop-at.invariant.named

pub returns-in-Err : goal.returns-in-Err
returns-in-Err c =
    ends (deltas_with c.args.format c.args.schema.now) c.in-Err.fault (map stored_delta c.loop-at.parts.items) c.args.items.now c.loop-at.at _ _
    c.unless_lost.result c.loop-at-test.true c.index-items-at.is
    (deltas_fail c.args.format c.args.schema.now _ _ c.in-Err.fault (rw c.as_slice.ensures.value at c.in-Err.ensures)) c.loop-at.invariant.so_far
    c.unless_lost.ensures

pub loop-at-preserved : goal.loop-at-preserved
loop-at-preserved c =
    rw c.in_ok-push-in-Ok.ensures.items record {
      so_far = goes_on (deltas_with c.args.format c.args.schema.now) (map stored_delta c.loop-at.parts.items) _ c.args.items.now c.loop-at.at _ _
          c.loop-at-test.true c.index-items-at.is
          (deltas c.args.format c.args.schema.now c.loop-at.parts.items _ c.in-Ok.one (rw c.as_slice.ensures.value at c.in-Ok.ensures))
          c.loop-at.invariant.so_far;
      named = rw (map-append stored_delta c.loop-at.parts.items (c.in-Ok.one ∷ []))
          (c.in_ok-note_name-in-Ok.ensures.noted (map stored_delta c.loop-at.parts.items) (stored_delta c.in-Ok.one) c.loop-at.invariant.named refl);
    }

pub returns : goal.returns
returns c =
    is_done (deltas_with c.args.format c.args.schema.now) (map stored_delta c.loop-at.parts.items) c.args.items.now c.loop-at.at _ c.loop-at-test.false
    c.loop-at.invariant.so_far
