use Rattle.std.proofs.Common.{◌∙◌, ap, get_or, sym}
use Rattle.std.proofs.lemmas.List.Sums.{fold_more}
use Rattle.csv.specs.declared.parser.State.TheVariants as st
use Rattle.clr_layer_faults.specs.FieldPlaces.{begins_record, begins_record_at, next_state}
use Rattle.clr_layer_faults.proofs.RangeLemmas.{passed_more}
use Rattle.clr_layer_faults.proofs.field_places.record_starts.Goals as goal

pub loop-at-preserved : goal.loop-at-preserved
loop-at-preserved c =
    let bytes = c.args.bytes.now in
    let at = c.loop-at.at in
    let inv = c.loop-at.invariant in
    record {
      state = c.behind-reading.ensures.state ∙ ap (λ s. next_state s (get_or bytes at 0)) inv.state ∙ sym (fold_more next_state st.StartRecord bytes at 0 c.loop-at-test.true);
      starts = passed_more (begins_record_at bytes) at c.loop-at.starts.items _ c.begins_record.result inv.starts c.in_ok-add_if.ensures
          (c.begins_record.ensures ∙ ap (λ s. begins_record s (get_or bytes at 0)) inv.state);
    }
