use Rattle.std.proofs.Common.{◌≡◌, rules}
use Rattle.clr_records.proofs.Turns.{seen_more}
use Rattle.clr_layer_text.proofs.writing.add_names.Goals as goal

pub loop-column-preserved : goal.loop-column-preserved
loop-column-preserved c =
    let seen : c.as_bytes.result.now ≡ c.column-item.result.0 = search rules in
    record {
      added = seen_more (λ column. column.0) c.args.columns.now c.loop-column.column-index _ _ _ _ c.loop-column-test.true c.column-item.is
          c.loop-column.invariant.added (rw seen at c.in_ok-add_field.ensures.added);
      whole = c.in_ok-add_field.ensures.whole;
    }
