use Rattle.clr_rows.proofs.BeginningLaws.{begun_before_item}
use Rattle.clr_records.specs.Values.{IsText, value_field}
use Rattle.clr_records.proofs.Turns.{each_more, seen_more}
use Rattle.clr_records.proofs.fields.add_values.Goals as goal

pub loop-value-preserved : goal.loop-value-preserved
loop-value-preserved c =
    record {
      added = seen_more value_field c.args.values.now c.loop-value.value-index _ _ _ _ c.loop-value-test.true c.value-item.is c.loop-value.invariant.added
          c.in_ok-add_value.ensures.added;
      whole = c.in_ok-add_value.ensures.whole;
      texts = each_more IsText c.args.values.now c.loop-value.value-index _ c.loop-value-test.true c.value-item.is c.in_ok-add_value.ensures.text
          c.loop-value.invariant.texts;
    }

pub returns-in_err-add_value-clause-begun : goal.returns-in_err-add_value-clause-begun
returns-in_err-add_value-clause-begun c = begun_before_item value_field c.args.values.now c.loop-value.value-index _ _ _ c.loop-value.invariant.added
    c.in_err-add_value.ensures.err
