use Rattle.csv.specs.Writing.{default_writer, row_text}
use Rattle.clr_layer_text.specs.Layers.{row_fields}
use Rattle.clr_layer_text.specs.ReadBack.{HasTexts}
use Rattle.clr_records.proofs.Turns.{each_more, texts_more}
use Rattle.clr_layer_text.proofs.writing.add_rows.Goals as goal

pub loop-row-preserved : goal.loop-row-preserved
loop-row-preserved c =
    record {
      between = c.in_ok-add_record.ensures.between;
      written = texts_more (row_text default_writer) row_fields c.args.rows.now c.loop-row.row-index _ _ _ _ c.loop-row-test.true c.row-item.is
          c.loop-row.invariant.written
          (rw c.in_ok-line.ensures.fields at c.in_ok-add_record.ensures.written);
      texts = each_more HasTexts c.args.rows.now c.loop-row.row-index _ c.loop-row-test.true c.row-item.is c.in_ok-line.ensures.texts
          c.loop-row.invariant.texts;
    }
