use Rattle.csv.specs.Writing.{row_text}
use Rattle.clr_lines.specs.Rows.{rows_writer}
use Rattle.clr_designs.specs.ReadBack.{HasTexts}
use Rattle.clr_designs.specs.Scripts.{edit_fields}
use Rattle.clr_records.proofs.Turns.{each_more, texts_more}
use Rattle.clr_designs.proofs.writing.add_edits.Goals as goal

pub loop-edit-preserved : goal.loop-edit-preserved
loop-edit-preserved c =
    record {
      between = c.in_ok-add_record.ensures.between;
      written = texts_more (row_text rows_writer) (edit_fields c.args.schema.now) c.args.edits.now c.loop-edit.edit-index _ _ _ _ c.loop-edit-test.true
          c.edit-item.is
          c.loop-edit.invariant.written
          (rw c.in_ok-fields.ensures.fields at c.in_ok-add_record.ensures.written);
      texts = each_more HasTexts c.args.edits.now c.loop-edit.edit-index _ c.loop-edit-test.true c.edit-item.is c.in_ok-fields.ensures.texts
          c.loop-edit.invariant.texts;
    }
