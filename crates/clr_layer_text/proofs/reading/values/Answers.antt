use Rattle.std.proofs.Common.{ℕ, Result}
use Rattle.std.proofs.lemmas.Result.{err_from_is_err_and}
use Rattle.csv.specs.Records.{Row, fields_of}
use Rattle.clr_rows.specs.declared.rows.Value.{Value}
use Rattle.clr_records.specs.Records.{field_of}
use Rattle.clr_records.proofs.InTurn.{one_more, stops, whole}
use Rattle.clr_layer_text.specs.Faults.{layer_lacks_memory}
use Rattle.clr_layer_text.specs.declared.faults.LayerFault.{LayerFault}
use Rattle.clr_layer_text.specs.declared.headings.Heading.{Heading}
use Rattle.clr_layer_text.specs.Layers.{value_of}
use Rattle.clr_layer_text.proofs.Turns.{itself}
use Rattle.clr_layer_text.proofs.reading.values.Goals as goal

-- the value of a column
abbrev value_in : Row → ℕ → Heading → Result Value LayerFault
value_in row n column = value_of column.kind (field_of (fields_of row) column.at)

pub returns-in_err-value : goal.returns-in_err-value
returns-in_err-value c =
    let e = err_from_is_err_and c.from_residual.result c.from_residual.ensures.1 in
    rw (e.1, e.2) (stops layer_lacks_memory (value_in c.args.fields.now) c.in_err-value.field-0.0 c.loop-column.list.items 0 c.args.columns.now
    c.loop-column.column-index _ _ c.loop-column-test.true
    (itself c.args.columns.now c.loop-column.column-index _ c.loop-column-test.true) (rw c.field.ensures at c.in_err-value.ensures) c.loop-column.invariant)

pub loop-column-preserved : goal.loop-column-preserved
loop-column-preserved c =
    rw c.in_ok-push.ensures.items (one_more (value_in c.args.fields.now) c.loop-column.list.items 0 c.args.columns.now c.loop-column.column-index _ _ _
    c.loop-column-test.true
    (itself c.args.columns.now c.loop-column.column-index _ c.loop-column-test.true) (rw c.field.ensures at c.in_ok-value.ensures) c.loop-column.invariant)

pub returns : goal.returns
returns c = rw c.new.ensures (whole (value_in c.args.fields.now) c.loop-column.list.items 0 c.args.columns.now c.loop-column.column-index _
    c.loop-column-test.false c.loop-column.invariant)
