use Rattle.std.proofs.Common.{ℕ, List, Result}
use Rattle.std.proofs.lemmas.Result.{err_from_is_err_and}
use Rattle.csv.specs.Records.{Row, fields_of}
use Rattle.clr_rows.specs.declared.tables.Kind.{Kind}
use Rattle.clr_rows.specs.declared.rows.Value.{Value}
use Rattle.clr_scripts.specs.Records.{record_lacks_memory}
use Rattle.clr_scripts.specs.declared.faults.RecordFault.{RecordFault}
use Rattle.clr_records.specs.Records.{field_of}
use Rattle.clr_scripts.specs.Edits.{value_of}
use Rattle.clr_records.proofs.InTurn.{one_more, stops, whole}
use Rattle.clr_scripts.proofs.edits.values.Goals as goal

-- the value of a column, in the field of a number
abbrev value_in : Row → ℕ → List ℕ × Kind → Result Value RecordFault
value_in row i column = value_of column.1 (field_of (fields_of row) i)

pub returns-in_err-value : goal.returns-in_err-value
returns-in_err-value c =
    let e = err_from_is_err_and c.from_residual.result c.from_residual.ensures.1 in
    rw (e.1, e.2) (stops record_lacks_memory (value_in c.args.fields.now) c.in_err-value.field-0.0 c.loop-i.list.items 3 c.args.columns.now c.loop-i.i _ _
    c.loop-i-test.true c.index-columns-i.is (rw c.field.ensures at c.in_err-value.ensures) c.loop-i.invariant)

pub loop-i-preserved : goal.loop-i-preserved
loop-i-preserved c = rw c.in_ok-push.ensures.items (one_more (value_in c.args.fields.now) c.loop-i.list.items 3 c.args.columns.now c.loop-i.i _ _ _
    c.loop-i-test.true c.index-columns-i.is (rw c.field.ensures at c.in_ok-value.ensures) c.loop-i.invariant)

pub returns : goal.returns
returns c = rw c.new.ensures (whole (value_in c.args.fields.now) c.loop-i.list.items 3 c.args.columns.now c.loop-i.i _ c.loop-i-test.false c.loop-i.invariant)
