use Rattle.std.proofs.Common.{ℕ, List, Result, sym}
use Rattle.std.proofs.lemmas.Result.{err_from_is_err_and}
use Rattle.clr_rows.specs.declared.tables.Kind.{Kind}
use Rattle.clr_readings.proofs.FaultTurns.{same_fault}
use Rattle.clr_records.proofs.InTurn.{one_more, stops, whole}
use Rattle.clr_layer_text.specs.Faults.{layer_lacks_memory}
use Rattle.clr_layer_text.specs.declared.faults.LayerFault.{LayerFault}
use Rattle.clr_layer_text.specs.declared.headings.Heading.{Heading}
use Rattle.clr_layer_text.specs.Layers.{column_of}
use Rattle.clr_layer_text.proofs.headings.columns.Goals as goal

-- the heading of a column
abbrev column_in : List (List ℕ) → ℕ → List ℕ × Kind → Result Heading LayerFault
column_in names n column = column_of names column

pub returns-in_err-column : goal.returns-in_err-column
returns-in_err-column c =
    let e = err_from_is_err_and c.from_residual.result c.from_residual.ensures.1 in
    rw (e.1, e.2) (stops layer_lacks_memory (column_in c.args.names.now) c.in_err-column.field-0.0 c.loop-one.list.items 0 c.args.columns.now
    c.loop-one.one-index _ _ c.loop-one-test.true
    c.one-item.is (same_fault layer_lacks_memory _ _ (sym c.in_err-column.ensures)) c.loop-one.invariant)

pub loop-one-preserved : goal.loop-one-preserved
loop-one-preserved c =
    rw c.in_ok-push.ensures.items (one_more (column_in c.args.names.now) c.loop-one.list.items 0 c.args.columns.now c.loop-one.one-index _ _ _
    c.loop-one-test.true
    c.one-item.is (sym c.in_ok-column.ensures) c.loop-one.invariant)

pub returns : goal.returns
returns c = whole (column_in c.args.names.now) c.loop-one.list.items 0 c.args.columns.now c.loop-one.one-index _ c.loop-one-test.false c.loop-one.invariant
