use Rattle.std.proofs.Common.{◌≡◌, Bool, ℕ, List, Result, true, refl, rules}
use Rattle.std.specs.Result.{is_ok}
use Rattle.csv.specs.Records.{Row, fields_of}
use Rattle.clr_rows.specs.declared.tables.TableDef.{TableDef}
use Rattle.clr_records.specs.Records.{at_record}
use Rattle.clr_records.proofs.InTurn.{begins, one_more, stops_numbered, whole}
use Rattle.clr_layer_text.specs.declared.faults.LayerFault.{LayerFault}
use Rattle.clr_layer_text.specs.declared.rows.LayerRow.{LayerRow}
use Rattle.clr_layer_text.specs.Faults.{layer_lacks_memory}
use Rattle.clr_layer_text.specs.Headings.{seen_headings}
use Rattle.clr_layer_text.specs.Layers.{Fields, row_of}
use Rattle.clr_layer_text.proofs.reading.rows.Goals as goal

-- the row of a record, with its number beside a fault
abbrev row_at_record : List TableDef → ℕ → Bool → Fields → ℕ → Row → Result LayerRow (ℕ × LayerFault)
row_at_record tables table rounded at n line = at_record n (row_of tables table rounded at (fields_of line))

pub loop-i-init : goal.loop-i-init
loop-i-init c = rw c.new-list.ensures.items
    (begins (λ n fields. at_record n (row_of c.args.schema.now c.args.table c.args.rounded (seen_headings c.args.headings.now) fields)) fields_of 2
    c.args.records.now)

pub returns-in-Err : goal.returns-in-Err
returns-in-Err c =
    rw c.numbered_fault.ensures (stops_numbered layer_lacks_memory
    (λ line. row_of c.args.schema.now c.args.table c.args.rounded (seen_headings c.args.headings.now) (fields_of line)) c.in-Err.fault c.loop-i.list.items 2
    c.args.records.now c.loop-i.i _ _ c.loop-i-test.true c.index-records-i.is c.in-Err.ensures.value c.loop-i.invariant)

pub loop-i-preserved : goal.loop-i-preserved
loop-i-preserved c =
    let pushed : is_ok c.push.result ≡ true = search rules in
    let items = rw pushed at c.push.ensures.items in
    rw items (one_more (row_at_record c.args.schema.now c.args.table c.args.rounded (seen_headings c.args.headings.now)) c.loop-i.list.items 2
    c.args.records.now c.loop-i.i _ c.in-Ok.row _ c.loop-i-test.true c.index-records-i.is (rw c.in-Ok.ensures.value refl) c.loop-i.invariant)

pub returns : goal.returns
returns c = whole (row_at_record c.args.schema.now c.args.table c.args.rounded (seen_headings c.args.headings.now)) c.loop-i.list.items 2
    c.args.records.now c.loop-i.i _ c.loop-i-test.false c.loop-i.invariant
