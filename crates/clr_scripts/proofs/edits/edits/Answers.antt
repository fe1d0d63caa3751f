use Rattle.std.proofs.Common.{◌≡◌, ℕ, List, Result, true, refl, rules}
use Rattle.std.specs.Result.{is_ok}
use Rattle.csv.specs.Records.{Row, fields_of}
use Rattle.clr_rows.specs.declared.tables.TableDef.{TableDef}
use Rattle.clr_change.specs.declared.edits.Edit.{Edit}
use Rattle.clr_scripts.specs.declared.faults.RecordFault.{RecordFault}
use Rattle.clr_records.specs.Records.{at_record}
use Rattle.clr_scripts.specs.Records.{record_lacks_memory}
use Rattle.clr_scripts.specs.Edits.{edit_of}
use Rattle.clr_records.proofs.InTurn.{begins, one_more, stops_numbered, whole}
use Rattle.clr_scripts.proofs.edits.edits.Goals as goal

-- the edit of a record, with its number beside a fault
abbrev edit_at_record : List TableDef → ℕ → Row → Result Edit (ℕ × RecordFault)
edit_at_record tables n row = at_record n (edit_of tables (fields_of row))

pub loop-i-init : goal.loop-i-init
loop-i-init c = rw c.new-list.ensures.items (begins (λ n fields. at_record n (edit_of c.args.schema.now fields)) fields_of c.args.first c.args.records.now)

pub returns-in-Err : goal.returns-in-Err
returns-in-Err c =
    rw c.with_number-in-Err.ensures (stops_numbered record_lacks_memory (λ row. edit_of c.args.schema.now (fields_of row)) c.in-Err.fault c.loop-i.list.items
    c.args.first c.args.records.now c.loop-i.i _ _ c.loop-i-test.true c.index-records-i.is c.in-Err.ensures c.loop-i.invariant)

pub loop-i-preserved : goal.loop-i-preserved
loop-i-preserved c =
    let pushed : is_ok c.push.result ≡ true = search rules in
    let items = rw pushed at c.push.ensures.items in
    rw items (one_more (edit_at_record c.args.schema.now) c.loop-i.list.items c.args.first c.args.records.now c.loop-i.i _ c.in-Ok.edit _ c.loop-i-test.true
    c.index-records-i.is (rw c.in-Ok.ensures refl) c.loop-i.invariant)

pub returns : goal.returns
returns c = rw c.new.ensures (whole (edit_at_record c.args.schema.now) c.loop-i.list.items c.args.first c.args.records.now c.loop-i.i _ c.loop-i-test.false
    c.loop-i.invariant)
