use Rattle.std.proofs.lemmas.Result.{IfOk-weaker}
use Rattle.csv.specs.Records.{fields_of}
use Rattle.clr_layer_text.specs.Headings.{seen_headings}
use Rattle.clr_layer_text.specs.Layers.{row_of}
use Rattle.clr_layer_faults.specs.KeySets.{NotesKey, NotesRecord}
use Rattle.clr_layer_faults.proofs.RecordLemmas.{noted_row}
use Rattle.clr_layer_faults.proofs.record_faults.record_fault.Goals as goal

pub returns-in-Ok : goal.returns-in-Ok
returns-in-Ok c =
    let fields = fields_of c.args.fields.now in
    let table = c.args.table.now in
    let names = c.args.names.now in
    let number = c.args.number in
    let read = row_of c.args.schema.now c.args.at c.args.rounded (seen_headings c.args.headings.now) fields in
    let old = c.args.keys.now in
    let new = c.key_fault.new.keys in
    IfOk-weaker c.key_fault.result (NotesKey number c.in-Ok.row.key old new) (NotesRecord table names number fields read old new)
    (λ found noted. noted_row table names fields number read c.in-Ok.row old new found c.in-Ok.ensures.value noted) c.key_fault.ensures
