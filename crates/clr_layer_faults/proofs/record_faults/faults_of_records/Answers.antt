use Rattle.clr_layer_text.specs.Headings.{seen_headings}
use Rattle.clr_layer_text.specs.Layers.{row_of}
use Rattle.clr_layer_faults.proofs.RecordLemmas.{begins, ends, goes_on}
use Rattle.clr_layer_faults.proofs.record_faults.faults_of_records.Goals as goal

pub loop-i-init : goal.loop-i-init
loop-i-init c =
    begins (row_of c.args.schema.now c.args.at c.args.rounded (seen_headings c.args.headings.now)) c.args.table.now c.args.names.now c.args.records.now
    c.new-found.result.items c.new-found.ensures.items c.new-keys.result c.new-keys.ensures.empty

pub loop-i-preserved : goal.loop-i-preserved
loop-i-preserved c =
    let inv = c.loop-i.invariant in
    let made = c.in_ok-one.ensures inv.0 inv.1 in
    goes_on (row_of c.args.schema.now c.args.at c.args.rounded (seen_headings c.args.headings.now)) c.args.table.now c.args.names.now inv.0 c.args.records.now
    c.loop-i.i c.index-records-i.result c.loop-i.found.items _ c.in_ok-one.one _ _ c.loop-i-test.true c.index-records-i.is made.0 c.in_ok-add_found.ensures
    made.1 inv.2

pub returns : goal.returns
returns c =
    let inv = c.loop-i.invariant in
    ends (row_of c.args.schema.now c.args.at c.args.rounded (seen_headings c.args.headings.now)) c.args.table.now c.args.names.now inv.0 c.args.records.now
    c.loop-i.i c.loop-i.found.items _ c.loop-i-test.false inv.2
