use Rattle.std.proofs.Common.{◌<◌, length, arith}
use Rattle.csv.specs.Records.{fields_of}
use Rattle.clr_layer_text.proofs.FieldTurns.{fields_more}
use Rattle.clr_layer_faults.proofs.header_faults.names_of.Goals as goal

pub loop-at-preserved : goal.loop-at-preserved
loop-at-preserved c =
    let fields = fields_of c.args.header.now in
    let lt : c.loop-at.at < length fields = omega (arith, c.loop-at-test.true, c.len-at-end.ensures) in
    rw c.in_ok-push.ensures.items (fields_more fields c.loop-at.at _ _ lt c.loop-at.invariant c.in_ok-name_at.ensures)
