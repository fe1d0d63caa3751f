use Rattle.std.proofs.lemmas.Bool.{both_ways}
use Rattle.serde_json.specs.View.{view}
use Rattle.clr_faults.proofs.Values.{found_in_none, found_in_value}
use Rattle.clr_faults.proofs.finding.find_fault.Goals as goal

pub returns-in_ok-spot-in-Ok-from_slice-clause-at : goal.returns-in_ok-spot-in-Ok-from_slice-clause-at
returns-in_ok-spot-in-Ok-from_slice-clause-at c =
    found_in_value c.args.bytes.now (view c.in-Ok-from_slice.json) c.in_ok-fault-in-Err.fault c.in_ok-spot-in-Ok-from_slice.spot
    c.in-Ok-from_slice.ensures.ok.0 c.in-Ok-from_slice.ensures.ok.1 c.in_ok-spot-in-Ok-from_slice.ensures

pub returns-else-is_memory-clause-at : goal.returns-else-is_memory-clause-at
returns-else-is_memory-clause-at c =
    found_in_none c.args.bytes.now c.in_ok-fault-in-Err.fault
    (c.in-Err-from_slice.ensures.err (λ memory. both_ways _ c.if-is_memory.false (c.is_memory.ensures.1 memory)))
