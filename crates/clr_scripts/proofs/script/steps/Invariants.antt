use Rattle.std.proofs.Common.{◌≡◌, ◌+◌, drop, map}
use Rattle.csv.specs.Records.{fields_of}
use Rattle.clr_scripts.specs.Scripts.{script_of, steps_from}
use Rattle.clr_readings.proofs.Fronts.{with_front}
use Rattle.clr_scripts.proofs.script.steps.Given as goal

-- the steps so far, with those of the records that are left, are all the steps
abbrev pub invariant-loop-i : goal.invariant-loop-i
invariant-loop-i l = with_front l.list.items (steps_from l.schema l.edits_left (l.i + 1) (map fields_of (drop l.i l.records)))
    ≡ script_of l.schema (map fields_of l.records)
