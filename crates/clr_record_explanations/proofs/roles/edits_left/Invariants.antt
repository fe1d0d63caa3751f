use Rattle.std.proofs.Common.{◌≡◌, drop, map}
use Rattle.csv.specs.Records.{fields_of}
use Rattle.clr_record_explanations.specs.ScriptFaults.{edits_left}
use Rattle.clr_record_explanations.proofs.roles.edits_left.Given as goal

-- behind the other records so many edits are to come as behind all
abbrev pub invariant-loop-fields : goal.invariant-loop-fields
invariant-loop-fields l = edits_left (map fields_of (drop l.fields-index l.records)) l.left ≡ edits_left (map fields_of l.records) 0
