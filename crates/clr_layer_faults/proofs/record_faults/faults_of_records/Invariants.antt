use Rattle.std.proofs.Common.{◌≡◌, ◌+◌, ◌++◌, [], List, ℤ, drop, map}
use Rattle.csv.specs.Records.{fields_of}
use Rattle.clr_layer_text.specs.Headings.{seen_headings}
use Rattle.clr_layer_text.specs.Layers.{row_of}
use Rattle.clr_layer_faults.specs.FoundFaults.{faults_from}
use Rattle.clr_layer_faults.specs.KeySets.{HasKeys}
use Rattle.clr_layer_faults.proofs.record_faults.faults_of_records.Given as goal

-- the faults so far, with those of the records that are left behind rows with these keys, are all of them
abbrev pub invariant-loop-i : goal.invariant-loop-i
invariant-loop-i l = (before : List ℤ) × HasKeys before l.keys
    × (l.found.items ++ faults_from (row_of l.schema l.at l.rounded (seen_headings l.headings)) l.table l.names before (2 + l.i) (map fields_of (drop l.i l.records))
    ≡ faults_from (row_of l.schema l.at l.rounded (seen_headings l.headings)) l.table l.names [] 2 (map fields_of l.records))
