-- The records of a layer that have a fault, as they are written.
use Rattle.std.specs.Prelude.{ℕ, List, [], ◌∷◌, ◌++◌, codes, map}
use Rattle.clr_rows.specs.declared.tables.TableDef.{TableDef}
use Rattle.clr_records.specs.Writing.{records_text}
use Rattle.clr_layer_faults.specs.declared.found.FoundFault.{FoundFault}
use Rattle.clr_layer_faults.specs.FoundFaults.{Record, header_in}
use Rattle.clr_layer_reports.specs.FaultSayings.{fields_at}
use Rattle.clr_layer_reports.specs.Reports.{fault_words}

-- the header, with one more name
abbrev pub skipped_header : Record → Record
skipped_header names = names ++ codes "WHY" ∷ []

-- the record that has a fault, and behind its own fields what is wrong with it
abbrev pub skipped_record : TableDef → List Record → FoundFault → Record
skipped_record table records found =
    fields_at records found.number ++ fault_words table (header_in records) [] (fields_at records found.number) found ∷ []

-- the text of the records that have these faults, in their order
abbrev pub skipped_text : TableDef → List Record → List FoundFault → List ℕ
skipped_text table records faults = records_text (skipped_header (header_in records) ∷ map (skipped_record table records) faults)
