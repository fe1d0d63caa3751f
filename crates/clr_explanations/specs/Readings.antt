-- The schema of an office text.
use Rattle.std.specs.Prelude.{List, Result}
use Rattle.serde_json.specs.Data.{Data}
use Rattle.clr_rows.specs.declared.tables.TableDef.{TableDef}
use Rattle.clr_readings.specs.Readings.{◌>>=◌}
use Rattle.clr_office_reading.specs.Offices.{format_of, schema_of}
use Rattle.clr_rule_text.specs.declared.faults.TextFault.{TextFault}

abbrev pub tables_in : Data → Result (List TableDef) TextFault
tables_in d = format_of d >>= λ format. schema_of format d
