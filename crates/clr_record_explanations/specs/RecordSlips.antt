-- What is wrong with a record: its field, counted from 0, and what is said of it.
use Rattle.std.specs.Prelude.{ℕ, List, ◌++◌, codes, string_bytes}
use Rattle.clr_records.specs.Records.{field_of}
use Rattle.clr_record_explanations.specs.FirstFaults.{RecordFields}
use Rattle.clr_record_explanations.specs.declared.record_slips.RecordSlip.{RecordSlip}

abbrev pub Said : Type 0
Said = ℕ × List ℕ

abbrev pub said : RecordSlip → Said
said slip = (slip.field, string_bytes slip.sentence)

-- a field that names no table
abbrev pub no_table : ℕ → RecordFields → Said
no_table at fields = (at, codes "no table is called '" ++ field_of fields at ++ codes "'")

-- a field that must be a whole number and is none
abbrev pub no_number : ℕ → RecordFields → Said
no_number at fields =
    (at, codes "'" ++ field_of fields at ++ codes "' is no whole number of 64 bits in its one form, without + or zeros in front")
