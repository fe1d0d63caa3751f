-- What is said of a fault of a record.
use Rattle.std.specs.Prelude.{◌≡◌, ◌≤◌, ℕ, List, [], ◌++◌, Option, Some, None, codes, decimal, length, string_bytes, MatchOption}
use Rattle.clr_rows.specs.declared.tables.TableDef.{TableDef}
use Rattle.clr_records.specs.Records.{records_in}
use Rattle.clr_cert.specs.declared.faults.CertFault.{CertFault}
use Rattle.clr_scripts.specs.declared.faults.RecordFault.{RecordFault}
use Rattle.clr_text_positions.specs.declared.remarks.Remark.{Remark}
use Rattle.clr_record_explanations.specs.EditSlips.{edit_slip}
use Rattle.clr_record_explanations.specs.EntrySlips.{entry_slip}
use Rattle.clr_record_explanations.specs.FirstFaults.{RecordFields, record_in}
use Rattle.clr_record_explanations.specs.RecordSlips.{Said}
use Rattle.clr_record_explanations.specs.ScriptFaults.{IsFaultOfScript}
use Rattle.clr_record_explanations.specs.StepSlips.{short_apply_slip, step_slip}
use Rattle.clr_record_explanations.specs.declared.roles.Role.{Role}
use Rattle.clr_record_explanations.specs.declared.roles.Role.TheVariants.{Text, Step, Edit, ShortApply}

abbrev pub record_place : ℕ → List ℕ
record_place number = codes ", record " ++ decimal number

-- the number of a record; and nothing where the text isn't UTF-8 and so has no records
abbrev pub IsRecordPlace : List ℕ → ℕ → List ℕ → Type 0
IsRecordPlace text number said = MatchOption (records_in text) (said ≡ []) (λ rows. said ≡ record_place number)

-- what is said of a record of a script, as what it is read
abbrev pub script_slip : List TableDef → Role → RecordFault → RecordFields → Said
script_slip tables Text fault fields = step_slip fault fields
script_slip tables Step fault fields = step_slip fault fields
script_slip tables Edit fault fields = edit_slip tables fault fields
script_slip tables ShortApply fault fields = short_apply_slip fields

-- the sentence on a record, by its fields; and on a text that isn't UTF-8 and so has no records
abbrev pub sentence_on : (RecordFields → Said) → Option RecordFields → List ℕ
sentence_on slip None = codes "a byte that isn't UTF-8"
sentence_on slip (Some fields) = (slip fields).1

-- what is said of the fault of a script, whose record has it in a role
pub record IsScriptRemark (tables : List TableDef) (text : List ℕ) (number : ℕ) (fault : RecordFault) (remark : Remark) : Type 0 where
  pub within : remark.offset ≤ length text
  pub place : IsRecordPlace text number (string_bytes remark.place)
  pub role : Role
  pub found : IsFaultOfScript tables (records_in text) role number fault
  pub sentence : string_bytes remark.sentence ≡ sentence_on (script_slip tables role fault) (record_in text number)

-- what is said of the fault of a certificate
pub record IsCertificateRemark (tables : List TableDef) (text : List ℕ) (number : ℕ) (fault : CertFault) (remark : Remark) : Type 0 where
  pub within : remark.offset ≤ length text
  pub place : IsRecordPlace text number (string_bytes remark.place)
  pub sentence : string_bytes remark.sentence ≡ sentence_on (entry_slip tables fault) (record_in text number)
