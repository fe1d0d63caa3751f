-- Where the first fault of a script is.
use Rattle.std.specs.Prelude.{◌≡◌, ℕ, zero, suc, ◌+◌, ◌-◌, ◌<◌, nat_lt, List, [], ◌∷◌, length, take, get_or, slice_get, codes}
use Rattle.std.specs.Prelude.{Bool, Option, Some, None, Result, Ok, Err, if◌then◌else◌}
use Rattle.std.specs.Str.{bytes_eq}
use Rattle.clr_rows.specs.declared.tables.TableDef.{TableDef}
use Rattle.clr_records.specs.Records.{field_of, records_in}
use Rattle.clr_scripts.specs.declared.faults.RecordFault.{RecordFault}
use Rattle.clr_scripts.specs.declared.faults.RecordFault.TheVariants.{FieldCount, NotCsv}
use Rattle.clr_scripts.specs.Edits.{edit_of}
use Rattle.clr_scripts.specs.Scripts.{edit_count, plain_step_of, script_in_text}
use Rattle.clr_record_explanations.specs.declared.roles.Role.{Role}
use Rattle.clr_record_explanations.specs.declared.roles.Role.TheVariants.{Text, Step, Edit, ShortApply}
use Rattle.clr_record_explanations.specs.FirstFaults.{RecordFields, IsFirstFault, readable}

abbrev pub is_apply : RecordFields → Bool
is_apply fields = bytes_eq (field_of fields 0) (codes "apply")

abbrev pub count_or_none : Result ℕ RecordFault → ℕ
count_or_none (Ok count) = count
count_or_none (Err e) = 0

-- how many edits a record asks for: an `apply` whose count can be read asks for so many
abbrev pub edits_asked : RecordFields → ℕ
edits_asked fields = if is_apply fields then count_or_none (edit_count fields) else 0

-- how many edits are to come behind a record, where so many are to come before it: it is one of them, or asks for its own
abbrev pub left_after : RecordFields → ℕ → ℕ
left_after fields zero = edits_asked fields
left_after fields (suc k) = k

-- how many edits are to come behind records, where so many are to come before them
abbrev pub edits_left : List RecordFields → ℕ → ℕ
edits_left [] k = k
edits_left (fields ∷ rest) k = edits_left rest (left_after fields k)

-- a record on its own: an edit where one is to come, and else a step; of an `apply` only its count of edits is read
abbrev pub reads_as : List TableDef → ℕ → RecordFields → Result (Unit {0}) RecordFault
reads_as tables zero fields = if is_apply fields then readable (edit_count fields) else readable (plain_step_of tables fields)
reads_as tables (suc k) fields = readable (edit_of tables fields)

-- a record of a script, read behind those before it
abbrev pub script_reading : List TableDef → List RecordFields → RecordFields → Result (Unit {0}) RecordFault
script_reading tables before fields = reads_as tables (edits_left before 0) fields

-- the `apply` at a place asks for more edits than records stand behind it, and each record of the script can be read
pub record IsShortApply (tables : List TableDef) (rows : List RecordFields) (at : ℕ) : Type 0 where
  pub there : (fields : RecordFields) × (slice_get rows at ≡ Some fields) × (length rows < at + 1 + edits_asked fields)
  pub step : edits_left (take at rows) 0 ≡ 0
  pub others : (k : ℕ) (fields : RecordFields) → slice_get rows k ≡ Some fields → script_reading tables (take k rows) fields ≡ Ok tt

-- the role of a record, by how many edits are to come, how many it asks for, and how many records stand behind it
abbrev pub role_by : ℕ → ℕ → ℕ → Role
role_by left asked behind = if nat_lt 0 left then Edit else (if nat_lt behind asked then ShortApply else Step)

-- what the record at a place is read as
abbrev pub role_in : List RecordFields → ℕ → Role
role_in rows at = role_by (edits_left (take at rows) 0) (edits_asked (get_or rows at [])) (length rows - at - 1)

-- the record at a place has the fault, in its role
abbrev pub IsFaultAs : Role → List TableDef → List RecordFields → ℕ → RecordFault → Type 0
IsFaultAs Text tables rows at e = ⊥
IsFaultAs Step tables rows at e = (edits_left (take at rows) 0 ≡ 0) × IsFirstFault (script_reading tables) rows at e
IsFaultAs Edit tables rows at e = (0 < edits_left (take at rows) 0) × IsFirstFault (script_reading tables) rows at e
IsFaultAs ShortApply tables rows at e = (e ≡ FieldCount) × IsShortApply tables rows at

-- the fault of the record of a given number in a script's text, or that the text has no records
abbrev pub IsFaultOfScript : List TableDef → Option (List RecordFields) → Role → ℕ → RecordFault → Type 0
IsFaultOfScript tables None role number e = (role ≡ Text) × (number ≡ 1) × (e ≡ NotCsv)
IsFaultOfScript tables (Some rows) role number e = (at : ℕ) × (number ≡ at + 1) × IsFaultAs role tables rows at e

abbrev pub ScriptFaultLaw : Type 0
ScriptFaultLaw = (tables : List TableDef) (bytes : List ℕ) (number : ℕ) (e : RecordFault)
    → script_in_text tables bytes ≡ Err (number, e) → (role : Role) × IsFaultOfScript tables (records_in bytes) role number e
