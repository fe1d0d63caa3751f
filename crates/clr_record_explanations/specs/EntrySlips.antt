-- What is said of a record of a certificate.
use Rattle.std.specs.Prelude.{ℕ, ℤ, pos, negsuc, ◌==◌, nat_le, nat_lt, Bool, false, not, ◌&&◌, ◌||◌, List, ◌++◌, length, codes, decimal}
use Rattle.std.specs.Prelude.{Option, Some, None, if◌then◌else◌}
use Rattle.std.specs.List.{find, range_with_len}
use Rattle.std.specs.Option.{is_some, unwrap_or}
use Rattle.std.specs.Str.{bytes_eq}
use Rattle.clr_rows.specs.Names.{is_good_name}
use Rattle.clr_rows.specs.Schemas.{table_named}
use Rattle.clr_rows.specs.declared.tables.TableDef.{TableDef}
use Rattle.clr_records.specs.Decimals.{number_of}
use Rattle.clr_records.specs.Records.{field_of}
use Rattle.clr_cert.specs.Certificates.{is_live}
use Rattle.clr_cert.specs.Versions.{is_empty, slash_cut_of}
use Rattle.clr_cert.specs.declared.faults.CertFault.{CertFault}
use Rattle.clr_cert.specs.declared.faults.CertFault.TheVariants as fault
use Rattle.clr_record_explanations.specs.FirstFaults.{RecordFields}
use Rattle.clr_record_explanations.specs.RecordSlips.{Said}

-- counts and kinds ---------------------------------------------------------------------------

abbrev pub entry_count_sentence : ℕ → List ℕ
entry_count_sentence count = codes "a record has 6 fields, and here are " ++ decimal count

abbrev pub wrong_entry_count : RecordFields → Said
wrong_entry_count fields = (0, entry_count_sentence (length fields))

abbrev pub wrong_kind : RecordFields → Said
wrong_kind fields = (0, codes "'" ++ field_of fields 0 ++ codes "' is none of root, member, before and need")

-- names --------------------------------------------------------------------------------------

-- the first field behind the name of a record that isn't empty
abbrev pub place_behind_name : RecordFields → Option ℕ
place_behind_name fields = find (λ at. not (is_empty (field_of fields at))) (range_with_len 2 4)

-- a record of a good name
abbrev pub wrong_named_record : Option ℕ → Said
wrong_named_record (Some at) = (at, codes "a field behind the name must be empty")
wrong_named_record None = (0, codes "a root record stands before this one")

abbrev pub is_root_live : RecordFields → Bool
is_root_live fields = bytes_eq (field_of fields 0) (codes "root") && is_live (field_of fields 1)

abbrev pub no_good_name : List ℕ → List ℕ
no_good_name name =
    codes "'" ++ name ++ codes "' is no good name of a workspace: a name has 1 to 30 letters of a to z and A to Z, digits and _, a letter first"

-- a record of a name
abbrev pub wrong_name : RecordFields → Said
wrong_name fields =
    if is_root_live fields then (1, codes "LIVE is the root where no record names one")
    else (if is_good_name (field_of fields 1) then wrong_named_record (place_behind_name fields) else (1, no_good_name (field_of fields 1)))

-- the first field behind the two names of a record that isn't empty
abbrev pub place_behind_names : RecordFields → Option ℕ
place_behind_names fields = find (λ at. not (is_empty (field_of fields at))) (range_with_len 3 3)

-- a record of two names
abbrev pub wrong_names : RecordFields → Said
wrong_names fields =
    if not (is_good_name (field_of fields 1)) then (1, no_good_name (field_of fields 1))
    else (if not (is_good_name (field_of fields 2)) then (2, no_good_name (field_of fields 2))
    else (unwrap_or (place_behind_names fields) 3, codes "a field behind the two names must be empty"))

-- needs --------------------------------------------------------------------------------------

-- a rule's number
abbrev pub is_rule_number : Option ℤ → Bool
is_rule_number None = false
is_rule_number (Some (pos n)) = nat_le n 65535
is_rule_number (Some (negsuc n)) = false

-- `old` or `new`
abbrev pub is_version_word : List ℕ → Bool
is_version_word word = bytes_eq word (codes "old") || bytes_eq word (codes "new")

-- behind the key of a version: its word, and behind that the number of a part where one may stand
abbrev pub is_word_and_part : Bool → List ℕ → Option (List ℕ × List ℕ) → Bool
is_word_and_part may_have_part text None = is_version_word text
is_word_and_part may_have_part text (Some parts) = is_version_word parts.0 && may_have_part && is_some (number_of parts.1)

abbrev pub is_key_and_rest : Bool → Option (List ℕ × List ℕ) → Bool
is_key_and_rest may_have_part None = false
is_key_and_rest may_have_part (Some parts) = is_some (number_of parts.0) && is_word_and_part may_have_part parts.1 (slash_cut_of parts.1)

abbrev pub is_table_and_rest : List TableDef → Bool → Option (List ℕ × List ℕ) → Bool
is_table_and_rest tables may_have_part None = false
is_table_and_rest tables may_have_part (Some parts) = is_some (table_named tables parts.0) && is_key_and_rest may_have_part (slash_cut_of parts.1)

-- a text has the form of a version: a known table, a key, a word and, of a subject, maybe a part
abbrev pub is_version : List TableDef → Bool → List ℕ → Bool
is_version tables may_have_part text = is_table_and_rest tables may_have_part (slash_cut_of text)

-- the second subject and the second witness may be missing
abbrev pub may_be_missing : ℕ → Bool
may_be_missing at = at == 3 || at == 5

-- a field of a need has no form that it can have; subjects stand before the fourth field
abbrev pub is_no_version : List TableDef → RecordFields → ℕ → Bool
is_no_version tables fields at =
    not (is_version tables (nat_lt at 4) (field_of fields at) || (is_empty (field_of fields at) && may_be_missing at))

-- the first version of a need that can't be one, if any
abbrev pub wrong_version : RecordFields → Option ℕ → Said
wrong_version fields (Some at) = (at, codes "'" ++ field_of fields at ++ codes "' is no version of a row, which is TABLE/KEY/old or TABLE/KEY/new")
wrong_version fields None = (2, codes "a key or a part is out of range")

-- the first field behind the rule of a need that has no form that it can have
abbrev pub version_place : List TableDef → RecordFields → Option ℕ
version_place tables fields = find (λ at. is_no_version tables fields at) (range_with_len 2 4)

abbrev pub no_rule : RecordFields → Said
no_rule fields = (1, codes "'" ++ field_of fields 1 ++ codes "' is no number of a rule, which is 0 to 65535")

abbrev pub wrong_need : List TableDef → RecordFields → Said
wrong_need tables fields =
    if is_rule_number (number_of (field_of fields 1)) then wrong_version fields (version_place tables fields) else no_rule fields

-- what is said of a record of a certificate, by its fault
abbrev pub wrong_reference : List TableDef → RecordFields → Said
wrong_reference tables fields =
    if bytes_eq (field_of fields 0) (codes "need") then wrong_need tables fields
    else (if bytes_eq (field_of fields 0) (codes "before") then wrong_names fields else wrong_name fields)

abbrev pub entry_slip : List TableDef → CertFault → RecordFields → Said
entry_slip tables fault.FieldCount fields = wrong_entry_count fields
entry_slip tables fault.BadReference fields = wrong_reference tables fields
entry_slip tables fault.BadKind fields = wrong_kind fields
entry_slip tables fault.NotCsv fields = wrong_kind fields
entry_slip tables fault.OutOfMemory fields = wrong_kind fields
