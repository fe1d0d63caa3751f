-- The certificate that records are, or the first fault with the number of its record.
use Rattle.std.specs.Prelude.{ℕ, ◌+◌, ◌==◌, ◌&&◌, ◌||◌, List, [], ◌∷◌, ◌++◌, length, codes}
use Rattle.std.specs.Prelude.{Bool, true, false, Option, Some, None, option_map, Result, Ok, Err, if◌then◌else◌}
use Rattle.std.specs.Str.{bytes_eq}
use Rattle.clr_rows.specs.declared.tables.TableDef.{TableDef}
use Rattle.clr_rows.specs.Names.{is_good_name}
use Rattle.clr_rows.specs.Names.{live_name}
use Rattle.clr_readings.specs.Readings.{◌>>=◌, or_fault}
use Rattle.clr_records.specs.Records.{at_record, field_of, records_in}
use Rattle.clr_cert.specs.declared.certificates.Certificate.{Certificate}
use Rattle.clr_cert.specs.declared.faults.CertFault.{CertFault}
use Rattle.clr_cert.specs.declared.faults.CertFault.TheVariants.{NotCsv, FieldCount, BadKind, BadReference}
use Rattle.clr_cert.specs.declared.limits.TheConstants.{RECORD_FIELDS}
use Rattle.clr_cert.specs.declared.items.Item.{Item}
use Rattle.clr_cert.specs.declared.items.Item.TheVariants.{Root, Member, Before, Need}
use Rattle.clr_cert.specs.Versions.{entry_of, is_empty}

abbrev pub is_live : List ℕ → Bool
is_live name = bytes_eq name live_name

-- the fields of a record behind its two names are empty
abbrev pub is_empty_behind_two : List (List ℕ) → Bool
is_empty_behind_two fields = is_empty (field_of fields 3) && is_empty (field_of fields 4) && is_empty (field_of fields 5)

-- the fields of a record behind its name are empty
abbrev pub is_empty_behind : List (List ℕ) → Bool
is_empty_behind fields = is_empty (field_of fields 2) && is_empty_behind_two fields

-- the name in a record whose fields behind it are empty
abbrev pub record_name_of : List (List ℕ) → Option (List ℕ)
record_name_of fields = if is_good_name (field_of fields 1) && is_empty_behind fields then Some (field_of fields 1) else None

-- the root that a record names: not LIVE, and none where a root record stands before it
abbrev pub record_root_of : Bool → List (List ℕ) → Option (List ℕ)
record_root_of rooted fields = if rooted || is_live (field_of fields 1) then None else record_name_of fields

-- the two names in a record whose fields behind them are empty
abbrev pub record_names_of : List (List ℕ) → Option (List ℕ × List ℕ)
record_names_of fields =
    if is_good_name (field_of fields 1) && is_good_name (field_of fields 2) && is_empty_behind_two fields then Some (field_of fields 1, field_of fields 2)
    else None

-- a record that says that the first of two names goes before the second
abbrev pub says_before : List ℕ × List ℕ → Item
says_before names = Before (record { earlier = names.0; later = names.1 })

-- what a record says, by its first field; `rooted` where a root record stands before it
abbrev pub item_by_word : List TableDef → Bool → List (List ℕ) → Result Item CertFault
item_by_word tables rooted fields =
    if bytes_eq (field_of fields 0) (codes "root") then or_fault BadReference (option_map Root (record_root_of rooted fields))
    else (if bytes_eq (field_of fields 0) (codes "member") then or_fault BadReference (option_map Member (record_name_of fields))
    else (if bytes_eq (field_of fields 0) (codes "before") then or_fault BadReference (option_map says_before (record_names_of fields))
    else (if bytes_eq (field_of fields 0) (codes "need") then or_fault BadReference (option_map Need (entry_of tables fields))
    else Err BadKind)))

-- what a record says: the count of fields is tested first, then the first field, and then the others
unfoldable pub item_of : List TableDef → Bool → List (List ℕ) → Result Item CertFault
item_of tables rooted fields = if length fields == RECORD_FIELDS then item_by_word tables rooted fields else Err FieldCount

abbrev pub is_root_item : Item → Bool
is_root_item (Root name) = true
is_root_item (Member name) = false
is_root_item (Before p) = false
is_root_item (Need entry) = false

-- what a record says, before what the records behind it say
abbrev pub with_item : Item → Certificate → Certificate
with_item (Root name) c = record c { root = name }
with_item (Member name) c = record c { members = name ∷ c.members }
with_item (Before p) c = record c { before = p ∷ c.before }
with_item (Need entry) c = record c { entries = entry ∷ c.entries }

-- what records say, and then what the next record says
abbrev pub with_next : Certificate → Item → Certificate
with_next c (Root name) = record c { root = name }
with_next c (Member name) = record c { members = c.members ++ name ∷ [] }
with_next c (Before p) = record c { before = c.before ++ p ∷ [] }
with_next c (Need entry) = record c { entries = c.entries ++ entry ∷ [] }

-- the certificate of no record
abbrev pub nothing_said : Certificate
nothing_said = record { root = live_name; members = []; before = []; entries = [] }

-- the certificate of records that are numbered from n; its root is LIVE where no record names another
unfoldable pub certificate_from : List TableDef → Bool → ℕ → List (List (List ℕ)) → Result Certificate (ℕ × CertFault)
certificate_from tables rooted n [] = Ok nothing_said
certificate_from tables rooted n (fields ∷ rest) = do
  item ← at_record n (item_of tables rooted fields)
  others ← certificate_from tables (rooted || is_root_item item) (n + 1) rest
  Ok (with_item item others)

-- the certificate of records
abbrev pub certificate_of : List TableDef → List (List (List ℕ)) → Result Certificate (ℕ × CertFault)
certificate_of tables rows = certificate_from tables false 1 rows

-- the certificate of a text
abbrev pub certificate_in : List TableDef → List ℕ → Result Certificate (ℕ × CertFault)
certificate_in tables bytes = or_fault (1, NotCsv) (records_in bytes) >>= λ rows. certificate_of tables rows
