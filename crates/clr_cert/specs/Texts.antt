-- The text of a certificate, and the certificates that have one.
use Rattle.std.specs.Prelude.{◌≡◌, ℕ, ◌==◌, List, [], ◌∷◌, ◌++◌, map, codes}
use Rattle.std.specs.Prelude.{Bool, true, false, ◌≤◌, Option, Some, None, IfSome, MatchOption, if◌then◌else◌}
use Rattle.std.specs.Fmt.{decimal, signed_decimal}
use Rattle.std.specs.List.{All, AllByRecursion}
use Rattle.std.specs.Str.{IsAscii}
use Rattle.clr_rows.specs.declared.tables.TableDef.{TableDef}
use Rattle.clr_rows.specs.Names.{is_good_name}
use Rattle.clr_rows.specs.Schemas.{cell_fault, name_of_table}
use Rattle.clr_needs.specs.declared.needs.VersionId.{VersionId}
use Rattle.clr_records.specs.Writing.{records_text}
use Rattle.clr_cert.specs.declared.certificates.Certificate.{Certificate}
use Rattle.clr_cert.specs.declared.certificates.Entry.{Entry}
use Rattle.clr_cert.specs.declared.certificates.Precedence.{Precedence}
use Rattle.clr_cert.specs.declared.limits.TheConstants.{GREATEST_PART}
use Rattle.clr_cert.specs.Certificates.{is_live}
use Rattle.clr_cert.specs.Versions.{entry_of, slash}

abbrev pub fresh_word : Bool → List ℕ
fresh_word false = codes "old"
fresh_word true = codes "new"

-- a version is written as `main/20/new`
abbrev pub version_text : List TableDef → VersionId → List ℕ
version_text tables v = name_of_table tables v.cell.table ++ slash ∷ (signed_decimal v.cell.key ++ slash ∷ fresh_word v.fresh)

-- a part is written where it isn't 1
abbrev pub entry_part_text : ℕ → List ℕ
entry_part_text part = if part == 1 then [] else slash ∷ decimal part

abbrev pub entry_subject_text : List TableDef → VersionId → ℕ → List ℕ
entry_subject_text tables v part = version_text tables v ++ entry_part_text part

abbrev pub entry_second_text : List TableDef → Option VersionId → ℕ → List ℕ
entry_second_text tables None part = []
entry_second_text tables (Some v) part = entry_subject_text tables v part

abbrev pub two_text : List TableDef → Option VersionId → List ℕ
two_text tables None = []
two_text tables (Some v) = version_text tables v

-- the record of a word and a name
abbrev pub name_fields : List ℕ → List ℕ → List (List ℕ)
name_fields word name = word ∷ name ∷ [] ∷ [] ∷ [] ∷ [] ∷ []

abbrev pub member_fields : List ℕ → List (List ℕ)
member_fields name = name_fields (codes "member") name

-- the record of a precedence
abbrev pub before_fields : Precedence → List (List ℕ)
before_fields p = codes "before" ∷ p.earlier ∷ p.later ∷ [] ∷ [] ∷ [] ∷ []

-- the record of an entry
abbrev pub entry_fields : List TableDef → Entry → List (List ℕ)
entry_fields tables e =
    codes "need" ∷ decimal e.need.rule ∷ entry_subject_text tables e.need.first e.need.first_part ∷ entry_second_text tables e.need.second e.need.second_part
    ∷ version_text tables e.one ∷ two_text tables e.two ∷ []

-- a root is written where it isn't LIVE
abbrev pub root_records : List ℕ → List (List (List ℕ))
root_records name = if is_live name then [] else name_fields (codes "root") name ∷ []

-- the records of a certificate: its root, its members in order, its precedences in order, and its entries in order
unfoldable pub certificate_records : List TableDef → Certificate → List (List (List ℕ))
certificate_records tables c =
    root_records c.root ++ (map member_fields c.members ++ (map before_fields c.before ++ map (entry_fields tables) c.entries))

-- the text of a certificate
abbrev pub certificate_text : List TableDef → Certificate → List ℕ
certificate_text tables c = records_text (certificate_records tables c)

-- the certificates that have a text ------------------------------------------------------------

-- the schema names the cell of a version
abbrev pub IsInSchema : List TableDef → VersionId → Type 0
IsInSchema tables v = cell_fault tables v.cell ≡ None

abbrev pub IsPart : ℕ → Type 0
IsPart part = (1 ≤ part) × (part ≤ GREATEST_PART)

-- the schema names the cells of an entry, and its parts are parts of a path; without a second subject its part is 1
pub record IsWellFormedEntry (tables : List TableDef) (e : Entry) : Type 0 where
  pub first : IsInSchema tables e.need.first
  pub first_part : IsPart e.need.first_part
  pub second : MatchOption e.need.second (e.need.second_part ≡ 1) (λ v. IsInSchema tables v × IsPart e.need.second_part)
  pub one : IsInSchema tables e.one
  pub two : IfSome e.two (IsInSchema tables)

-- both names are good
pub record IsWellFormedPrecedence (p : Precedence) : Type 0 where
  pub earlier : is_good_name p.earlier ≡ true
  pub later : is_good_name p.later ≡ true

-- the names are good, and the schema names each cell
pub record IsWellFormed (tables : List TableDef) (c : Certificate) : Type 0 where
  pub root : is_good_name c.root ≡ true
  pub members : All (λ name. is_good_name name ≡ true) c.members
  pub before : All IsWellFormedPrecedence c.before
  pub entries : All (IsWellFormedEntry tables) c.entries

-- writing ------------------------------------------------------------------------------------

-- the record of an entry is ASCII, and is read as the entry
pub record IsReadBack (tables : List TableDef) (e : Entry) : Type 0 where
  pub ascii : AllByRecursion IsAscii (entry_fields tables e)
  pub entry : entry_of tables (entry_fields tables e) ≡ Some e

-- the record of an entry is read back where the schema names the cells of the entry, and its parts are parts of a path
abbrev pub IsReadBackWhereNamed : List TableDef → Entry → Type 0
IsReadBackWhereNamed tables e = IsWellFormedEntry tables e → IsReadBack tables e
