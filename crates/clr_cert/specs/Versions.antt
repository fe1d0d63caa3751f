-- The versions, the subjects and the needs that fields name.
use Rattle.std.specs.Prelude.{ℕ, ◌^◌, ◌==◌, ◌&&◌, ℤ, pos, negsuc, List, length, codes}
use Rattle.std.specs.Prelude.{Bool, true, false, nat_lt, nat_le, Option, Some, None, option_map, position, if◌then◌else◌}
use Rattle.std.specs.List.{after_first, before_first}
use Rattle.std.specs.Option.{is_none, option_and_then}
use Rattle.std.specs.Str.{bytes_eq}
use Rattle.clr_rows.specs.declared.cells.CellId.{CellId}
use Rattle.clr_rows.specs.declared.tables.TableDef.{TableDef}
use Rattle.clr_rows.specs.Schemas.{cell_fault, table_named}
use Rattle.clr_needs.specs.declared.needs.VersionId.{VersionId}
use Rattle.clr_records.specs.Decimals.{number_of}
use Rattle.clr_records.specs.Records.{field_of}
use Rattle.clr_cert.specs.declared.certificates.Entry.{Entry}
use Rattle.clr_cert.specs.declared.limits.TheConstants.{GREATEST_PART}

infixl 10 ◌>>=◌
abbrev pub ◌>>=◌ : {A B : Type 0} → Option A → (A → Option B) → Option B
o >>= f = option_and_then f o

abbrev pub slash : ℕ
slash = 47

abbrev pub is_slash : ℕ → Bool
is_slash b = b == slash

-- what stands before and behind the first `/` of a text, if it has one
unfoldable pub slash_cut_of : List ℕ → Option (List ℕ × List ℕ)
slash_cut_of text = option_map (λ _. (before_first is_slash text, after_first is_slash text)) (position is_slash text)

-- a cell that the schema names
abbrev pub if_named : List TableDef → CellId → Option CellId
if_named tables cell = if is_none (cell_fault tables cell) then Some cell else None

-- the cell of a text `TABLE/KEY/..`, and what stands behind it
unfoldable pub cell_and_rest : List TableDef → List ℕ → Option (CellId × List ℕ)
cell_and_rest tables text = do
  named ← slash_cut_of text
  numbered ← slash_cut_of named.1
  table ← table_named tables named.0
  key ← number_of numbered.0
  cell ← if_named tables (record { table = table; key = key })
  Some (cell, numbered.1)

-- whether a word says the new version of a row, or the old one, or neither
abbrev pub fresh_of : List ℕ → Option Bool
fresh_of word =
    if bytes_eq word (codes "old") then Some false
    else (if bytes_eq word (codes "new") then Some true
    else None)

-- a witness: `TABLE/KEY/old` or `TABLE/KEY/new`
unfoldable pub written_version_of : List TableDef → List ℕ → Option VersionId
written_version_of tables text = do
  named ← cell_and_rest tables text
  fresh ← fresh_of named.1
  Some (record { cell = named.0; fresh = fresh })

-- a part that is written: above 1, and no greater than the greatest
abbrev pub written_part_of : ℤ → Option ℕ
written_part_of (pos n) = if nat_lt 1 n && nat_le n GREATEST_PART then Some n else None
written_part_of (negsuc n) = None

abbrev pub part_behind : Option (List ℕ × List ℕ) → List ℕ → Option (List ℕ × ℕ)
part_behind None text = Some (text, 1)
part_behind (Some parts) text = number_of parts.1 >>= written_part_of >>= λ part. Some (parts.0, part)

-- the word of a version, and the part behind it, which is 1 where none is written
abbrev pub word_and_part : List ℕ → Option (List ℕ × ℕ)
word_and_part text = part_behind (slash_cut_of text) text

-- a subject: a version, and then `/` and its part where that is above 1
unfoldable pub subject_of : List TableDef → List ℕ → Option (VersionId × ℕ)
subject_of tables text = do
  named ← cell_and_rest tables text
  last ← word_and_part named.1
  fresh ← fresh_of last.0
  Some (record { cell = named.0; fresh = fresh }, last.1)

abbrev pub is_empty : List ℕ → Bool
is_empty text = length text == 0

-- a second subject with its part, or none, with part 1
abbrev pub second_of : List TableDef → List ℕ → Option (Option VersionId × ℕ)
second_of tables text = if is_empty text then Some (None, 1) else option_map (λ subject. (Some subject.0, subject.1)) (subject_of tables text)

-- a second witness, or none
abbrev pub two_of : List TableDef → List ℕ → Option (Option VersionId)
two_of tables text = if is_empty text then Some None else option_map Some (written_version_of tables text)

-- a rule's number: 0 to 65,535
abbrev pub rule_of : ℤ → Option ℕ
rule_of (pos n) = if nat_lt n (2 ^ 16) then Some n else None
rule_of (negsuc n) = None

-- the need of a record, and its witnesses
unfoldable pub entry_of : List TableDef → List (List ℕ) → Option Entry
entry_of tables fields = do
  number ← number_of (field_of fields 1)
  rule ← rule_of number
  first ← subject_of tables (field_of fields 2)
  second ← second_of tables (field_of fields 3)
  one ← written_version_of tables (field_of fields 4)
  two ← two_of tables (field_of fields 5)
  Some (record { need = record { rule = rule; first = first.0; second = second.0; first_part = first.1; second_part = second.1 }; one = one; two = two })
