-- The record of an entry is in ASCII, and is read as the entry.
use Rattle.std.proofs.Common.{◌≡◌, ℕ, ◌<◌, ◌^◌, ◌==◌, ◌&&◌, Bool, true, false, not, List, [], ◌∷◌, ◌++◌, length, codes, Option, Some, None, pos, refl, arith}
use Rattle.std.proofs.Common.{ltb, append_assoc}
use Rattle.std.specs.Prelude.{IfSome, MatchOption}
use Rattle.std.specs.List.{list_all, position_or_len}
use Rattle.std.specs.Fmt.{decimal, signed_decimal}
use Rattle.std.specs.Str.{IsAscii}
use Rattle.std.specs.Str.Parse.{AllDigits}
use Rattle.std.proofs.lemmas.Bool.{ne_eqb, lt-ltb, le-leb, eqb-true}
use Rattle.std.proofs.lemmas.Bool.Decides.{nat_tests}
use Rattle.std.proofs.lemmas.List.{append-nil, length-append, take_at}
use Rattle.std.proofs.Math.Seq.{drop-append-add}
use Rattle.std.proofs.lemmas.Fmt.{IsAscii-decimal, decimal_is_IsNumeral}
use Rattle.std.proofs.lemmas.Str.{IsAscii-append}
use Rattle.std.proofs.lemmas.Str.Ascii.{IsAscii-cons, IsAscii-nil}
use Rattle.std.proofs.lemmas.Str.Parse.{digit_from_value}
use Rattle.csv.specs.Records.{field_at}
use Rattle.clr_rows.specs.declared.cells.CellId.{CellId}
use Rattle.clr_rows.specs.declared.tables.TableDef.{TableDef}
use Rattle.clr_rows.specs.Names.{is_good_name, is_name_byte}
use Rattle.clr_rows.specs.Numbers.{is_i64}
use Rattle.clr_rows.specs.Schemas.{cell_fault, schema_fault, table_named, name_of_table}
use Rattle.clr_rows.proofs.SchemaLemmas.{cell_parts, good_table_name, key_of, table_of_name}
use Rattle.clr_needs.specs.declared.needs.VersionId.{VersionId}
use Rattle.clr_records.specs.Decimals.{number_of}
use Rattle.clr_records.proofs.Decimals.{number_again}
use Rattle.clr_records.proofs.Utf8.{name_byte_low}
use Rattle.clr_cert.specs.declared.certificates.Entry.{Entry}
use Rattle.clr_cert.specs.declared.limits.TheConstants.{GREATEST_PART}
use Rattle.clr_cert.specs.Texts.{
  IsInSchema,
  IsWellFormedEntry,
  IsPart,
  IsReadBack,
  entry_fields,
  fresh_word,
  entry_part_text,
  entry_second_text,
  entry_subject_text,
  two_text,
}
use Rattle.clr_cert.specs.Texts.{version_text}
use Rattle.clr_cert.specs.Versions.{cell_and_rest, slash_cut_of, entry_of, fresh_of, is_slash, second_of, subject_of, two_of, written_version_of, word_and_part}

-- texts without `/` ------------------------------------------------------------------------------

abbrev no_slash : ℕ → Bool
no_slash b = not (is_slash b)

and_left : (a b : Bool) → (a && b) ≡ true → a ≡ true
and_left true b e = refl
and_left false b e = cc

and_right : (a b : Bool) → (a && b) ≡ true → b ≡ true
and_right true b e = e
and_right false b e = cc

slash_at : (s rest : List ℕ) → list_all no_slash s ≡ true → position_or_len is_slash (s ++ 47 ∷ rest) ≡ length s
slash_at [] rest e = refl
slash_at (b ∷ s) rest e = rw (and_left (no_slash b) (list_all no_slash s) e, slash_at s rest (and_right (no_slash b) (list_all no_slash s) e)) (omega arith)

cut_again : (s rest : List ℕ) → list_all no_slash s ≡ true → slash_cut_of (s ++ 47 ∷ rest) ≡ Some (s, rest)
unfolding slash_cut_of
cut_again s rest e =
    let lt : ltb (length s) (length (s ++ 47 ∷ rest)) ≡ true = lt-ltb (length s) (length (s ++ 47 ∷ rest)) (omega (arith, length-append s (47 ∷ rest))) in
    rw (slash_at s rest e, lt, take_at s (47 ∷ rest) (length s) refl, drop-append-add s (47 ∷ rest) 1) refl

digits_plain : (ds : List ℕ) → AllDigits 10 ds → list_all no_slash ds ≡ true
digits_plain [] all = refl
digits_plain (c ∷ cs) all =
    let r = digit_from_value c all.0 in
    rw (ne_eqb c 47 (λ e. omega arith)) (digits_plain cs all.1)

decimal_plain : (n : ℕ) → n < 2 ^ 64 → list_all no_slash (decimal n) ≡ true
decimal_plain n lt = digits_plain (decimal n) (decimal_is_IsNumeral n lt).0.1

-- names ------------------------------------------------------------------------------------------

name_byte_plain : (b : ℕ) → is_name_byte b ≡ true → (b == 47) ≡ false
name_byte_plain b e = grind (arith, nat_tests)

bytes_ascii : (s : List ℕ) → list_all is_name_byte s ≡ true → IsAscii s
bytes_ascii [] e = IsAscii-nil
bytes_ascii (b ∷ s) e = IsAscii-cons b s (name_byte_low b (and_left (is_name_byte b) (list_all is_name_byte s) e))
    (bytes_ascii s (and_right (is_name_byte b) (list_all is_name_byte s) e))

bytes_plain : (s : List ℕ) → list_all is_name_byte s ≡ true → list_all no_slash s ≡ true
bytes_plain [] e = refl
bytes_plain (b ∷ s) e = rw (name_byte_plain b (and_left (is_name_byte b) (list_all is_name_byte s) e))
    (bytes_plain s (and_right (is_name_byte b) (list_all is_name_byte s) e))

name_bytes : (name : List ℕ) → is_good_name name ≡ true → list_all is_name_byte name ≡ true
unfolding is_good_name
name_bytes name e = and_right _ (list_all is_name_byte name) e

pub name_ascii : (name : List ℕ) → is_good_name name ≡ true → IsAscii name
name_ascii name e = bytes_ascii name (name_bytes name e)

-- cells ------------------------------------------------------------------------------------------

-- what is known of a cell that the schema names
record Known (tables : List TableDef) (cell : CellId) : Type 0 where
  name : table_named tables (name_of_table tables cell.table) ≡ Some cell.table
  bytes : list_all is_name_byte (name_of_table tables cell.table) ≡ true
  key : ℕ
  key_is : cell.key ≡ pos key
  key_low : key < 2 ^ 63

known : (tables : List TableDef) (cell : CellId) → schema_fault tables ≡ None → cell_fault tables cell ≡ None → Known tables cell
known tables cell sound e =
    let p = cell_parts tables cell e in
    let k = key_of cell.key p.2 in
    let here : name_of_table tables cell.table ≡ p.0.name = rw p.1 refl in
    record {
      name = rw here (table_of_name tables cell.table p.0 sound p.1);
      bytes = rw here (name_bytes p.0.name (good_table_name tables cell.table p.0 sound p.1));
      key = k.0;
      key_is = k.1;
      key_low = omega (arith, k.3);
    }

within : (n : ℕ) → n < 2 ^ 63 → is_i64 (pos n) ≡ true
within n lt = lt-ltb n (2 ^ 63) lt

cell_again : (tables : List TableDef) (cell : CellId) (rest : List ℕ) → schema_fault tables ≡ None → cell_fault tables cell ≡ None
    → cell_and_rest tables (name_of_table tables cell.table ++ 47 ∷ (signed_decimal cell.key ++ 47 ∷ rest)) ≡ Some (cell, rest)
unfolding cell_and_rest
cell_again tables cell rest sound e =
    let k = known tables cell sound e in
    let low = k.key_low in
    let digits : list_all no_slash (signed_decimal cell.key) ≡ true = rw k.key_is (decimal_plain k.key (omega arith)) in
    let number : number_of (signed_decimal cell.key) ≡ Some cell.key = rw k.key_is (number_again (pos k.key) (within k.key low)) in
    rw (
      cut_again (name_of_table tables cell.table) (signed_decimal cell.key ++ 47 ∷ rest) (bytes_plain (name_of_table tables cell.table) k.bytes),
      cut_again
          (signed_decimal cell.key) rest digits,
      k.name,
      number,
      e,
    ) refl

cell_ascii : (tables : List TableDef) (cell : CellId) (rest : List ℕ) → schema_fault tables ≡ None → cell_fault tables cell ≡ None → IsAscii rest
    → IsAscii (name_of_table tables cell.table ++ 47 ∷ (signed_decimal cell.key ++ 47 ∷ rest))
cell_ascii tables cell rest sound e h =
    let k = known tables cell sound e in
    let low = k.key_low in
    let digits : IsAscii (signed_decimal cell.key) = rw k.key_is (IsAscii-decimal k.key (omega arith)) in
    IsAscii-append (name_of_table tables cell.table) (47 ∷ (signed_decimal cell.key ++ 47 ∷ rest)) (bytes_ascii (name_of_table tables cell.table) k.bytes)
    (IsAscii-cons 47 (signed_decimal cell.key ++ 47 ∷ rest) (omega arith) (IsAscii-append (signed_decimal cell.key) (47
    ∷ rest) digits (IsAscii-cons 47 rest (omega arith) h)))

-- versions and subjects --------------------------------------------------------------------------

fresh_again : (b : Bool) → fresh_of (fresh_word b) ≡ Some b
fresh_again true = refl
fresh_again false = refl

fresh_plain : (b : Bool) → list_all no_slash (fresh_word b) ≡ true
fresh_plain true = refl
fresh_plain false = refl

fresh_ascii : (b : Bool) → IsAscii (fresh_word b)
fresh_ascii true = bytes_ascii (fresh_word true) refl
fresh_ascii false = bytes_ascii (fresh_word false) refl

version_again : (tables : List TableDef) (v : VersionId) → schema_fault tables ≡ None → IsInSchema tables v
    → written_version_of tables (version_text tables v) ≡ Some v
unfolding written_version_of
version_again tables v sound is = rw (cell_again tables v.cell (fresh_word v.fresh) sound is, fresh_again v.fresh) refl

version_ascii : (tables : List TableDef) (v : VersionId) → schema_fault tables ≡ None → IsInSchema tables v → IsAscii (version_text tables v)
version_ascii tables v sound is = cell_ascii tables v.cell (fresh_word v.fresh) sound is (fresh_ascii v.fresh)

-- a subject's text: its cell, and then its word and its part
subject_is : (tables : List TableDef) (v : VersionId) (part : ℕ)
    → entry_subject_text tables v part ≡ name_of_table tables v.cell.table ++ 47 ∷ (signed_decimal v.cell.key ++ 47 ∷
    (fresh_word v.fresh ++ entry_part_text part))
subject_is tables v part =
    rw (
      append_assoc (name_of_table tables v.cell.table) (47 ∷ (signed_decimal v.cell.key ++ 47 ∷ fresh_word v.fresh)) (entry_part_text part),
      append_assoc
          (signed_decimal v.cell.key) (47 ∷ fresh_word v.fresh) (entry_part_text part),
    ) refl

no_part : (b : Bool) → word_and_part (fresh_word b) ≡ Some (fresh_word b, 1)
unfolding slash_cut_of
no_part true = refl
no_part false = refl

part_again : (b : Bool) (part : ℕ) → IsPart part → word_and_part (fresh_word b ++ entry_part_text part) ≡ Some (fresh_word b, part)
part_again b part is = by (part == 1) refl
  where
    by : (one : Bool) → (part == 1) ≡ one → word_and_part (fresh_word b ++ entry_part_text part) ≡ Some (fresh_word b, part)
    by true e = rw (eqb-true part 1 e, append-nil (fresh_word b)) (no_part b)
    by false e =
        let more : 1 < part = grind (arith, nat_tests, is.0) in
        let most = is.1 in
        rw (
          e,
          cut_again (fresh_word b) (decimal part) (fresh_plain b),
          number_again (pos part) (within part (omega arith)),
          lt-ltb 1 part more,
          le-leb part
              GREATEST_PART most,
        ) refl

part_ascii : (b : Bool) (part : ℕ) → IsPart part → IsAscii (fresh_word b ++ entry_part_text part)
part_ascii b part is = IsAscii-append (fresh_word b) (entry_part_text part) (fresh_ascii b) (by (part == 1) refl)
  where
    by : (one : Bool) → (part == 1) ≡ one → IsAscii (entry_part_text part)
    by true e = rw e IsAscii-nil
    by false e = let most = is.1 in rw e (IsAscii-cons 47 (decimal part) (omega arith) (IsAscii-decimal part (omega arith)))

module _ (tables : List TableDef) (v : VersionId) (part : ℕ) (sound : schema_fault tables ≡ None) (is : IsInSchema tables v) (one : IsPart part) where
  subject_again : subject_of tables (entry_subject_text tables v part) ≡ Some (v, part)
  unfolding subject_of
  subject_again =
      rw (
        subject_is tables v part,
        cell_again tables v.cell
            (fresh_word v.fresh ++ entry_part_text part) sound is,
        part_again v.fresh part one,
        fresh_again v.fresh,
      )
      refl

  subject_ascii : IsAscii (entry_subject_text tables v part)
  subject_ascii =
      rw (subject_is tables v part) (cell_ascii tables v.cell (fresh_word v.fresh ++ entry_part_text part) sound is (part_ascii v.fresh part one))

-- a subject's text, and a version's, has a byte
subject_long : (tables : List TableDef) (v : VersionId) (part : ℕ) → (length (entry_subject_text tables v part) == 0) ≡ false
subject_long tables v part =
    rw (subject_is tables v part) (ne_eqb _ 0 (λ e. omega (
      arith,
      length-append (name_of_table tables v.cell.table) (47
          ∷ (signed_decimal v.cell.key ++ 47 ∷ (fresh_word v.fresh ++ entry_part_text part))),
    )))

version_long : (tables : List TableDef) (v : VersionId) → (length (version_text tables v) == 0) ≡ false
version_long tables v = ne_eqb _ 0 (λ e. omega (
  arith,
  length-append (name_of_table tables v.cell.table) (47
      ∷ (signed_decimal v.cell.key ++ 47 ∷ fresh_word v.fresh)),
))

-- a second subject's text is read as the subject, and is in ASCII
second_again : (tables : List TableDef) (second : Option VersionId) (part : ℕ) → schema_fault tables ≡ None
    → MatchOption second (part ≡ 1) (λ v. IsInSchema tables v × IsPart part)
    → (second_of tables (entry_second_text tables second part) ≡ Some (second, part)) × IsAscii (entry_second_text tables second part)
second_again tables None part sound is = (rw is refl, IsAscii-nil)
second_again tables (Some v) part sound is =
    (rw (subject_long tables v part, subject_again tables v part sound is.0 is.1) refl, subject_ascii tables v part sound is.0 is.1)

-- a second witness is read as it was written, and its text is ASCII
two_again : (tables : List TableDef) (two : Option VersionId) → schema_fault tables ≡ None → IfSome two (IsInSchema tables)
    → (two_of tables (two_text tables two) ≡ Some two) × IsAscii (two_text tables two)
two_again tables None sound is = (refl, IsAscii-nil)
two_again tables (Some v) sound is = (rw (version_long tables v, version_again tables v sound is) refl, version_ascii tables v sound is)

-- entries ----------------------------------------------------------------------------------------

module _ (tables : List TableDef) (e : Entry) (sound : schema_fault tables ≡ None) (is : IsWellFormedEntry tables e) (lt : e.need.rule < 2 ^ 16) where
  entry_again : entry_of tables (entry_fields tables e) ≡ Some e
  unfolding entry_of field_at
  entry_again =
      rw (
        number_again (pos e.need.rule) (within e.need.rule (omega arith)),
        lt-ltb e.need.rule (2 ^ 16) lt,
        subject_again tables e.need.first e.need.first_part sound is.first is.first_part,
        (second_again tables e.need.second e.need.second_part sound is.second).0,
        version_again tables e.one sound is.one,
        (two_again tables e.two sound is.two).0,
      ) refl

  pub entry_read_back : IsReadBack tables e
  entry_read_back = record {
    ascii = (
      bytes_ascii (codes "need") refl,
      (
        IsAscii-decimal e.need.rule (omega arith),
        (
          subject_ascii tables e.need.first e.need.first_part sound is.first is.first_part,
          (
            (second_again tables e.need.second e.need.second_part sound is.second).1,
            (
              version_ascii tables e.one sound is.one,
              ((two_again tables e.two sound is.two).1, tt),
            ),
          ),
        ),
      ),
    );
    entry = entry_again;
  }
