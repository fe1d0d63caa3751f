-- Records that are written, each with a field, are read back.
use Rattle.std.proofs.Common.{◌≡◌, ℕ, suc, ◌<◌, ◌≤◌, ◌==◌, Bool, true, false, cond, List, [], ◌∷◌, ◌++◌, length, get_or, Some, None, refl, sym, ap, subst, ltb}
use Rattle.std.proofs.Common.{arith}
use Rattle.std.proofs.Common.{append-nil}
use Rattle.std.specs.Prelude.{IsUtf8}
use Rattle.std.specs.List.{AllByRecursion, flat_map, list_any}
use Rattle.std.specs.Str.{IsAscii}
use Rattle.std.proofs.lemmas.Bool.{and_parts, ltb-true, ne_eqb}
use Rattle.std.proofs.lemmas.Bool.Decides.{nat_tests}
use Rattle.std.proofs.lemmas.Str.{IsAscii-append, IsUtf8-append, IsUtf8-from_ascii, IsUtf8-nil, encode_ascii, inside_one, is_utf8-from_IsUtf8}
use Rattle.std.proofs.lemmas.Str.Ascii.{IsAscii-cons, IsAscii-nil}
use Rattle.csv.specs.Machine.{next_record}
use Rattle.csv.specs.Reading.{Reached, default_config, records, strip_bom}
use Rattle.csv.specs.Writing.{default_writer, escaped, field_text, fields_text, is_blank, needs_byte, quoted, read_back, row_body, row_text}
use Rattle.csv.specs.declared.parser.State.TheVariants as st
use Rattle.csv.proofs.RoundTrip.{read-write}
use Rattle.clr_records.specs.Records.{records_in}
use Rattle.clr_records.proofs.RecordTurns.{all_read}
use lib.Utf8.{encode, encodes, scalar, scalars}

abbrev rows_text : List (List (List ℕ)) → List ℕ
rows_text rows = flat_map (row_text default_writer) rows

-- a record with a field
abbrev pub HasField : List (List ℕ) → Type 0
HasField fields = read_back fields ≡ fields

written : (rows : List (List (List ℕ))) → AllByRecursion HasField rows → Reached default_config st.StartRecord (rows_text rows) rows st.StartRecord []
unfolding Reached
written [] all = (refl, refl)
written (r ∷ rows) all = ((read_back r, st.StartRecord, rows_text rows), read-write r (rows_text rows), sym all.0, written rows all.1)

nothing : next_record default_config st.StartRecord [] [] [] ≡ None
unfolding next_record
nothing = refl

-- the records of a text of records
pub read_written : (rows : List (List (List ℕ))) → AllByRecursion HasField rows → records default_config (rows_text rows) ≡ rows
read_written rows all = all_read default_config (rows_text rows) rows (st.StartRecord, [], written rows all, nothing)

-- what holds of the text of records if it holds of their fields -----------------------------------

-- what holds of ASCII bytes, of texts put together, and of a text between quotes
pub record IsClosed (P : List ℕ → Type 0) : Type 0 where
  pub none : P []
  pub byte : (b : ℕ) → b < 128 → P (b ∷ [])
  pub joined : (s t : List ℕ) → P s → P t → P (s ++ t)
  pub within_quotes : (s : List ℕ) → P s → P (escaped default_writer s)

either : (P : List ℕ → Type 0) (b : Bool) (x y : List ℕ) → P x → P y → P (cond b x y)
either P true x y h k = h
either P false x y h k = k

field_closed : (P : List ℕ → Type 0) → IsClosed P → (s : List ℕ) → P s → P (field_text default_writer s)
field_closed P is s h =
    let quote = is.byte 34 (omega arith) in
    either P (list_any (needs_byte default_writer) s) (quoted default_writer s) s
    (is.joined (34 ∷ []) (escaped default_writer s ++ (34 ∷ [])) quote (is.joined (escaped default_writer s) (34 ∷ []) (is.within_quotes s h) quote)) h

fields_closed : (P : List ℕ → Type 0) → IsClosed P → (xs : List (List ℕ)) → AllByRecursion P xs → P (fields_text default_writer xs)
unfolding fields_text
fields_closed P is [] all = is.none
fields_closed P is (x ∷ xs) all =
    is.joined (44 ∷ []) (field_text default_writer x ++ fields_text default_writer xs) (is.byte 44 (omega arith))
    (is.joined (field_text default_writer x) (fields_text default_writer xs) (field_closed P is x all.0) (fields_closed P is xs all.1))

body_closed : (P : List ℕ → Type 0) → IsClosed P → (fields : List (List ℕ)) → AllByRecursion P fields → P (row_body default_writer fields)
body_closed P is [] all = is.none
body_closed P is (x ∷ xs) all =
    is.joined (field_text default_writer x) (fields_text default_writer xs) (field_closed P is x all.0) (fields_closed P is xs all.1)

row_closed : (P : List ℕ → Type 0) → IsClosed P → (fields : List (List ℕ)) → AllByRecursion P fields → P (row_text default_writer fields)
row_closed P is fields all =
    let quotes = is.joined (34 ∷ []) (34 ∷ []) (is.byte 34 (omega arith)) (is.byte 34 (omega arith)) in
    let blank = either P (is_blank default_writer fields) (34 ∷ 34 ∷ []) [] quotes is.none in
    let end = is.joined (cond (is_blank default_writer fields) (34 ∷ 34 ∷ []) []) (10 ∷ []) blank (is.byte 10 (omega arith)) in
    is.joined (row_body default_writer fields) (cond (is_blank default_writer fields) (34 ∷ 34 ∷ []) [] ++ 10 ∷ []) (body_closed P is fields all) end

-- what holds of the fields holds of the text of the records
pub rows_closed : (P : List ℕ → Type 0) → IsClosed P → (rows : List (List (List ℕ))) → AllByRecursion (λ fields. AllByRecursion P fields) rows
    → P (rows_text rows)
rows_closed P is [] all = is.none
rows_closed P is (r ∷ rows) all = is.joined (row_text default_writer r) (rows_text rows) (row_closed P is r all.0) (rows_closed P is rows all.1)

-- texts in ASCII ------------------------------------------------------------------------------------

behind : (b : ℕ) (s : List ℕ) → IsAscii (b ∷ s) → IsAscii s
behind b s h = λ i. h (suc i)

escaped_ascii : (s : List ℕ) → IsAscii s → IsAscii (escaped default_writer s)
unfolding escaped
escaped_ascii [] h = h
escaped_ascii (b ∷ s) h =
    let more = IsAscii-cons b (escaped default_writer s) (h 0) (escaped_ascii s (behind b s h)) in
    either IsAscii (b == 34) (34 ∷ b ∷ escaped default_writer s) (b ∷ escaped default_writer s)
    (IsAscii-cons 34 (b ∷ escaped default_writer s) (omega arith) more) more

pub ascii_closed : IsClosed IsAscii
ascii_closed = record {
  none = IsAscii-nil;
  byte = λ b lt. IsAscii-cons b [] lt IsAscii-nil;
  joined = IsAscii-append;
  within_quotes = escaped_ascii;
}

-- texts in UTF-8 ------------------------------------------------------------------------------------

no_quote : (s : List ℕ) → ((k : ℕ) → k < length s → get_or s k 0 ≡ 34 → ⊥) → escaped default_writer s ≡ s
unfolding escaped
no_quote [] h = refl
no_quote (b ∷ s) h =
    let other : (b == 34) ≡ false = ne_eqb b 34 (λ e. h 0 (omega arith) e) in
    rw other (ap (λ t. b ∷ t) (no_quote s (λ k lt e. h (suc k) (omega arith) e)))

escaped_append : (s t : List ℕ) → escaped default_writer (s ++ t) ≡ escaped default_writer s ++ escaped default_writer t
unfolding escaped
escaped_append [] t = refl
escaped_append (b ∷ s) t = by (b == 34) refl (escaped_append s t)
  where
    by : (q : Bool) → (b == 34) ≡ q → escaped default_writer (s ++ t) ≡ escaped default_writer s ++ escaped default_writer t
        → escaped default_writer ((b ∷ s) ++ t) ≡ escaped default_writer (b ∷ s) ++ escaped default_writer t
    by true e rest = rw e (ap (λ u. 34 ∷ b ∷ u) rest)
    by false e rest = rw e (ap (λ u. b ∷ u) rest)

one_char : (c : ℕ) → IsUtf8 (encode c) → IsUtf8 (escaped default_writer (encode c))
one_char c utf8 = by (ltb c 128) refl
  where
    by : (low : Bool) → ltb c 128 ≡ low → IsUtf8 (escaped default_writer (encode c))
    by true e =
        let lt : c < 128 = ltb-true c 128 e in
        let ascii = escaped_ascii (c ∷ []) (IsAscii-cons c [] lt IsAscii-nil) in
        rw (encode_ascii c lt) (IsUtf8-from_ascii (escaped default_writer (c ∷ [])) ascii)
    by false e =
        let high : 128 ≤ c = grind (arith, nat_tests) in
        let plain = no_quote (encode c) (λ k lt is.
        let same : c ≡ get_or (encode c) k 0 = inside_one c [] (encode c) k (sym (append-nil (encode c))) lt (omega arith) in
        omega arith) in
        rw plain utf8

chars_escaped : (cs : List ℕ) → scalars cs ≡ true → IsUtf8 (escaped default_writer (encodes cs))
unfolding escaped
chars_escaped [] e = IsUtf8-nil
chars_escaped (c ∷ cs) e =
    let t = and_parts (scalar c) (scalars cs) e in
    let one : IsUtf8 (encode c) = (c ∷ [], (rw t.0 refl, append-nil (encode c))) in
    rw (escaped_append (encode c) (encodes cs)) (IsUtf8-append (escaped default_writer (encode c)) (escaped default_writer (encodes cs)) (one_char c one)
    (chars_escaped cs t.1))

escaped_utf8 : (s : List ℕ) → IsUtf8 s → IsUtf8 (escaped default_writer s)
escaped_utf8 s h = subst (λ t. IsUtf8 (escaped default_writer t)) h.1.1 (chars_escaped h.0 h.1.0)

pub utf8_closed : IsClosed IsUtf8
utf8_closed = record {
  none = IsUtf8-nil;
  byte = λ b lt. IsUtf8-from_ascii (b ∷ []) (IsAscii-cons b [] lt IsAscii-nil);
  joined = IsUtf8-append;
  within_quotes = escaped_utf8;
}

-- records that are read again -----------------------------------------------------------------------

-- a record with a field, of each of which P holds
pub record IsPlain (P : List ℕ → Type 0) (fields : List (List ℕ)) : Type 0 where
  pub some : read_back fields ≡ fields
  pub each : AllByRecursion P fields

have_field : (P : List ℕ → Type 0) (rows : List (List (List ℕ))) → AllByRecursion (IsPlain P) rows → AllByRecursion HasField rows
have_field P [] all = tt
have_field P (r ∷ rows) all = (all.0.some, have_field P rows all.1)

each_field : (P : List ℕ → Type 0) (rows : List (List (List ℕ))) → AllByRecursion (IsPlain P) rows → AllByRecursion (λ fields. AllByRecursion P fields) rows
each_field P [] all = tt
each_field P (r ∷ rows) all = (all.0.each, each_field P rows all.1)

again : (rows : List (List (List ℕ))) → AllByRecursion HasField rows → IsUtf8 (rows_text rows) → strip_bom (rows_text rows) ≡ rows_text rows
    → records_in (rows_text rows) ≡ Some rows
again rows all utf8 no_mark = rw (is_utf8-from_IsUtf8 (rows_text rows) utf8, no_mark, read_written rows all) refl

-- the records of a text of records in UTF-8 that doesn't begin with a byte order mark
pub records_again : (rows : List (List (List ℕ))) → AllByRecursion (IsPlain IsUtf8) rows → strip_bom (rows_text rows) ≡ rows_text rows
    → records_in (flat_map (row_text default_writer) rows) ≡ Some rows
records_again rows all no_mark = again rows (have_field IsUtf8 rows all) (rows_closed IsUtf8 utf8_closed rows (each_field IsUtf8 rows all)) no_mark

no_mark : (s : List ℕ) → IsAscii s → strip_bom s ≡ s
unfolding strip_bom
no_mark [] h = refl
no_mark (a ∷ []) h = refl
no_mark (a ∷ b ∷ []) h = refl
no_mark (a ∷ b ∷ c ∷ s) h =
    let low : a < 128 = h 0 in
    rw (ne_eqb a 239 (λ e. omega arith)) refl

-- the records of a text of records in ASCII
pub ascii_records_again : (rows : List (List (List ℕ))) → AllByRecursion (IsPlain IsAscii) rows
    → records_in (flat_map (row_text default_writer) rows) ≡ Some rows
ascii_records_again rows all =
    let ascii = rows_closed IsAscii ascii_closed rows (each_field IsAscii rows all) in
    again rows (have_field IsAscii rows all) (IsUtf8-from_ascii (rows_text rows) ascii) (no_mark (rows_text rows) ascii)
