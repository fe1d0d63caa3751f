-- The faults of records, one record after another, and the keys of the rows before.
use Rattle.std.proofs.Common.{◌≡◌, ◌∙◌, ℕ, ℤ, ◌+◌, ◌<◌, ◌≤◌, Bool, true, false, not, cond, ◌||◌, List, [], ◌∷◌, ◌++◌, BTreeSet, Option, Some, None, Result, Ok, Err}
use Rattle.std.proofs.Common.{ap, append-nil, append_assoc, arith, drop, get_or, length, map, refl, subst, sym}
use Rattle.std.specs.BTreeSet.{IsEmpty, Updates, contains}
use Rattle.std.specs.List.{list_any}
use Rattle.std.specs.Option.{option_to_list}
use Rattle.std.specs.Ordering.{int_cmp, is_eq}
use Rattle.std.proofs.lemmas.Bool.{true≢false}
use Rattle.std.proofs.lemmas.List.{at_drop_all, at_drop_more}
use Rattle.csv.specs.Records.{Row, fields_of}
use Rattle.clr_rows.specs.declared.tables.TableDef.{TableDef}
use Rattle.clr_layer_text.specs.declared.faults.LayerFault.{LayerFault}
use Rattle.clr_layer_text.specs.declared.rows.LayerRow.{LayerRow}
use Rattle.clr_layer_text.specs.Layers.{Fields, fields_of_table, row_of}
use Rattle.clr_layer_changes.specs.declared.faults.LayersFault.TheVariants as of_layer
use Rattle.clr_layer_faults.specs.declared.found.FoundFault.{FoundFault}
use Rattle.clr_layer_faults.specs.Columns.{faulty_column}
use Rattle.clr_layer_faults.specs.FoundFaults.{Record, RowOrFault, faults_below, faults_from, faults_under, found_at, has_key, header_faults}
use Rattle.clr_layer_faults.specs.FoundFaults.{or_whole, own_keys, record_fault}
use Rattle.clr_layer_faults.specs.KeySets.{HasKeys, NotesKey, NotesRecord}

-- keys --------------------------------------------------------------------------------------------------

pub no_keys : (set : BTreeSet ℤ) → IsEmpty set → HasKeys [] set
no_keys set empty key = ap (list_any (λ other. is_eq (int_cmp key other))) empty

pub more_keys : (keys : List ℤ) (added key : ℤ) → has_key (keys ++ added ∷ []) key ≡ cond (is_eq (int_cmp added key)) true (has_key keys key)
more_keys [] added key = by (is_eq (int_cmp added key))
  where
    by : (b : Bool) → b || false ≡ cond b true false
    by true = refl
    by false = refl
more_keys (other ∷ keys) added key =
    ap (λ b. is_eq (int_cmp other key) || b) (more_keys keys added key) ∙ by (is_eq (int_cmp other key)) (is_eq (int_cmp added key)) (has_key keys key)
  where
    by : (a b t : Bool) → a || cond b true t ≡ cond b true (a || t)
    by true true t = refl
    by true false t = refl
    by false true t = refl
    by false false t = refl

-- a set with one more key
pub one_key : (keys : List ℤ) (old new : BTreeSet ℤ) (added : ℤ) → Updates int_cmp old new added true → HasKeys keys old → HasKeys (keys ++ added ∷ []) new
one_key keys old new added updates before key =
    updates.0 key ∙ ap (cond (is_eq (int_cmp added key)) true) (before key) ∙ sym (more_keys keys added key)

pub same_keys : (keys : List ℤ) (set : BTreeSet ℤ) → HasKeys keys set → HasKeys (keys ++ []) set
same_keys keys set before key = before key ∙ ap (λ ks. has_key ks key) (sym (append-nil keys))

-- a row without a key of its own
pub no_own_key : (number : ℕ) (key : Option ℤ) (set : BTreeSet ℤ) → key ≡ None → NotesKey number key set set None
no_own_key number key set is =
    subst (λ (k : Option ℤ). NotesKey number k set set None) (sym is) (λ before has. (refl, same_keys before set has))

-- a row whose key was added to those before it, or was one of them
pub own_key : (number : ℕ) (given : Option ℤ) (key : ℤ) (old new : BTreeSet ℤ) (added : Bool) (found : Option FoundFault) → given ≡ Some key
    → added ≡ not (contains int_cmp old key) → Updates int_cmp old new key true
    → found ≡ cond added None (Some (found_at number (Some 0) of_layer.KeyTwice)) → NotesKey number given old new found
own_key number given key old new added found is told updates which =
    subst (λ (k : Option ℤ). NotesKey number k old new found) (sym is)
    (λ before has. (which ∙ by added (has_key before key) (told ∙ ap not (has key)), one_key before old new key updates has))
  where
    by : (a b : Bool) → a ≡ not b
        → cond a None (Some (found_at number (Some 0) of_layer.KeyTwice)) ≡ cond b (Some (found_at number (Some 0) of_layer.KeyTwice)) None
    by true true e = absurd (true≢false e)
    by true false e = refl
    by false true e = refl
    by false false e = absurd (true≢false (sym e))

-- records -----------------------------------------------------------------------------------------------

module _ (read : Record → RowOrFault) (table : TableDef) (names : Record) where
  pub one_record : (keys : List ℤ) (n : ℕ) (fields : Record) (records : List Record) → faults_from read table names keys n (fields ∷ records)
      ≡ option_to_list (record_fault table names keys n fields (read fields)) ++ faults_from read table names (keys ++ own_keys (read fields)) (n + 1) records
  unfolding faults_from
  one_record keys n fields records = refl

  pub no_record : (keys : List ℤ) (n : ℕ) → faults_from read table names keys n [] ≡ []
  unfolding faults_from
  no_record keys n = refl

  pub begins : (records : List Row) (found : List FoundFault) → found ≡ [] → (set : BTreeSet ℤ) → IsEmpty set
      → (before : List ℤ) × HasKeys before set
      × (found ++ faults_from read table names before (2 + 0) (map fields_of (drop 0 records)) ≡ faults_from read table names [] 2 (map fields_of records))
  begins records found none set empty = ([], no_keys set empty, ap (λ fs. fs ++ faults_from read table names [] 2 (map fields_of records)) none)

  pub goes_on : (keys : List ℤ) (records : List Row) (i : ℕ) (row : Row) (found now : List FoundFault) (one : Option FoundFault) (set : BTreeSet ℤ)
      (whole : List FoundFault)
      → i < length records → row ≡ get_or records i row → one ≡ record_fault table names keys (2 + i) (fields_of row) (read (fields_of row))
      → now ≡ found ++ option_to_list one → HasKeys (keys ++ own_keys (read (fields_of row))) set
      → found ++ faults_from read table names keys (2 + i) (map fields_of (drop i records)) ≡ whole
      → (before : List ℤ) × HasKeys before set × (now ++ faults_from read table names before (2 + (i + 1)) (map fields_of (drop (i + 1) records)) ≡ whole)
  goes_on keys records i row found now one set whole lt is told added has so_far =
      let fields = fields_of row in
      let rest = map fields_of (drop (i + 1) records) in
      let behind = faults_from read table names (keys ++ own_keys (read fields)) (2 + i + 1) rest in
      let next : 2 + (i + 1) ≡ 2 + i + 1 = omega arith in
      let step = at_drop_more (λ rs. faults_from read table names keys (2 + i) (map fields_of rs)) records i row lt
      ∙ ap (λ r. faults_from read table names keys (2 + i) (fields_of r ∷ rest)) (sym is) ∙ one_record keys (2 + i) fields rest in (
        keys ++ own_keys (read fields),
        has,
        ap (λ n. now ++ faults_from read table names (keys ++ own_keys (read fields)) n rest) next
            ∙ ap (λ fs. fs ++ behind) (added ∙ ap (λ o. found ++ option_to_list o) told)
            ∙ append_assoc found (option_to_list (record_fault table names keys (2 + i) fields (read fields))) behind
            ∙ ap (λ fs. found ++ fs) (sym step) ∙ so_far,
      )

  pub ends : (keys : List ℤ) (records : List Row) (i : ℕ) (found whole : List FoundFault) → length records ≤ i
      → found ++ faults_from read table names keys (2 + i) (map fields_of (drop i records)) ≡ whole → found ≡ whole
  ends keys records i found whole past so_far =
      sym (ap (λ fs. found ++ fs) (at_drop_all (λ rs. faults_from read table names keys (2 + i) (map fields_of rs)) records i past ∙ no_record keys (2 + i))
      ∙ append-nil found) ∙ so_far

-- what a record is read as -------------------------------------------------------------------------------

pub noted_row : (table : TableDef) (names fields : Record) (number : ℕ) (read : RowOrFault) (row : LayerRow) (old new : BTreeSet ℤ)
    (found : Option FoundFault) → read ≡ Ok row → NotesKey number row.key old new found → NotesRecord table names number fields read old new found
noted_row table names fields number read row old new found is noted =
    subst (λ (r : RowOrFault). NotesRecord table names number fields r old new found) (sym is) noted

pub noted_fault : (table : TableDef) (names fields : Record) (number : ℕ) (read : RowOrFault) (fault : LayerFault) (set : BTreeSet ℤ)
    (found : Option FoundFault) → read ≡ Err fault → found ≡ Some (found_at number (faulty_column table names fields fault) (of_layer.Unread fault))
    → NotesRecord table names number fields read set set found
noted_fault table names fields number read fault set found is told =
    subst (λ (r : RowOrFault). NotesRecord table names number fields r set set found) (sym is) (λ before has. (told, same_keys before set has))

-- headers -----------------------------------------------------------------------------------------------

module _ (tables : List TableDef) (at : ℕ) (table : TableDef) (rounded : Bool) (names header : Record) (records : List Record) (same : names ≡ header) where
  under_header : (read : Result Fields LayerFault) → fields_of_table header (Some table) ≡ read → faults_below tables at table rounded names records read
      ≡ faults_under tables at table rounded names records
  under_header read is =
      sym (ap (λ (ns : Record). faults_below tables at table rounded names records (fields_of_table ns (Some table))) same
      ∙ ap (faults_below tables at table rounded names records) is)

  -- records below a header that has the columns of the table
  pub good_header : (headings : Fields) → fields_of_table header (Some table) ≡ Ok headings
      → faults_from (row_of tables at rounded headings) table names [] 2 records ≡ faults_under tables at table rounded names records
  good_header headings is = under_header (Ok headings) is

  -- a header that hasn't
  pub bad_header : (fault : LayerFault) → fields_of_table header (Some table) ≡ Err fault
      → or_whole fault (header_faults table names) ≡ faults_under tables at table rounded names records
  bad_header fault is = under_header (Err fault) is
