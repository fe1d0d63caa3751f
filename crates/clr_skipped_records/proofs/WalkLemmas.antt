-- Records and their faults, walked over side by side.
use Rattle.std.proofs.Common.{◌≡◌, ◌∙◌, ℕ, ℤ, zero, suc, ◌+◌, ◌<◌, ◌≤◌, Bool, true, false, cond, List, [], ◌∷◌, ◌++◌, Option, Some, None, Ok, Err}
use Rattle.std.proofs.Common.{add-one, ap, append-nil, append_assoc, arith, drop, get_or, is_some, length, map, refl, slice_get, sym}
use Rattle.std.specs.Option.{option_to_list}
use Rattle.std.proofs.lemmas.Bool.{eq-eqb, ne_eqb}
use Rattle.std.proofs.lemmas.Grind.{flat_map-append}
use Rattle.std.proofs.lemmas.List.{at_drop_all, at_drop_more}
use Rattle.csv.specs.Records.{Row, fields_of}
use Rattle.csv.specs.Writing.{default_writer, row_text}
use Rattle.clr_rows.specs.declared.tables.TableDef.{TableDef}
use Rattle.clr_records.specs.Writing.{records_text}
use Rattle.clr_layer_changes.specs.declared.faults.LayersFault.TheVariants.{KeyTwice}
use Rattle.clr_layer_faults.specs.declared.found.FoundFault.{FoundFault}
use Rattle.clr_layer_faults.specs.FoundFaults.{Record, RowOrFault, faults_from, found_at, has_key, key_fault, own_keys, record_fault}
use Rattle.clr_skipped_records.specs.SoundRecords.{AddsSound, is_of, sound_from, unless}

-- faults of records, one record after another -----------------------------------------------------------

module _ (read : Record → RowOrFault) (table : TableDef) (names : Record) where
  pub one_record : (keys : List ℤ) (n : ℕ) (fields : Record) (records : List Record) → faults_from read table names keys n (fields ∷ records)
      ≡ option_to_list (record_fault table names keys n fields (read fields)) ++ faults_from read table names (keys ++ own_keys (read fields)) (n + 1) records
  unfolding faults_from
  one_record keys n fields records = refl

  pub no_record : (keys : List ℤ) (n : ℕ) → faults_from read table names keys n [] ≡ []
  unfolding faults_from
  no_record keys n = refl

-- lists -------------------------------------------------------------------------------------------------

get_drop : {A : Type 0} (xs : List A) (n : ℕ) → slice_get xs n ≡ slice_get (drop n xs) 0
get_drop xs zero = refl
get_drop [] (suc n) = refl
get_drop (x ∷ xs) (suc n) = get_drop xs n

drop_next : {A : Type 0} (xs : List A) (n : ℕ) → drop (suc n) xs ≡ drop 1 (drop n xs)
drop_next xs zero = refl
drop_next [] (suc n) = refl
drop_next (x ∷ xs) (suc n) = drop_next xs n

-- numbers of faults -------------------------------------------------------------------------------------

-- a fault, if there is one, is that of the record of a number
abbrev OfNumber : Option FoundFault → ℕ → Type 0
OfNumber None n = Unit {0}
OfNumber (Some found) n = found.number ≡ n

key_numbered : (keys : List ℤ) (n : ℕ) (key : Option ℤ) → OfNumber (key_fault keys n key) n
key_numbered keys n None = tt
key_numbered keys n (Some key) = by (has_key keys key)
  where
    by : (b : Bool) → OfNumber (cond b (Some (found_at n (Some 0) KeyTwice)) None) n
    by true = refl
    by false = tt

numbered : (table : TableDef) (names : Record) (keys : List ℤ) (n : ℕ) (fields : Record) (one : RowOrFault)
    → OfNumber (record_fault table names keys n fields one) n
numbered table names keys n fields (Ok r) = key_numbered keys n r.key
numbered table names keys n fields (Err fault) = refl

-- the first of some faults is none of a record before them
past : (o : Option FoundFault) (behind : List FoundFault) (n m : ℕ) → n < m → OfNumber o m → is_of (slice_get behind 0) n ≡ false
    → is_of (slice_get (option_to_list o ++ behind) 0) n ≡ false
past None behind n m lt is later = later
past (Some found) behind n m lt is later = ne_eqb found.number n (λ e. omega (arith, lt, is, e))

-- the first of some faults tells whether the record of its number has one
tells : (o : Option FoundFault) (behind : List FoundFault) (n : ℕ) → OfNumber o n → is_of (slice_get behind 0) n ≡ false
    → is_of (slice_get (option_to_list o ++ behind) 0) n ≡ is_some o
tells None behind n is later = later
tells (Some found) behind n is later = eq-eqb found.number n is

-- the faults behind the first, where that is one of the record
behind_first : (o : Option FoundFault) (faults behind : List FoundFault) (next now : ℕ) (b : Bool) → b ≡ is_some o → now ≡ cond b (next + 1) next
    → drop next faults ≡ option_to_list o ++ behind → drop now faults ≡ behind
behind_first None faults behind next now b is counted left =
    let same : now ≡ next = counted ∙ ap (λ c. cond c (next + 1) next) is in
    ap (λ n. drop n faults) same ∙ left
behind_first (Some found) faults behind next now b is counted left =
    let more : now ≡ suc next = counted ∙ ap (λ c. cond c (next + 1) next) is ∙ add-one next in
    ap (λ n. drop n faults) more ∙ drop_next faults next ∙ ap (drop 1) left

module _ (read : Record → RowOrFault) (table : TableDef) (names : Record) where
  pub no_sound : (keys : List ℤ) (n : ℕ) → sound_from read table names keys n [] ≡ []
  unfolding sound_from
  no_sound keys n = refl

  pub one_sound : (keys : List ℤ) (n : ℕ) (fields : Record) (records : List Record) → sound_from read table names keys n (fields ∷ records)
      ≡ unless (is_some (record_fault table names keys n fields (read fields))) fields
      ++ sound_from read table names (keys ++ own_keys (read fields)) (n + 1) records
  unfolding sound_from
  one_sound keys n fields records = refl

  none_before : (records : List Record) (keys : List ℤ) (n m : ℕ) → n < m → is_of (slice_get (faults_from read table names keys m records) 0) n ≡ false
  none_before [] keys n m lt = ap (λ (fs : List FoundFault). is_of (slice_get fs 0) n) (no_record read table names keys m)
  none_before (fields ∷ records) keys n m lt =
      let behind = faults_from read table names (keys ++ own_keys (read fields)) (m + 1) records in
      ap (λ (fs : List FoundFault). is_of (slice_get fs 0) n) (one_record read table names keys m fields records)
      ∙ past (record_fault table names keys m fields (read fields)) behind n m lt (numbered table names keys m fields (read fields))
      (none_before records (keys ++ own_keys (read fields)) n (m + 1) (omega (arith, lt)))

  -- the faults that are left, and the records without a fault so far, before the record at a position
  abbrev pub Left : List FoundFault → List Row → List Record → ℕ → ℕ → Type 0
  Left faults records front next i =
      (keys : List ℤ) × (drop next faults ≡ faults_from read table names keys (2 + i) (map fields_of (drop i records)))
      × (front ++ sound_from read table names keys (2 + i) (map fields_of (drop i records)) ≡ sound_from read table names [] 2 (map fields_of records))

  begins : (faults : List FoundFault) (records : List Row) → faults ≡ faults_from read table names [] 2 (map fields_of records) → Left faults records [] 0 0
  begins faults records all = ([], all, refl)

  goes_on : (faults : List FoundFault) (records : List Row) (front : List Record) (next now i : ℕ) (row : Row) (b : Bool) → i < length records
      → row ≡ get_or records i row → b ≡ is_of (slice_get faults next) (2 + i) → now ≡ cond b (next + 1) next → Left faults records front next i
      → Left faults records (front ++ unless b (fields_of row)) now (i + 1)
  goes_on faults records front next now i row b lt is told counted (keys, left, so_far) =
      let fields = fields_of row in
      let rest = map fields_of (drop (i + 1) records) in
      let one = record_fault table names keys (2 + i) fields (read fields) in
      let more = keys ++ own_keys (read fields) in
      let behind = faults_from read table names more (2 + i + 1) rest in
      let sound = sound_from read table names more (2 + i + 1) rest in
      let after : 2 + (i + 1) ≡ 2 + i + 1 = omega arith in
      let is_left : drop next faults ≡ option_to_list one ++ behind =
      left ∙ at_drop_more (λ rs. faults_from read table names keys (2 + i) (map fields_of rs)) records i row lt
      ∙ ap (λ r. faults_from read table names keys (2 + i) (fields_of r ∷ rest)) (sym is) ∙ one_record read table names keys (2 + i) fields rest in
      let has : b ≡ is_some one =
      told ∙ ap (λ (o : Option FoundFault). is_of o (2 + i)) (get_drop faults next) ∙ ap (λ (fs : List FoundFault). is_of (slice_get fs 0) (2 + i)) is_left
      ∙ tells one behind (2 + i) (numbered table names keys (2 + i) fields (read fields)) (none_before rest more (2 + i) (2 + i + 1) (omega arith)) in
      let step : sound_from read table names keys (2 + i) (map fields_of (drop i records)) ≡ unless b fields ++ sound =
      at_drop_more (λ rs. sound_from read table names keys (2 + i) (map fields_of rs)) records i row lt
      ∙ ap (λ r. sound_from read table names keys (2 + i) (fields_of r ∷ rest)) (sym is) ∙ one_sound keys (2 + i) fields rest
      ∙ ap (λ c. unless c fields ++ sound) (sym has) in (
        more,
        behind_first one faults behind next now b has counted is_left ∙ ap (λ n. faults_from read table names more n rest) (sym after),
        ap (λ n. (front ++ unless b fields) ++ sound_from read table names more n rest) after ∙ append_assoc front (unless b fields) sound
            ∙ ap (λ rs. front ++ rs) (sym step) ∙ so_far,
      )

  ends : (faults : List FoundFault) (records : List Row) (front : List Record) (next i : ℕ) → length records ≤ i → Left faults records front next i
      → front ≡ sound_from read table names [] 2 (map fields_of records)
  ends faults records front next i le (keys, left, so_far) =
      sym (ap (λ rs. front ++ rs) (at_drop_all (λ rs. sound_from read table names keys (2 + i) (map fields_of rs)) records i le ∙ no_sound keys (2 + i))
      ∙ append-nil front) ∙ so_far

-- the walk ------------------------------------------------------------------------------------------------

-- the same whatever the records are read as, if these are all their faults
abbrev pub AreLeft : List FoundFault → List Row → List Record → ℕ → ℕ → Type 0
AreLeft faults records front next i =
    (read : Record → RowOrFault) (table : TableDef) (names : Record) → faults ≡ faults_from read table names [] 2 (map fields_of records)
    → Left read table names faults records front next i

-- a text has the lines of the records without a fault so far behind another one
abbrev pub HasWritten : List FoundFault → List Row → List ℕ → List ℕ → ℕ → ℕ → Type 0
HasWritten faults records old now next i = (front : List Record) × AreLeft faults records front next i × (now ≡ old ++ records_text front)

pub walk_begins : (faults : List FoundFault) (records : List Row) (old : List ℕ) → HasWritten faults records old old 0 0
walk_begins faults records old = ([], λ read table names all. begins read table names faults records all, sym (append-nil old))

pub walk_goes_on : (faults : List FoundFault) (records : List Row) (old text now : List ℕ) (next behind i : ℕ) (row : Row) (b : Bool) → i < length records
    → row ≡ get_or records i row → b ≡ is_of (slice_get faults next) (2 + i) → behind ≡ cond b (next + 1) next
    → now ≡ text ++ records_text (unless b (fields_of row)) → HasWritten faults records old text next i → HasWritten faults records old now behind (i + 1)
walk_goes_on faults records old text now next behind i row b lt is told counted added (front, left, written) = (
  front ++ unless b (fields_of row),
  λ read table names all. goes_on read table names faults records front next behind i row b lt is told counted (left read table names all),
  added ∙ ap (λ t. t ++ records_text (unless b (fields_of row))) written ∙ append_assoc old (records_text front) (records_text (unless b (fields_of row)))
      ∙ ap (λ t. old ++ t) (sym (flat_map-append (row_text default_writer) front (unless b (fields_of row)))),
)

pub walk_ends : (faults : List FoundFault) (records : List Row) (old now : List ℕ) (next i : ℕ) → length records ≤ i → HasWritten faults records old now next i
    → AddsSound faults (map fields_of records) old now
walk_ends faults records old now next i le (front, left, written) =
    (front, λ read table names all. ends read table names faults records front next i le (left read table names all), written)

-- a record with a fault, which isn't written
pub none_written : (text : List ℕ) (fields : Record) (b : Bool) → b ≡ true → text ≡ text ++ records_text (unless b fields)
none_written text fields b is = sym (ap (λ c. text ++ records_text (unless c fields)) is ∙ append-nil text)

-- one without, which is
pub one_written : (text now : List ℕ) (fields : Record) (b : Bool) → b ≡ false → now ≡ text ++ row_text default_writer fields
    → now ≡ text ++ records_text (unless b fields)
one_written text now fields b is written =
    written ∙ ap (λ t. text ++ t) (sym (append-nil (row_text default_writer fields))) ∙ sym (ap (λ c. text ++ records_text (unless c fields)) is)

-- a count that grows at most as fast as another
pub counted_within : (count now i : ℕ) (b : Bool) → count ≤ i → now ≡ cond b (count + 1) count → now ≤ i + 1
counted_within count now i true le is = omega (arith, le, is)
counted_within count now i false le is = omega (arith, le, is)
