-- The fault that a certificate's reading tells is that of the first record whose own reading answers it.
use Rattle.std.proofs.Common.{◌≡◌, ℕ, suc, ◌+◌, ◌-◌, ◌<◌, ◌≤◌, ◌==◌, ◌||◌, ◌⊎◌, inl, inr, Bool, true, false, cond, List, [], ◌∷◌, length, take, map, Option}
use Rattle.std.proofs.Common.{Some, None, Result, Ok, Err, refl, sym, ap, subst, ◌∙◌, arith}
use Rattle.std.specs.Prelude.{codes, option_map}
use Rattle.std.specs.Str.{bytes_eq}
use Rattle.std.specs.List.{list_any}
use Rattle.std.proofs.Math.Bool.{or-false, or_assoc}
use Rattle.std.proofs.lemmas.List.{length-map, take-map}
use Rattle.csv.specs.Records.{Row, fields_of}
use Rattle.clr_rows.specs.declared.tables.TableDef.{TableDef}
use Rattle.clr_readings.specs.Readings.{◌>>=◌, or_fault}
use Rattle.clr_records.specs.Records.{at_record, field_of, records_in}
use Rattle.clr_cert.specs.declared.certificates.Entry.{Entry}
use Rattle.clr_cert.specs.declared.faults.CertFault.{CertFault}
use Rattle.clr_cert.specs.declared.faults.CertFault.TheVariants as fault
use Rattle.clr_cert.specs.Certificates.{certificate_from, certificate_in, is_root_item, item_of, record_name_of, record_names_of, record_root_of}
use Rattle.clr_cert.specs.Certificates.{with_item}
use Rattle.clr_cert.specs.Versions.{entry_of}
use Rattle.clr_record_explanations.specs.FirstFaults.{RecordFields, IsFirstFault, readable}
use Rattle.clr_record_explanations.specs.CertificateFaults.{CertificateFaultLaw, IsFaultOfCertificate, has_root, names_root}
use Rattle.clr_record_explanations.proofs.Firsts.{at_once, fault_of_first, later, same_fault, within}

-- an item is a root where its record begins so
by_kind : {X I : Type 0} (is : I → Bool) (make : X → I) (root : Bool) (found : Option X) (item : I) → ((x : X) → is (make x) ≡ root)
    → or_fault fault.BadReference (option_map make found) ≡ Ok item → is item ≡ root
by_kind is make root None item all so = absurd cc
by_kind is make root (Some x) item all so = let same : make x ≡ item = cc in rw (← same) (all x)

root_by_word : {I N P : Type 0} (is : I → Bool) (root member : N → I) (before : P → I) (need : Entry → I) (a b c d k : Bool) (found name : Option N)
    (names : Option P) (entry : Option Entry) (item : I)
    → cond a (cond b (or_fault fault.BadReference (option_map root found)) (cond c (or_fault fault.BadReference (option_map member name))
    (cond d (or_fault fault.BadReference (option_map before names))
    (cond k (or_fault fault.BadReference (option_map need entry)) (Err fault.BadKind))))) (Err fault.FieldCount) ≡ Ok item
    → ((x : N) → is (root x) ≡ true) → ((x : N) → is (member x) ≡ false) → ((x : P) → is (before x) ≡ false) → ((x : Entry) → is (need x) ≡ false)
    → is item ≡ b
root_by_word is root member before need false b c d k found name names entry item so r m p n = absurd cc
root_by_word is root member before need true true c d k found name names entry item so r m p n = by_kind is root true found item r so
root_by_word is root member before need true false true d k found name names entry item so r m p n = by_kind is member false name item m so
root_by_word is root member before need true false false true k found name names entry item so r m p n = by_kind is before false names item p so
root_by_word is root member before need true false false false true found name names entry item so r m p n = by_kind is need false entry item n so
root_by_word is root member before need true false false false false found name names entry item so r m p n = absurd cc

abbrev says : RecordFields → List ℕ → Bool
says fields word = bytes_eq (field_of fields 0) word

-- one record is read, and then those behind it, of which the first fault is told
one_record : {I E C : Type 0} (read : Result I E) (next : I → Result C (ℕ × E)) (f : I → C → C) (n m : ℕ) (e : E) → (at_record n read >>= λ item. next item
    >>= λ others. Ok (f item others)) ≡ Err (m, e)
    → ((n ≡ m) × (read ≡ Err e)) ⊎ ((item : I) × (read ≡ Ok item) × (next item ≡ Err (m, e)))
one_record (Err g) next f n m e is = let same = same_fault (n, g) (m, e) is in inl (same.0, rw same.1 refl)
one_record (Ok item) next f n m e is = inr (item, refl, fault_of_first (next item) (f item) (m, e) is)

-- a record behind others, where a root record stands before them or none does
abbrev reads_from : List TableDef → Bool → List RecordFields → RecordFields → Result (Unit {0}) CertFault
reads_from tables rooted before fields = readable (item_of tables (rooted || has_root before) fields)

records_fault : (tables : List TableDef) (rows : List RecordFields) (rooted : Bool) (n m : ℕ) (e : CertFault) →
    certificate_from tables rooted n rows ≡ Err (m, e)
    → (at : ℕ) × (m ≡ n + at) × IsFirstFault (reads_from tables rooted) rows at e
unfolding certificate_from item_of
records_fault tables [] rooted n m e is = absurd cc
records_fault tables (r ∷ rest) rooted n m e is =
    elim (one_record (item_of tables rooted r) (λ item. certificate_from tables (rooted || is_root_item item) (n + 1) rest) with_item n m e is) [
      | inl failed ↦ (0, omega (arith, failed.0), at_once (reads_from tables rooted) r rest e (rw (or-false rooted, failed.1) refl))
      | inr done ↦
          let found = records_fault tables rest (rooted || is_root_item done.0) (n + 1) m e done.2 in
          let named : is_root_item done.0 ≡ names_root r = root_by_word is_root_item _ _ _ _ (length r == 6) (names_root r) (says r (codes "member"))
          (says r (codes "before")) (says r (codes "need")) (record_root_of rooted r) (record_name_of r) (record_names_of r) (entry_of tables r) done.0 done.1
          (λ x. refl) (λ x. refl) (λ x. refl) (λ x. refl) in
          let next : (before : List RecordFields) → (rooted || has_root (r ∷ before)) ≡ ((rooted || is_root_item done.0) || has_root before) =
          λ before. sym (or_assoc rooted (names_root r) (has_root before)) ∙ ap (λ b. (rooted || b) || has_root before) (sym named) in (
            suc (found.0),
            omega (arith, found.1),
            later (reads_from tables rooted) (reads_from tables (rooted || is_root_item done.0)) r rest found.0 e (rw
                (or-false rooted, done.1) refl) (λ before x. ap (λ b. readable (item_of tables b x)) (next before)) found.2,
          )
    ]

pub certificate_faults_first : CertificateFaultLaw
certificate_faults_first tables bytes number e is = by (records_in bytes) refl is
  where
    by : (found : Option (List RecordFields)) → records_in bytes ≡ found → (or_fault (1, fault.NotCsv) found >>= λ rows. certificate_from tables false 1 rows) ≡
        Err (number, e) → (rooted : Bool) × IsFaultOfCertificate tables found rooted number e
    by None was failed = let same = same_fault (1, fault.NotCsv) (number, e) failed in (false, (refl, sym same.0, sym same.1))
    by (Some rows) was failed =
        let found = records_fault tables rows false 1 number e failed in
        (has_root (take found.0 rows), (found.0, omega (arith, found.1), refl, found.2))

-- what is told of the number and the fault of a certificate, with whether a root record stands before the record
pub found_among : (tables : List TableDef) (bytes : List ℕ) (rows : List RecordFields) (number : ℕ) (e : CertFault) → Some rows ≡ records_in bytes →
    certificate_in
    tables bytes ≡ Err (number, e)
    → (0 < number) × (number ≤ length rows) × IsFaultOfCertificate tables (Some rows) (has_root (take (number - 1) rows)) number e
found_among tables bytes rows number e found failed =
    let law = certificate_faults_first tables bytes number e failed in
    let told = subst (λ (o : Option (List RecordFields)). IsFaultOfCertificate tables o law.0 number e) (sym found) law.1 in
    let number_is = within rows told.0 number told.3.there.0 told.1 told.3.there.1 in
    let place : number - 1 ≡ told.0 = omega (arith, told.1) in
    (number_is.0, number_is.1, (told.0, told.1, ap (λ at. has_root (take at rows)) place, told.3))

pub number_within : (tables : List TableDef) (bytes : List ℕ) (rows : List Row) (number : ℕ) (e : CertFault) → Some (map fields_of rows) ≡ records_in bytes
    → certificate_in tables bytes ≡ Err (number, e) → (0 < number) × (number ≤ length rows)
number_within tables bytes rows number e found failed =
    let told = found_among tables bytes (map fields_of rows) number e found failed in
    (told.0, rw length-map at told.1)

pub found_as : (tables : List TableDef) (bytes : List ℕ) (rows : List RecordFields) (number : ℕ) (e : CertFault) (r : Bool) (n : ℕ) (f : CertFault) →
    Some rows ≡
    records_in bytes
    → certificate_in tables bytes ≡ Err (number, e) → r ≡ has_root (take (number - 1) rows) → n ≡ number → f ≡ e → IsFaultOfCertificate tables (records_in
    bytes) r n f
found_as tables bytes rows number e r n f found failed is_r is_n is_f =
    subst (λ (o : Option (List RecordFields)). IsFaultOfCertificate tables o r n f) found (rw (is_r, is_n, is_f) (found_among tables bytes rows number e found
    failed).2)

any_of_map : (test : RecordFields → Bool) (rows : List Row) → list_any test (map fields_of rows) ≡ list_any (λ r. test (fields_of r)) rows
any_of_map test [] = refl
any_of_map test (r ∷ rest) = ap (λ b. test (fields_of r) || b) (any_of_map test rest)

pub root_before : (rows : List Row) (at : ℕ) → list_any (λ r. names_root (fields_of r)) (take at rows) ≡ has_root (take at (map fields_of rows))
root_before rows at = sym (rw (take-map fields_of at rows) (any_of_map names_root (take at rows)))
