-- Reading the records of a certificate one after another, as a loop does.
use Rattle.std.proofs.Common.{◌≡◌, ℕ, ◌+◌, ◌==◌, ◌||◌, ◌≤◌, ◌<◌, Bool, true, false, cond, List, ◌++◌, map, length, get_or, drop, Option, Some, None, Result, Ok}
use Rattle.std.proofs.Common.{Err, refl, sym, ap, subst, ◌∙◌, append_assoc, add-one}
use Rattle.std.specs.Prelude.{codes, option_map}
use Rattle.std.specs.Str.{bytes_eq}
use Rattle.std.proofs.Math.Seq.{drop-cons}
use Rattle.std.proofs.lemmas.List.{append-nil, drop_all}
use Rattle.csv.specs.Records.{Row, fields_of}
use Rattle.clr_rows.specs.declared.tables.TableDef.{TableDef}
use Rattle.clr_readings.specs.Readings.{◌>>=◌, Fails, FailsAt, numbered_fault, or_fault}
use Rattle.clr_readings.proofs.FaultTurns.{numbered_so}
use Rattle.clr_records.specs.Records.{at_record, field_of}
use Rattle.clr_cert.specs.declared.certificates.Certificate.{Certificate}
use Rattle.clr_cert.specs.declared.certificates.Entry.{Entry}
use Rattle.clr_cert.specs.declared.faults.CertFault.{CertFault}
use Rattle.clr_cert.specs.declared.faults.CertFault.TheVariants as fault
use Rattle.clr_cert.specs.declared.items.Item.{Item}
use Rattle.clr_cert.specs.declared.items.Item.TheVariants.{Root, Member, Before, Need}
use Rattle.clr_cert.specs.declared.limits.TheConstants.{RECORD_FIELDS}
use Rattle.clr_cert.specs.Certificates.{certificate_from, is_root_item, item_of, record_name_of, record_names_of, nothing_said, says_before, with_item, with_next}
use Rattle.clr_cert.specs.Faults.{cert_lacks_memory}
use Rattle.clr_cert.specs.Versions.{entry_of}

-- what the records before say, where one of them is a root record or none, and then those behind
abbrev pub together : Bool → Certificate → Certificate → Certificate
together rooted front c = record { root = cond rooted front.root c.root; members = front.members ++ c.members; before = front.before ++ c.before; entries = front.entries ++ c.entries }

abbrev pub after : Bool → Certificate → Result Certificate (ℕ × CertFault) → Result Certificate (ℕ × CertFault)
after rooted front read = read >>= λ c. Ok (together rooted front c)

-- behind a root record there is no other
other_item : {A : Type 0} (f : A → Item) (found : Option A) (item : Item) → ((x : A) → is_root_item (f x) ≡ false)
    → or_fault fault.BadReference (option_map f found) ≡ Ok item → is_root_item item ≡ false
other_item f None item other e = absurd cc
other_item f (Some x) item other e = let same : f x ≡ item = cc in subst (λ (i : Item). is_root_item i ≡ false) same (other x)

root_or_not : (a b c d k : Bool) (name : Option (List ℕ)) (names : Option (List ℕ × List ℕ)) (entry : Option Entry) (item : Item)
    → cond a (cond b (Err fault.BadReference) (cond c (or_fault fault.BadReference (option_map Member name))
    (cond d (or_fault fault.BadReference (option_map says_before names))
    (cond k (or_fault fault.BadReference (option_map Need entry)) (Err fault.BadKind))))) (Err fault.FieldCount) ≡ Ok item → is_root_item item ≡ false
root_or_not false b c d k name names entry item e = absurd cc
root_or_not true true c d k name names entry item e = absurd cc
root_or_not true false true d k name names entry item e = other_item Member name item (λ x. refl) e
root_or_not true false false true k name names entry item e = other_item says_before names item (λ x. refl) e
root_or_not true false false false true name names entry item e = other_item Need entry item (λ x. refl) e
root_or_not true false false false false name names entry item e = absurd cc

one_root : (tables : List TableDef) (rooted : Bool) (fields : List (List ℕ)) (item : Item) → item_of tables rooted fields ≡ Ok item → rooted ≡ true
    → is_root_item item ≡ false
unfolding item_of
one_root tables true fields item e is =
    root_or_not (length fields == RECORD_FIELDS) (bytes_eq (field_of fields 0) (codes "root")) (bytes_eq (field_of fields 0) (codes "member"))
    (bytes_eq (field_of fields 0) (codes "before")) (bytes_eq (field_of fields 0) (codes "need")) (record_name_of fields) (record_names_of fields)
    (entry_of tables fields) item e
one_root tables false fields item e is = absurd cc

regroup : (rooted : Bool) (front : Certificate) (item : Item) (read : Result Certificate (ℕ × CertFault)) → (rooted ≡ true → is_root_item item ≡ false)
    → after rooted front (read >>= λ others. Ok (with_item item others)) ≡ after (rooted || is_root_item item) (with_next front item) read
regroup rooted front item (Err e) one = refl
regroup true front (Root name) (Ok c) one = absurd (cc (one refl))
regroup false front (Root name) (Ok c) one = refl
regroup true front (Member name) (Ok c) one = rw append_assoc refl
regroup false front (Member name) (Ok c) one = rw append_assoc refl
regroup true front (Before p) (Ok c) one = rw append_assoc refl
regroup false front (Before p) (Ok c) one = rw append_assoc refl
regroup true front (Need entry) (Ok c) one = rw append_assoc refl
regroup false front (Need entry) (Ok c) one = rw append_assoc refl

next : (tables : List TableDef) (rooted : Bool) (n : ℕ) (rows : List Row) (i : ℕ) (row : Row) → i < length rows → row ≡ get_or rows i row
    → certificate_from tables rooted n (map fields_of (drop i rows))
    ≡ (at_record n (item_of tables rooted (fields_of row)) >>= λ item. certificate_from tables (rooted
    || is_root_item item) (n + 1) (map fields_of (drop (i + 1) rows)) >>= λ others. Ok (with_item item others))
unfolding certificate_from
next tables rooted n rows i row lt is = rw (add-one i, drop-cons rows i row) (rw (← is) refl)

-- one more record is read
pub one_more : (tables : List TableDef) (rooted : Bool) (front : Certificate) (n : ℕ) (rows : List Row) (i : ℕ) (row : Row) (item : Item)
    (total : Result Certificate (ℕ × CertFault)) → i < length rows → row ≡ get_or rows i row → item_of tables rooted (fields_of row) ≡ Ok item
    → after rooted front (certificate_from tables rooted n (map fields_of (drop i rows))) ≡ total
    → after (rooted || is_root_item item) (with_next front item) (certificate_from tables (rooted || is_root_item item) (n + 1) (map fields_of (drop
    (i + 1) rows)))
    ≡ total
one_more tables rooted front n rows i row item total lt is h so_far =
    sym (regroup rooted front item _ (one_root tables rooted (fields_of row) item h)) ∙ (sym (rw (next tables rooted n rows i row lt is, h) refl) ∙ so_far)

module _ (tables : List TableDef) (e : CertFault) (rooted : Bool) (front : Certificate) (n : ℕ) (rows : List Row) (i : ℕ) (row : Row)
    (total : Result Certificate (ℕ × CertFault)) (lt : i < length rows) (is : row ≡ get_or rows i row) where
  fault_of : item_of tables rooted (fields_of row) ≡ Err e → after rooted front (certificate_from tables rooted n (map fields_of (drop i rows))) ≡ total
      → total ≡ Err (n, e)
  fault_of h so_far = sym so_far ∙ rw (next tables rooted n rows i row lt is, h) refl

  -- the fault of a record is that of the whole text
  pub stops : Fails cert_lacks_memory e (item_of tables rooted (fields_of row))
      → after rooted front (certificate_from tables rooted n (map fields_of (drop i rows))) ≡ total
      → FailsAt cert_lacks_memory (numbered_fault cert_lacks_memory n e).0 (numbered_fault cert_lacks_memory n e).1 total
  stops h so_far = numbered_so cert_lacks_memory e n (item_of tables rooted (fields_of row)) total (λ k. fault_of k so_far) h

live_still : (rooted : Bool) (front : Certificate) → (rooted ≡ false → front.root ≡ nothing_said.root) → together rooted front nothing_said ≡ front
live_still true front live = rw (append-nil front.members, append-nil front.before, append-nil front.entries) refl
live_still false front live = rw (append-nil front.members, append-nil front.before, append-nil front.entries, ← live refl) refl

-- no record is left
pub whole : (tables : List TableDef) (rooted : Bool) (front : Certificate) (n : ℕ) (rows : List Row) (i : ℕ) (total : Result Certificate (ℕ × CertFault))
    → length rows ≤ i → (rooted ≡ false → front.root ≡ nothing_said.root)
    → after rooted front (certificate_from tables rooted n (map fields_of (drop i rows))) ≡ total → total ≡ Ok front
unfolding certificate_from
whole tables rooted front n rows i total le live so_far = sym so_far ∙ rw (drop_all i rows le) (ap (λ c. Ok c) (live_still rooted front live))
