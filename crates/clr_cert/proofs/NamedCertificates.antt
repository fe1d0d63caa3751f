-- The certificate that a text gives has good names, cells that the schema names, and parts of paths.
use Rattle.std.proofs.Common.{◌≡◌, ℕ, zero, suc, ◌+◌, ◌&&◌, ◌||◌, Bool, true, false, cond, List, [], ◌∷◌, codes, Option, Some, None, Result, Ok, Err, ℤ, pos}
use Rattle.std.proofs.Common.{negsuc, refl, ap, subst, ◌∙◌, arith, ltb, leb}
use Rattle.std.specs.Prelude.{IfSome, MatchOption, option_map}
use Rattle.std.specs.List.{All}
use Rattle.std.specs.Option.{is_none, option_and_then}
use Rattle.std.specs.Str.{bytes_eq}
use Rattle.std.proofs.lemmas.Bool.Decides.{nat_tests}
use Rattle.std.proofs.lemmas.Option.{same_Some}
use Rattle.std.proofs.lemmas.Result.{IfOk-at_ok}
use Rattle.clr_rows.specs.declared.cells.CellId.{CellId}
use Rattle.clr_rows.specs.declared.faults.RowFault.{RowFault}
use Rattle.clr_rows.specs.declared.tables.TableDef.{TableDef}
use Rattle.clr_rows.specs.Names.{is_good_name, live_name}
use Rattle.clr_rows.specs.Schemas.{cell_fault, table_named}
use Rattle.clr_needs.specs.declared.needs.VersionId.{VersionId}
use Rattle.clr_records.specs.Decimals.{number_of}
use Rattle.clr_readings.specs.Readings.{◌>>=◌, or_fault}
use Rattle.clr_records.specs.Records.{at_record, field_of}
use Rattle.clr_cert.specs.declared.certificates.Certificate.{Certificate}
use Rattle.clr_cert.specs.declared.certificates.Entry.{Entry}
use Rattle.clr_cert.specs.declared.faults.CertFault.{CertFault}
use Rattle.clr_cert.specs.declared.faults.CertFault.TheVariants as fault
use Rattle.clr_cert.specs.declared.items.Item.{Item}
use Rattle.clr_cert.specs.declared.items.Item.TheVariants.{Root, Member, Before, Need}
use Rattle.clr_cert.specs.declared.limits.TheConstants.{GREATEST_PART}
use Rattle.clr_cert.specs.Certificates.{
  certificate_from,
  certificate_of,
  is_live,
  is_root_item,
  item_of,
  is_empty_behind_two,
  record_name_of,
  record_names_of,
  nothing_said,
  record_root_of,
  says_before,
  with_item,
}
use Rattle.clr_cert.specs.Texts.{IsInSchema, IsWellFormed, IsWellFormedEntry, IsWellFormedPrecedence, IsPart}
use Rattle.clr_cert.specs.Versions.{
  cell_and_rest,
  slash_cut_of,
  entry_of,
  fresh_of,
  if_named,
  is_empty,
  part_behind,
  written_part_of,
  rule_of,
  second_of,
  subject_of,
  two_of,
}
use Rattle.clr_cert.specs.Versions.{written_version_of, word_and_part}

-- what follows from each step of a reading follows from the whole
then_so : {A B G : Type 0} (o : Option A) (f : A → Option B) (y : B) → ((x : A) → o ≡ Some x → f x ≡ Some y → G) → option_and_then f o ≡ Some y → G
then_so None f y so e = absurd cc
then_so (Some x) f y so e = so x refl e

map_so : {A B G : Type 0} (o : Option A) (f : A → B) (y : B) → ((x : A) → o ≡ Some x → f x ≡ y → G) → option_map f o ≡ Some y → G
map_so None f y so e = absurd cc
map_so (Some x) f y so e = so x refl (same_Some (f x) y e)

-- cells, versions and subjects ---------------------------------------------------------------------

if_none : (fault : Option RowFault) (cell found : CellId) → cond (is_none fault) (Some cell) None ≡ Some found → (fault ≡ None) × (cell ≡ found)
if_none None cell found e = (refl, cc)
if_none (Some f) cell found e = absurd cc

cell_named : (tables : List TableDef) (text : List ℕ) (found : CellId × List ℕ) → cell_and_rest tables text ≡ Some found → cell_fault tables found.0 ≡ None
unfolding cell_and_rest
cell_named tables text found e =
    then_so (slash_cut_of text) _ found (λ named e1 f1.
    then_so (slash_cut_of named.1) _ found (λ numbered e2 f2.
    then_so (table_named tables named.0) _ found (λ table e3 f3.
    then_so (number_of numbered.0) _ found (λ key e4 f4.
    then_so (if_named tables (record { table = table; key = key })) _ found (λ cell e5 f5.
    let is = if_none (cell_fault tables (record { table = table; key = key })) (record { table = table; key = key }) cell e5 in
    subst (λ (c : CellId). cell_fault tables c ≡ None) (is.1 ∙ ap (λ (p : CellId × List ℕ). p.0) (same_Some (cell, numbered.1) found f5)) is.0)
    f4)
    f3)
    f2)
    f1)
    e

version_named : (tables : List TableDef) (text : List ℕ) (v : VersionId) → written_version_of tables text ≡ Some v → IsInSchema tables v
unfolding written_version_of
version_named tables text v e =
    then_so (cell_and_rest tables text) _ v (λ named e1 f1.
    then_so (fresh_of named.1) _ v (λ fresh e2 f2.
    subst (IsInSchema tables) (same_Some (record { cell = named.0; fresh = fresh }) v f2) (cell_named tables text named e1))
    f1)
    e

part_is : (z : ℤ) (part : ℕ) → written_part_of z ≡ Some part → IsPart part
part_is (negsuc n) part e = absurd cc
part_is (pos n) part e = by (ltb 1 n) (leb n GREATEST_PART) refl refl e
  where
    by : (a b : Bool) → ltb 1 n ≡ a → leb n GREATEST_PART ≡ b → cond (a && b) (Some n) None ≡ Some part → IsPart part
    by true true low high e =
        let same : n ≡ part = cc in
        subst IsPart same (grind (arith, nat_tests), grind (arith, nat_tests))
    by true false low high e = absurd cc
    by false b low high e = absurd cc

behind_is : (cut : Option (List ℕ × List ℕ)) (text : List ℕ) (found : List ℕ × ℕ) → part_behind cut text ≡ Some found → IsPart found.1
behind_is None text found e =
    let same : 1 ≡ found.1 = cc in
    subst IsPart same (omega arith, omega arith)
behind_is (Some parts) text found e =
    then_so (option_and_then written_part_of (number_of parts.1)) _ found (λ part e1 f1.
    then_so (number_of parts.1) written_part_of part (λ number e2 f2.
    subst IsPart (ap (λ (p : List ℕ × ℕ). p.1) (same_Some (parts.0, part) found f1)) (part_is number part f2))
    e1)
    e

subject_named : (tables : List TableDef) (text : List ℕ) (found : VersionId × ℕ) → subject_of tables text ≡ Some found → IsInSchema tables found.0
    × IsPart found.1
unfolding subject_of
subject_named tables text found e =
    then_so (cell_and_rest tables text) _ found (λ named e1 f1.
    then_so (word_and_part named.1) _ found (λ last e2 f2.
    then_so (fresh_of last.0) _ found (λ fresh e3 f3.
    subst (λ (x : VersionId × ℕ). IsInSchema tables x.0 × IsPart x.1) (same_Some (record { cell = named.0; fresh = fresh }, last.1) found f3)
    (cell_named tables text named e1, behind_is (slash_cut_of named.1) named.1 last e2))
    f2)
    f1)
    e

abbrev IsSecond : List TableDef → Option VersionId × ℕ → Type 0
IsSecond tables found = MatchOption found.0 (found.1 ≡ 1) (λ v. IsInSchema tables v × IsPart found.1)

second_named : (tables : List TableDef) (text : List ℕ) (found : Option VersionId × ℕ) → second_of tables text ≡ Some found → IsSecond tables found
second_named tables text found e = by (is_empty text) e
  where
    by : (b : Bool) → cond b (Some (None, 1)) (option_map (λ (subject : VersionId × ℕ). (Some subject.0, subject.1)) (subject_of tables text)) ≡ Some found
        → IsSecond tables found
    by true e =
        let none : Option VersionId × ℕ = (None, 1) in
        let same : none ≡ found = cc in
        subst (IsSecond tables) same refl
    by false e = map_so (subject_of tables text) _ found (λ subject e1 same. subst (IsSecond tables) same (subject_named tables text subject e1)) e

two_named : (tables : List TableDef) (text : List ℕ) (found : Option VersionId) → two_of tables text ≡ Some found → IfSome found (IsInSchema tables)
two_named tables text found e = by (is_empty text) e
  where
    by : (b : Bool) → cond b (Some None) (option_map Some (written_version_of tables text)) ≡ Some found → IfSome found (IsInSchema tables)
    by true e =
        let same : ◌≡◌ {A = Option VersionId} None found = cc in
        subst (λ (o : Option VersionId). IfSome o (IsInSchema tables)) same tt
    by false e = map_so (written_version_of tables text) _ found (λ version e1 same. subst (λ (o : Option VersionId). IfSome o (IsInSchema tables)) same
        (version_named tables text version e1)) e

entry_named : (tables : List TableDef) (fields : List (List ℕ)) (entry : Entry) → entry_of tables fields ≡ Some entry → IsWellFormedEntry tables entry
unfolding entry_of
entry_named tables fields entry e =
    then_so (number_of (field_of fields 1)) _ entry (λ number e1 f1.
    then_so (rule_of number) _ entry (λ rule e2 f2.
    then_so (subject_of tables (field_of fields 2)) _ entry (λ first e3 f3.
    then_so (second_of tables (field_of fields 3)) _ entry (λ second e4 f4.
    then_so (written_version_of tables (field_of fields 4)) _ entry (λ one e5 f5.
    then_so (two_of tables (field_of fields 5)) _ entry (λ two e6 f6.
    let subject = subject_named tables (field_of fields 2) first e3 in
    subst (IsWellFormedEntry tables)
    (same_Some (record {
      need = record { rule = rule; first = first.0; second = second.0; first_part = first.1; second_part = second.1 };
      one = one;
      two =
          two;
    }) entry f6) (record {
      first = subject.0;
      first_part = subject.1;
      second = second_named tables (field_of fields 3) second e4;
      one = version_named tables (field_of fields 4) one e5;
      two = two_named tables (field_of fields 5) two e6;
    }))
    f5)
    f4)
    f3)
    f2)
    f1)
    e

-- items --------------------------------------------------------------------------------------------

-- what a record may say
abbrev IsWellFormedItem : List TableDef → Item → Type 0
IsWellFormedItem tables (Root name) = is_good_name name ≡ true
IsWellFormedItem tables (Member name) = is_good_name name ≡ true
IsWellFormedItem tables (Before p) = IsWellFormedPrecedence p
IsWellFormedItem tables (Need entry) = IsWellFormedEntry tables entry

name_good : (fields : List (List ℕ)) (name : List ℕ) → record_name_of fields ≡ Some name → is_good_name name ≡ true
name_good fields name e = by (is_good_name (field_of fields 1)) _ refl e
  where
    by : (a b : Bool) → is_good_name (field_of fields 1) ≡ a → cond (a && b) (Some (field_of fields 1)) None ≡ Some name → is_good_name name ≡ true
    by true true good e = let same : field_of fields 1 ≡ name = cc in subst (λ (n : List ℕ). is_good_name n ≡ true) same good
    by true false good e = absurd cc
    by false b good e = absurd cc

names_good : (tables : List TableDef) (fields : List (List ℕ)) (names : List ℕ × List ℕ) → record_names_of fields ≡ Some names
    → IsWellFormedItem tables (says_before names)
names_good tables fields names e = by (is_good_name (field_of fields 1)) (is_good_name (field_of fields 2)) (is_empty_behind_two fields) refl refl e
  where
    by : (a b d : Bool) → is_good_name (field_of fields 1) ≡ a → is_good_name (field_of fields 2) ≡ b
        → cond (a && b && d) (Some (field_of fields 1, field_of fields 2)) None ≡ Some names → IsWellFormedItem tables (says_before names)
    by true true true one two e =
        let same : (field_of fields 1, field_of fields 2) ≡ names = cc in
        subst (λ (n : List ℕ × List ℕ). IsWellFormedItem tables (says_before n)) same (record { earlier = one; later = two })
    by true true false one two e = absurd cc
    by true false d one two e = absurd cc
    by false b d one two e = absurd cc

root_good : (rooted : Bool) (fields : List (List ℕ)) (name : List ℕ) → record_root_of rooted fields ≡ Some name → is_good_name name ≡ true
root_good rooted fields name e = by (rooted || is_live (field_of fields 1)) e
  where
    by : (b : Bool) → cond b None (record_name_of fields) ≡ Some name → is_good_name name ≡ true
    by true e = absurd cc
    by false e = name_good fields name e

from_so : {A G : Type 0} (f : A → Item) (o : Option A) (item : Item) → ((x : A) → o ≡ Some x → f x ≡ item → G) → or_fault fault.BadReference (option_map f o)
    ≡ Ok item → G
from_so f None item so e = absurd cc
from_so f (Some x) item so e = so x refl cc

item_named : (tables : List TableDef) (rooted : Bool) (fields : List (List ℕ)) (item : Item) → item_of tables rooted fields ≡ Ok item
    → IsWellFormedItem tables item
unfolding item_of
item_named tables rooted fields item e = by _ (bytes_eq (field_of fields 0) (codes "root")) (bytes_eq (field_of fields 0) (codes "member"))
    (bytes_eq (field_of fields 0) (codes "before")) (bytes_eq (field_of fields 0) (codes "need")) e
  where
    by : (a b c d k : Bool) → cond a (cond b (or_fault fault.BadReference (option_map Root (record_root_of rooted fields)))
        (cond c (or_fault fault.BadReference (option_map Member (record_name_of fields)))
        (cond d (or_fault fault.BadReference (option_map says_before (record_names_of fields)))
        (cond k (or_fault fault.BadReference (option_map Need (entry_of tables fields))) (Err fault.BadKind))))) (Err fault.FieldCount) ≡ Ok item
        → IsWellFormedItem tables item
    by false b c d k e = absurd cc
    by true true c d k e = from_so Root (record_root_of rooted fields) item (λ name e1 same. subst (IsWellFormedItem tables) same
        (root_good rooted fields name e1)) e
    by true false true d k e = from_so Member (record_name_of fields) item (λ name e1 same. subst (IsWellFormedItem tables) same (name_good fields name e1)) e
    by true false false true k e = from_so says_before (record_names_of fields) item (λ names e1 same. subst (IsWellFormedItem tables) same
        (names_good tables fields names e1)) e
    by true false false false true e = from_so Need (entry_of tables fields) item (λ entry e1 same. subst (IsWellFormedItem tables) same
        (entry_named tables fields entry e1)) e
    by true false false false false e = absurd cc

-- certificates -------------------------------------------------------------------------------------

each_of : {A : Type 0} (P : A → Type 0) (x : A) (xs : List A) → P x → All P xs → All P (x ∷ xs)
each_of P x xs one all zero d lt = one
each_of P x xs one all (suc k) d lt = all k d (omega arith)

with_named : (tables : List TableDef) (item : Item) (c : Certificate) → IsWellFormedItem tables item → IsWellFormed tables c
    → IsWellFormed tables (with_item item c)
with_named tables (Root name) c one all = record { root = one; members = all.members; before = all.before; entries = all.entries }
with_named tables (Member name) c one all = record {
  root = all.root;
  members = each_of (λ (n : List ℕ). is_good_name n
      ≡ true) name c.members one all.members;
  before = all.before;
  entries = all.entries;
}
with_named tables (Before p) c one all = record {
  root = all.root;
  members = all.members;
  before = each_of IsWellFormedPrecedence p c.before one all.before;
  entries = all.entries;
}
with_named tables (Need entry) c one all = record {
  root = all.root;
  members = all.members;
  before = all.before;
  entries = each_of (IsWellFormedEntry tables) entry c.entries one
      all.entries;
}

live_good : is_good_name live_name ≡ true
unfolding is_good_name
live_good = refl

nothing_named : (tables : List TableDef) → IsWellFormed tables nothing_said
nothing_named tables = record {
  root = live_good;
  members = λ k d lt. absurd (omega arith);
  before = λ k d lt. absurd (omega arith);
  entries = λ k d lt. absurd (omega arith);
}

numbered_ok : {A : Type 0} (n : ℕ) (read : Result A CertFault) (x : A) → at_record n read ≡ Ok x → read ≡ Ok x
numbered_ok n (Ok y) x e = cc
numbered_ok n (Err f) x e = absurd cc

then_ok : {A B E G : Type 0} (one : Result A E) (next : A → Result B E) (y : B) → ((x : A) → one ≡ Ok x → next x ≡ Ok y → G) → one >>= next ≡ Ok y → G
then_ok (Ok x) next y so e = so x refl e
then_ok (Err fault) next y so e = absurd cc

from_named : (tables : List TableDef) (rooted : Bool) (n : ℕ) (rows : List (List (List ℕ))) (c : Certificate) → certificate_from tables rooted n rows ≡ Ok c
    → IsWellFormed tables c
unfolding certificate_from
from_named tables rooted n [] c e = IfOk-at_ok (IsWellFormed tables) e (nothing_named tables)
from_named tables rooted n (fields ∷ rest) c e =
    then_ok (at_record n (item_of tables rooted fields)) _ c (λ item e1 f1.
    then_ok (certificate_from tables (rooted || is_root_item item) (n + 1) rest) _ c (λ others e2 f2.
    IfOk-at_ok (IsWellFormed tables) f2
    (with_named tables item others (item_named tables rooted fields item (numbered_ok n (item_of tables rooted fields) item e1)) (from_named tables (rooted
    || is_root_item item) (n + 1) rest others e2)))
    f1)
    e

-- the certificate of records
pub named_of : (tables : List TableDef) (rows : List (List (List ℕ))) (c : Certificate) → certificate_of tables rows ≡ Ok c → IsWellFormed tables c
named_of tables rows c e = from_named tables false 1 rows c e
