-- The records of a certificate are read as the certificate.
use Rattle.std.proofs.Common.{◌≡◌, ℕ, suc, ◌+◌, ◌||◌, Bool, true, false, List, [], ◌∷◌, ◌++◌, map, codes, Ok, refl, arith}
use Rattle.std.specs.List.{All, AllByRecursion}
use Rattle.std.specs.Str.{IsAscii}
use Rattle.std.proofs.lemmas.Slice.Eq.{bytes_eq-Decides}
use Rattle.std.proofs.lemmas.Str.Ascii.{IsAscii-nil}
use Rattle.csv.specs.Records.{field_at}
use Rattle.clr_rows.specs.declared.tables.TableDef.{TableDef}
use Rattle.clr_rows.specs.Names.{is_good_name, live_name}
use Rattle.clr_records.proofs.RecordsAgain.{IsPlain, ascii_records_again}
use Rattle.clr_records.proofs.Turns.{joined}
use Rattle.clr_cert.specs.declared.certificates.Certificate.{Certificate}
use Rattle.clr_cert.specs.declared.certificates.Entry.{Entry}
use Rattle.clr_cert.specs.declared.certificates.Precedence.{Precedence}
use Rattle.clr_cert.specs.declared.items.Item.TheVariants.{Root, Member, Before, Need}
use Rattle.clr_cert.specs.Certificates.{certificate_from, certificate_in, certificate_of, is_live, item_of}
use Rattle.clr_cert.specs.Texts.{IsReadBack, IsWellFormedPrecedence, before_fields, certificate_records, certificate_text, entry_fields, member_fields}
use Rattle.clr_cert.specs.Texts.{name_fields, root_records}
use Rattle.clr_cert.proofs.EntryAgain.{name_ascii}

member_again : (tables : List TableDef) (rooted : Bool) (name : List ℕ) → is_good_name name ≡ true → item_of tables rooted (member_fields name)
    ≡ Ok (Member name)
unfolding item_of field_at
member_again tables rooted name good = rw good refl

root_again : (tables : List TableDef) (name : List ℕ) → is_live name ≡ false → is_good_name name ≡ true → item_of tables false (name_fields (codes "root") name)
    ≡ Ok (Root name)
unfolding item_of field_at
root_again tables name other good = rw (other, good) refl

before_again : (tables : List TableDef) (rooted : Bool) (p : Precedence) → IsWellFormedPrecedence p → item_of tables rooted (before_fields p) ≡ Ok (Before p)
unfolding item_of field_at
before_again tables rooted p good = rw (good.earlier, good.later) refl

need_again : (tables : List TableDef) (rooted : Bool) (e : Entry) → IsReadBack tables e → item_of tables rooted (entry_fields tables e) ≡ Ok (Need e)
unfolding item_of field_at
need_again tables rooted e is = rw is.entry refl

entries_again : (tables : List TableDef) (rooted : Bool) (n : ℕ) (es : List Entry) → All (IsReadBack tables) es
    → certificate_from tables rooted n (map (entry_fields tables) es) ≡ Ok (record { root = live_name; members = []; before = []; entries = es })
unfolding certificate_from
entries_again tables rooted n [] all = refl
entries_again tables rooted n (e ∷ es) all =
    rw (need_again tables rooted e (all 0 e (omega arith)), entries_again tables (rooted || false) (n + 1) es (λ k d lt. all (suc k) d (omega arith))) refl

precedences_again : (tables : List TableDef) (rooted : Bool) (n : ℕ) (ps : List Precedence) (es : List Entry) → All IsWellFormedPrecedence ps
    → All (IsReadBack tables) es
    → certificate_from tables rooted n (map before_fields ps ++ map (entry_fields tables) es)
    ≡ Ok (record { root = live_name; members = []; before = ps; entries = es })
unfolding certificate_from
precedences_again tables rooted n [] es good all = entries_again tables rooted n es all
precedences_again tables rooted n (p ∷ ps) es good all =
    rw (
      before_again tables rooted p (good 0 p (omega arith)),
      precedences_again tables (rooted || false) (n + 1) ps es (λ k d lt. good (suc k) d (omega arith)) all,
    ) refl

members_again : (tables : List TableDef) (rooted : Bool) (n : ℕ) (names : List (List ℕ)) (ps : List Precedence) (es : List Entry)
    → All (λ name. is_good_name name ≡ true) names
    → All IsWellFormedPrecedence ps
    → All (IsReadBack tables) es
    → certificate_from tables rooted n (map member_fields names ++ (map before_fields ps ++ map (entry_fields tables) es))
    ≡ Ok (record { root = live_name; members = names; before = ps; entries = es })
unfolding certificate_from
members_again tables rooted n [] ps es good turns all = precedences_again tables rooted n ps es turns all
members_again tables rooted n (name ∷ names) ps es good turns all =
    rw (
      member_again tables rooted name (good 0 name (omega arith)),
      members_again tables (rooted || false) (n + 1) names ps es (λ k d lt. good (suc k) d (omega arith)) turns all,
    ) refl

-- the records are in ASCII, each with a field ------------------------------------------------------

mapped : {A B : Type 0} (P : B → Type 0) (f : A → B) (Q : A → Type 0) (xs : List A) → ((x : A) → Q x → P (f x)) → All Q xs → AllByRecursion P (map f xs)
mapped P f Q [] so all = tt
mapped P f Q (x ∷ xs) so all = (so x (all 0 x (omega arith)), mapped P f Q xs so (λ k d lt. all (suc k) d (omega arith)))

name_plain : (word name : List ℕ) → IsAscii word → is_good_name name ≡ true → IsPlain IsAscii (name_fields word name)
name_plain word name ascii good = record {
  some = refl;
  each = (ascii, (name_ascii name good, (IsAscii-nil, (IsAscii-nil, (IsAscii-nil, (IsAscii-nil, tt))))));
}

root_word : is_good_name (codes "root") ≡ true
unfolding is_good_name
root_word = refl

member_word : is_good_name (codes "member") ≡ true
unfolding is_good_name
member_word = refl

before_word : is_good_name (codes "before") ≡ true
unfolding is_good_name
before_word = refl

before_plain : (p : Precedence) → IsWellFormedPrecedence p → IsPlain IsAscii (before_fields p)
before_plain p good = record {
  some = refl;
  each = (
    name_ascii (codes "before") before_word,
    (name_ascii p.earlier good.earlier, (name_ascii p.later good.later, (IsAscii-nil, (IsAscii-nil, (IsAscii-nil, tt))))),
  );
}

entry_plain : (tables : List TableDef) (e : Entry) → IsReadBack tables e → IsPlain IsAscii (entry_fields tables e)
entry_plain tables e is = record { some = refl; each = is.ascii }

root_plain : (root : List ℕ) → is_good_name root ≡ true → AllByRecursion (IsPlain IsAscii) (root_records root)
root_plain root good = by (is_live root) refl
  where
    by : (live : Bool) → is_live root ≡ live → AllByRecursion (IsPlain IsAscii) (root_records root)
    by true e = rw e tt
    by false e = rw e (name_plain (codes "root") root (name_ascii (codes "root") root_word) good, tt)

-- the whole certificate ---------------------------------------------------------------------------

module _ (tables : List TableDef) (c : Certificate) (root : is_good_name c.root ≡ true) (good : All (λ name. is_good_name name ≡ true) c.members)
    (turns : All IsWellFormedPrecedence c.before) (all : All (IsReadBack tables) c.entries) where
  certificate_again : certificate_of tables (certificate_records tables c) ≡ Ok c
  unfolding certificate_from certificate_records
  certificate_again = by (is_live c.root) refl
    where
      by : (live : Bool) → is_live c.root ≡ live → certificate_of tables (certificate_records tables c) ≡ Ok c
      by true e = rw (e, members_again tables false 1 c.members c.before c.entries good turns all, (bytes_eq-Decides c.root live_name).0 e) refl
      by false e = rw (e, root_again tables c.root e root, members_again tables true 2 c.members c.before c.entries good turns all) refl

  records_plain : AllByRecursion (IsPlain IsAscii) (certificate_records tables c)
  unfolding certificate_records
  records_plain =
      joined (IsPlain IsAscii) (root_records c.root) (map member_fields c.members ++ (map before_fields c.before ++ map (entry_fields tables) c.entries))
      (root_plain c.root root)
      (joined (IsPlain IsAscii) (map member_fields c.members) (map before_fields c.before ++ map (entry_fields tables) c.entries)
      (mapped (IsPlain IsAscii) member_fields _ c.members (λ name is. name_plain (codes "member") name (name_ascii (codes "member") member_word) is) good)
      (joined (IsPlain IsAscii) (map before_fields c.before) (map (entry_fields tables) c.entries)
      (mapped (IsPlain IsAscii) before_fields _ c.before before_plain turns)
      (mapped (IsPlain IsAscii) (entry_fields tables) (IsReadBack tables) c.entries (entry_plain tables) all)))

  -- the text of a certificate is read as the certificate
  pub read_again : certificate_in tables (certificate_text tables c) ≡ Ok c
  read_again = rw (ascii_records_again (certificate_records tables c) records_plain) certificate_again
