-- Writing one record after another, as loops do.
use Rattle.std.proofs.Common.{◌≡◌, ℕ, ◌+◌, ◌<◌, Bool, true, false, List, [], ◌∷◌, ◌++◌, map, length, get_or, take, refl, subst, ◌∙◌, append_assoc}
use Rattle.std.proofs.Common.{append-nil, arith, add-one, ltb}
use Rattle.std.proofs.Math.Seq.{take-suc}
use Rattle.std.proofs.lemmas.Bool.Decides.{nat_tests}
use Rattle.std.proofs.lemmas.Grind.{flat_map-append}
use Rattle.std.proofs.lemmas.List.{get_or_default, map-append}
use Rattle.csv.specs.Writing.{default_writer, row_text}
use Rattle.clr_rows.specs.declared.tables.TableDef.{TableDef}
use Rattle.clr_cert.specs.declared.certificates.Certificate.{Certificate}
use Rattle.clr_records.specs.Writing.{records_text}
use Rattle.clr_cert.specs.Texts.{before_fields, certificate_records, certificate_text, entry_fields, member_fields, root_records}

-- the text of the records so far, and of one more
pub text_more : {X : Type 0} (f : X → List (List ℕ)) (xs : List X) (i : ℕ) (d : X) (front so_far now : List ℕ) → i < length xs → so_far ≡ front
    ++ records_text (map f (take i xs)) → now ≡ so_far ++ row_text default_writer (f (get_or xs i d))
    → now ≡ front ++ records_text (map f (take (i + 1) xs))
text_more f xs i d front so_far now lt before one =
    let x = get_or xs i d in
    rw (
      add-one i,
      take-suc xs i d lt,
      map-append f (take i xs) (x ∷ []),
      flat_map-append (row_text default_writer) (map f (take i xs)) (f x
          ∷ []),
      append-nil (row_text default_writer (f x)),
    )
    (one ∙ rw before (append_assoc front (records_text (map f (take i xs))) (row_text default_writer (f x))))

-- what holds of each so far, and of one more
pub each_more : {X : Type 0} (P : X → Type 0) (xs : List X) (i : ℕ) (d : X) → i < length xs → P (get_or xs i d) → ((k : ℕ) (e : X) → k < i → P (get_or xs k e))
    → (k : ℕ) (e : X) → k < i + 1 → P (get_or xs k e)
each_more P xs i d lt one before k e below = by (ltb k i) refl
  where
    by : (b : Bool) → ltb k i ≡ b → P (get_or xs k e)
    by true t = let less : k < i = grind (arith, nat_tests) in before k e less
    by false t =
        let same : i ≡ k = grind (arith, nat_tests) in
        subst (λ n. P (get_or xs n e)) same (subst P (get_or_default xs i d e lt) one)

-- the text of a certificate: its root, its members, its precedences and its entries
pub text_whole : (tables : List TableDef) (c : Certificate)
    → certificate_text tables c ≡ records_text (root_records c.root) ++ records_text (map member_fields c.members) ++ records_text (map before_fields c.before)
    ++ records_text (map (entry_fields tables) c.entries)
unfolding certificate_records
text_whole tables c =
    rw (
      flat_map-append (row_text default_writer) (root_records c.root) (map member_fields c.members ++ (map before_fields c.before
          ++ map (entry_fields tables) c.entries)),
      flat_map-append (row_text default_writer) (map member_fields c.members) (map before_fields c.before ++ map (entry_fields tables) c.entries),
      flat_map-append (row_text default_writer) (map before_fields c.before) (map (entry_fields tables) c.entries),
    )
    (simp append_assoc)
