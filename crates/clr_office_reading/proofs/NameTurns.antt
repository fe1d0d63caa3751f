-- The names of workspaces that are read, one after another.
use Rattle.std.proofs.Common.{◌≡◌, Bool, true, false, cond, List, [], ◌∷◌, ◌++◌, String, Global, string_bytes, BTreeSet, refl, sym, ap, ◌∙◌}
use Rattle.std.specs.Prelude.{◌||◌}
use Rattle.std.specs.BTreeSet.{IsEmpty, Updates, contains_text}
use Rattle.std.specs.List.{list_any}
use Rattle.std.specs.Str.{bytes_eq}
use Rattle.std.specs.String.{string_cmp}
use Rattle.std.proofs.lemmas.List.Folds.{list_any-append}
use Rattle.std.proofs.lemmas.Map.Text.{btree_set_updates_text}
use Rattle.std.specs.Cmp.Lexicographic.{bytes_decides, slice_cmp}
use Rattle.std.specs.Ordering.{is_eq, nat_cmp}
use Rattle.clr_deltas.specs.Deltas.{Delta}
use Rattle.clr_workspaces.specs.Marks.{Name}
use Rattle.clr_office_reading.specs.Workspaces.{HasNames}

pub none_read : (names : BTreeSet (String Global)) → IsEmpty names → HasNames names []
none_read names empty name = ap (list_any (λ (k : String Global). is_eq (slice_cmp nat_cmp name (string_bytes k)))) empty

-- equal both ways
turned : (a b : Name) → bytes_eq a b ≡ bytes_eq b a
turned a b = by (bytes_eq a b) refl (bytes_eq b a) refl
  where
    by : (p : Bool) → bytes_eq a b ≡ p → (q : Bool) → bytes_eq b a ≡ q → p ≡ q
    by true e true f = refl
    by false e false f = refl
    by true e false f = sym ((bytes_decides b a).1 (sym ((bytes_decides a b).0 e))) ∙ f
    by false e true f = sym e ∙ (bytes_decides a b).1 (sym ((bytes_decides b a).0 f))

pub named_more : (names next : BTreeSet (String Global)) (key : String Global) (earlier : List Delta) (l : Delta) → HasNames names earlier → string_bytes key
    ≡ l.name
    → Updates string_cmp names next key true → HasNames next (earlier ++ l ∷ [])
named_more names next key earlier l named is updates name =
    btree_set_updates_text (string_bytes key) names next true updates name
    ∙ by (bytes_eq (string_bytes key) name) (named name) (ap (λ n. bytes_eq n name) is ∙ turned l.name name)
    ∙ sym (list_any-append (λ (m : Delta). bytes_eq name m.name) earlier (l ∷ []))
  where
    by : (b : Bool) → contains_text names name ≡ list_any (λ (m : Delta). bytes_eq name m.name) earlier → b ≡ bytes_eq name l.name
        → cond b true (contains_text names name) ≡ (list_any (λ (m : Delta). bytes_eq name m.name) earlier || (bytes_eq name l.name || false))
    by b before same = (λ i. cond b true (before i)) ∙ cases b (list_any (λ (m : Delta). bytes_eq name m.name) earlier)
        ∙ ap (λ t. list_any (λ (m : Delta). bytes_eq name m.name) earlier || (t || false)) same
      where
        cases : (b x : Bool) → cond b true x ≡ (x || (b || false))
        cases true true = refl
        cases true false = refl
        cases false true = refl
        cases false false = refl
