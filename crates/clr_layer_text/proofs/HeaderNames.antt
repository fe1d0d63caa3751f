-- The names of a header differ.
use Rattle.std.proofs.Common.{◌≡◌, ℕ, ◌&&◌, Bool, true, false, not, List, [], ◌∷◌, ◌++◌, length, map, Some, None, refl, sym}
use Rattle.std.specs.Prelude.{nat_le, slice_get}
use Rattle.std.specs.List.{list_all, list_any}
use Rattle.std.specs.Str.{bytes_eq}
use Rattle.std.proofs.lemmas.Bool.{and_from, and_parts, not-true, or_parts}
use Rattle.std.proofs.lemmas.Slice.Eq.{bytes_eq-Decides}
use Rattle.clr_rows.specs.declared.faults.SchemaFault.TheVariants as unfit
use Rattle.clr_rows.specs.declared.limits.TheConstants.{KEY, MOST_TABLES}
use Rattle.clr_rows.specs.declared.tables.Form.{Form}
use Rattle.clr_rows.specs.declared.tables.Form.TheVariants as form
use Rattle.clr_rows.specs.declared.tables.Kind.{Kind}
use Rattle.clr_rows.specs.declared.tables.TableDef.{TableDef}
use Rattle.clr_rows.specs.Names.{is_good_name}
use Rattle.clr_rows.specs.Schemas.{are_distinct, has_distinct_columns, has_good_names, has_room, is_column_name, names_of, schema_fault}
use Rattle.clr_rows.proofs.SchemaLemmas.{at_each, passed}
use Rattle.clr_layer_text.specs.declared.limits.TheConstants.{SHAPE}
use Rattle.clr_layer_text.specs.Layers.{can_be_layer, header_of, is_called_shape, shape_name}

-- two names are compared alike from both sides
turned : (a b : List ℕ) (r : Bool) → bytes_eq a b ≡ r → bytes_eq b a ≡ r
turned a b true e = (bytes_eq-Decides b a).1 (sym ((bytes_eq-Decides a b).0 e))
turned a b false e = by (bytes_eq b a) refl
  where
    by : (q : Bool) → bytes_eq b a ≡ q → bytes_eq b a ≡ false
    by true is = let same = (bytes_eq-Decides a b).1 (sym ((bytes_eq-Decides b a).0 is)) in absurd (cc)
    by false is = is

names : (tables : List TableDef) → schema_fault tables ≡ None → (list_all has_good_names tables ≡ true) × (list_all has_distinct_columns tables ≡ true)
unfolding schema_fault
names tables h =
    let a = passed (nat_le (length tables) MOST_TABLES && list_all has_room tables) unfit.TooMany _ h in
    let b = passed (list_all has_good_names tables) unfit.BadName _ a.1 in
    let d = passed (are_distinct (map (λ t. t.name) tables) && list_all has_distinct_columns tables) unfit.NameTaken _ b.1 in
    (b.0, (and_parts (are_distinct (map (λ t. t.name) tables)) (list_all has_distinct_columns tables) d.0).1)

-- no column is called `KEY`, nor is the field of shapes
none_is_key : (columns : List (List ℕ × Kind)) (rest : List (List ℕ)) → list_all (λ c. is_column_name c.0) columns ≡ true → list_any (bytes_eq KEY.now) rest
    ≡ false
    → list_any (bytes_eq KEY.now) (names_of columns ++ rest) ≡ false
none_is_key [] rest good none = none
none_is_key (c ∷ cs) rest good none =
    let t = and_parts (is_column_name c.0) (list_all (λ d. is_column_name d.0) cs) good in
    let other = not-true (bytes_eq c.0 KEY.now) (and_parts (is_good_name c.0) (not (bytes_eq c.0 KEY.now)) t.0).1 in
    rw (turned c.0 KEY.now false other) (none_is_key cs rest t.1 none)

-- one more name at the end, which equals none before
unlike : (name last : List ℕ) (names : List (List ℕ)) → list_any (bytes_eq name) names ≡ false → bytes_eq name last ≡ false
    → list_any (bytes_eq name) (names ++ last ∷ []) ≡ false
unlike name last [] none other = rw other refl
unlike name last (n ∷ ns) none other =
    let t = or_parts (bytes_eq name n) (list_any (bytes_eq name) ns) none in
    rw t.0 (unlike name last ns t.1 other)

not_false : (b : Bool) → b ≡ false → not b ≡ true
not_false b e = rw e refl

one_more : (columns : List (List ℕ × Kind)) (last : List ℕ) → are_distinct (names_of columns) ≡ true → list_any (λ c. bytes_eq c.0 last) columns ≡ false
    → are_distinct (names_of columns ++ last ∷ []) ≡ true
one_more [] last h none = refl
one_more (c ∷ cs) last h none =
    let t = and_parts (not (list_any (bytes_eq c.0) (names_of cs))) (are_distinct (names_of cs)) h in
    let n = or_parts (bytes_eq c.0 last) (list_any (λ d. bytes_eq d.0 last) cs) none in
    let alone = unlike c.0 last (names_of cs) (not-true (list_any (bytes_eq c.0) (names_of cs)) t.0) n.0 in
    and_from (not (list_any (bytes_eq c.0) (names_of cs ++ last ∷ []))) (are_distinct (names_of cs ++ last ∷ [])) (not_false _ alone) (one_more cs last t.1 n.1)

append_none : (xs : List (List ℕ)) → xs ++ [] ≡ xs
append_none [] = refl
append_none (x ∷ xs) = rw (append_none xs) refl

columns_and_shape : (table : TableDef) → are_distinct (names_of table.columns) ≡ true → can_be_layer table ≡ true
    → are_distinct (names_of table.columns ++ shape_name table.shape) ≡ true
columns_and_shape table h can = by table.shape refl
  where
    by : (wanted : Form) → table.shape ≡ wanted → are_distinct (names_of table.columns ++ shape_name table.shape) ≡ true
    by form.Bare is = rw (is, append_none (names_of table.columns)) h
    by form.Point is = rw is (one_more table.columns SHAPE.now h (not-true (list_any is_called_shape table.columns) (rw is at can)))
    by form.Segment is = rw is (one_more table.columns SHAPE.now h (not-true (list_any is_called_shape table.columns) (rw is at can)))
    by form.Path is = rw is (one_more table.columns SHAPE.now h (not-true (list_any is_called_shape table.columns) (rw is at can)))

no_key_in_shape : (wanted : Form) → list_any (bytes_eq KEY.now) (shape_name wanted) ≡ false
no_key_in_shape form.Bare = refl
no_key_in_shape form.Point = refl
no_key_in_shape form.Segment = refl
no_key_in_shape form.Path = refl

pub header_differs : (tables : List TableDef) (at : ℕ) (table : TableDef) → schema_fault tables ≡ None → slice_get tables at ≡ Some table → can_be_layer table
    ≡ true
    → are_distinct (header_of table) ≡ true
header_differs tables at table sound is can =
    let n = names tables sound in
    let good = (and_parts (is_good_name table.name) (list_all (λ c. is_column_name c.0) table.columns) (at_each has_good_names tables at table n.0 is)).1 in
    let differ = at_each has_distinct_columns tables at table n.1 is in
    let alone = none_is_key table.columns (shape_name table.shape) good (no_key_in_shape table.shape) in
    and_from (not (list_any (bytes_eq KEY.now) (names_of table.columns ++ shape_name table.shape))) (are_distinct (names_of table.columns
    ++ shape_name table.shape))
    (not_false _ alone) (columns_and_shape table differ can)
