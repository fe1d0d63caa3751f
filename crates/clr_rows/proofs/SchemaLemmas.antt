-- What follows of tables that make a schema, and of a row that fits one.
use Rattle.std.proofs.Common.{◌≡◌, ℕ, ◌+◌, ◌<◌, ◌≤◌, Bool, true, false, not, ◌&&◌, ◌||◌, List, [], ◌∷◌, length, ℤ, pos, negsuc, map, drop, get_or, refl, ap}
use Rattle.std.proofs.Common.{subst, suc, zero, ◌^◌, add-one, arith, rules, Option, Some, None, FitsSigned, w64}
use Rattle.std.specs.Prelude.{if◌then◌else◌, slice_get, position, nat_le, ◌==◌, unsigned_abs}
use Rattle.std.proofs.Math.Seq.{drop-cons}
use Rattle.std.proofs.lemmas.Bool.{not-true, not-false, lt-ltb, and_parts, and_from, or_parts, leb-true, eqb-true, both_ways}
use Rattle.std.proofs.lemmas.Bool.Decides.{Decides-int_eq}
use Rattle.std.proofs.lemmas.Option.{same_Some, slice_get_within}
use Rattle.std.proofs.lemmas.Slice.Eq.{bytes_eq-Decides}
use Rattle.std.specs.List.{list_all, list_any, position_or_len}
use Rattle.std.specs.Ordering.{int_eq}
use Rattle.std.specs.Str.{bytes_eq}
use Rattle.clr_rows.proofs.PartLemmas.{path_part, length-path_parts}
use Rattle.clr_rows.specs.declared.cells.CellId.{CellId}
use Rattle.clr_rows.specs.declared.faults.SchemaFault.TheVariants as unfit
use Rattle.clr_rows.specs.declared.faults.RowFault.TheVariants.{WrongCount, WrongKind, WordsTooLong, WrongShape, OutOfRange, ZeroSegment, BadPath}
use Rattle.clr_rows.specs.declared.limits.TheConstants.{MOST_TABLES, MOST_COLUMNS, MOST_TEXT_BYTES, GREATEST_KEY, GREATEST_COORDINATE, LEAST_VERTICES}
use Rattle.clr_rows.specs.declared.limits.TheConstants.{MOST_VERTICES}
use Rattle.clr_rows.specs.declared.places.Place.{Place}
use Rattle.clr_rows.specs.declared.places.Shape.{Shape}
use Rattle.clr_rows.specs.declared.places.Shape.TheVariants.{Bare, At, Line, Chain}
use Rattle.clr_rows.specs.declared.rows.Row.{Row}
use Rattle.clr_rows.specs.declared.rows.Value.{Value}
use Rattle.clr_rows.specs.declared.rows.Value.TheVariants.{Int, Words}
use Rattle.clr_rows.specs.declared.tables.Kind.{Kind}
use Rattle.clr_rows.specs.declared.tables.TableDef.{TableDef}
use Rattle.clr_rows.specs.Names.{is_good_name}
use Rattle.clr_rows.specs.Numbers.{is_i64}
use Rattle.clr_rows.specs.Parts.{path_parts, parts_of}
use Rattle.clr_rows.specs.Places.{InRange, Differ}
use Rattle.clr_rows.specs.Same.{same_place}
use Rattle.clr_rows.specs.Schemas.{are_distinct, schema_fault, has_room, has_good_names, has_distinct_columns, is_column_name, table_named, column_named}
use Rattle.clr_rows.specs.Schemas.{is_of_kind, are_of_kinds, is_short, is_of_form, is_key, is_place, is_coordinate, has_coordinates, is_number, is_in_range}
use Rattle.clr_rows.specs.Schemas.{has_zero_part, is_bad_path, fault_in, fault_at, row_fault, key_fault, cell_fault}

-- names that differ --------------------------------------------------------------------------

pub list_any-map : {X Y : Type 0} (p : Y → Bool) (f : X → Y) (xs : List X) → list_any p (map f xs) ≡ list_any (λ x. p (f x)) xs
list_any-map p f [] = refl
list_any-map p f (x ∷ xs) = ap (λ b. p (f x) || b) (list_any-map p f xs)

-- the names from the i-th on differ if the i-th isn't among the later ones, and those differ
pub distinct_from : {X : Type 0} (f : X → List ℕ) (xs : List X) (i : ℕ) (x : X) → i < length xs → x ≡ get_or xs i x → are_distinct (map f (drop i xs))
    ≡ (not (list_any (λ y. bytes_eq (f x) (f y)) (drop (i + 1) xs)) && are_distinct (map f (drop (i + 1) xs)))
distinct_from f xs i x h is =
    rw (add-one, drop-cons xs i x h, ← is, list_any-map (bytes_eq (f x)) f (drop (suc i) xs))

-- a chain of tests that lets pass has passed the first of them, and the others
pub passed : {E : Type 0} (b : Bool) (e : E) (rest : Option E) → (if not b then Some e else rest) ≡ None → (b ≡ true) × (rest ≡ None)
passed true e rest h = (refl, h)
passed false e rest h = cc

-- a test that all elements pass is passed by each
pub at_each : {X : Type 0} (p : X → Bool) (xs : List X) (i : ℕ) (x : X) → list_all p xs ≡ true → slice_get xs i ≡ Some x → p x ≡ true
at_each p [] i x all is = cc
at_each p (y ∷ ys) zero x all is = let h = and_parts (p y) (list_all p ys) all in cc
at_each p (y ∷ ys) (suc i) x all is = at_each p ys i x (and_parts (p y) (list_all p ys) all).1 is

-- limits of a schema -------------------------------------------------------------------------

few : (tables : List TableDef) → schema_fault tables ≡ None → (nat_le (length tables) MOST_TABLES ≡ true) × (list_all has_room tables ≡ true)
unfolding schema_fault
few tables h = and_parts _ _ (passed (nat_le (length tables) MOST_TABLES && list_all has_room tables) unfit.TooMany _ h).0

pub few_tables : (tables : List TableDef) → schema_fault tables ≡ None → length tables ≤ MOST_TABLES
few_tables tables h = leb-true (length tables) MOST_TABLES (few tables h).0

-- names of a schema --------------------------------------------------------------------------

names : (tables : List TableDef) → schema_fault tables ≡ None → (list_all has_good_names tables ≡ true) × (are_distinct (map (λ t. t.name) tables) ≡ true)
    × (list_all has_distinct_columns tables ≡ true)
unfolding schema_fault
names tables h =
    let a = passed (nat_le (length tables) MOST_TABLES && list_all has_room tables) unfit.TooMany _ h in
    let b = passed (list_all has_good_names tables) unfit.BadName _ a.1 in
    let d = passed (are_distinct (map (λ t. t.name) tables) && list_all has_distinct_columns tables) unfit.NameTaken _ b.1 in
    let e = and_parts (are_distinct (map (λ t. t.name) tables)) (list_all has_distinct_columns tables) d.0 in
    (b.0, e.0, e.1)

-- an element whose name equals no later one's differs from each later one
apart : {X : Type 0} (f : X → List ℕ) (name : List ℕ) (xs : List X) (i : ℕ) (x : X) → list_any (bytes_eq name) (map f xs) ≡ false → slice_get xs i ≡ Some x
    → bytes_eq name (f x) ≡ false
apart f name [] i x none is = cc
apart f name (y ∷ ys) zero x none is = let h = or_parts (bytes_eq name (f y)) (list_any (bytes_eq name) (map f ys)) none in cc
apart f name (y ∷ ys) (suc i) x none is = apart f name ys i x (or_parts (bytes_eq name (f y)) (list_any (bytes_eq name) (map f ys)) none).1 is

position_by_name : {X : Type 0} (f : X → List ℕ) (xs : List X) (i : ℕ) (x : X) → are_distinct (map f xs) ≡ true → slice_get xs i ≡ Some x
    → position_or_len (λ y. bytes_eq (f y) (f x)) xs ≡ i
position_by_name f [] i x h is = cc
position_by_name f (y ∷ ys) zero x h is =
    let e : y ≡ x = cc in
    let same = (bytes_eq-Decides (f y) (f x)).1 (ap f e) in
    rw same refl
position_by_name f (y ∷ ys) (suc i) x h is =
    let a = and_parts (not (list_any (bytes_eq (f y)) (map f ys))) (are_distinct (map f ys)) h in
    let other = apart f (f y) ys i x (not-true (list_any (bytes_eq (f y)) (map f ys)) a.0) is in
    let rest = position_by_name f ys i x a.1 is in
    rw (other, rest) (omega arith)

-- an element that is the first to pass a test is found by it
position_at : {X : Type 0} (p : X → Bool) (xs : List X) (i : ℕ) (x : X) → slice_get xs i ≡ Some x → position_or_len p xs ≡ i → position p xs ≡ Some i
position_at p xs i x is first = rw (first, lt-ltb i (length xs) (slice_get_within xs i x is)) refl

-- a table of a schema has few columns and a good name, and is found by its name
module _ (tables : List TableDef) (i : ℕ) (table : TableDef) (sound : schema_fault tables ≡ None) (is : slice_get tables i ≡ Some table) where
  pub few_columns : length table.columns ≤ MOST_COLUMNS
  few_columns = leb-true (length table.columns) MOST_COLUMNS (at_each has_room tables i table (few tables sound).1 is)

  good_names : (is_good_name table.name ≡ true) × (list_all (λ c. is_column_name c.0) table.columns ≡ true)
  good_names = and_parts _ _ (at_each has_good_names tables i table (names tables sound).0 is)

  pub good_table_name : is_good_name table.name ≡ true
  good_table_name = good_names.0

  pub table_of_name : table_named tables table.name ≡ Some i
  table_of_name = position_at _ tables i table is (position_by_name (λ t. t.name) tables i table (names tables sound).1 is)

-- each column of a table has a good name, and it is the first column of this name
module _ (tables : List TableDef) (i j : ℕ) (table : TableDef) (column : List ℕ × Kind) (sound : schema_fault tables ≡ None)
    (is : slice_get tables i ≡ Some table) (at : slice_get table.columns j ≡ Some column) where
  pub good_column_name : is_column_name column.0 ≡ true
  good_column_name = at_each (λ c. is_column_name c.0) table.columns j column (good_names tables i table sound is).1 at

  pub column_of_name : column_named tables i column.0 ≡ Some j
  column_of_name = rw is (position_at _ table.columns j column at
      (position_by_name (λ c. c.0) table.columns j column (at_each has_distinct_columns tables i table (names tables sound).2 is) at))

-- a row that fits a table --------------------------------------------------------------------

-- the tests that a row at a cell of this table passes
pub record Fits (table : TableDef) (cell : CellId) (row : Row) : Type 0 where
  pub count : length row.values ≡ length table.columns
  pub kinds : are_of_kinds table.columns row.values ≡ true
  pub short : list_all is_short row.values ≡ true
  pub form : is_of_form table.shape row.shape ≡ true
  pub key : is_key cell.key ≡ true
  pub coordinates : has_coordinates row.shape ≡ true
  pub numbers : list_all is_number row.values ≡ true
  pub parts : has_zero_part row.shape ≡ false
  pub vertices : is_bad_path row.shape ≡ false

-- a chain of tests that lets pass has not met the first of these faults
unmet : {E : Type 0} (b : Bool) (e : E) (rest : Option E) → (if b then Some e else rest) ≡ None → (b ≡ false) × (rest ≡ None)
unmet true e rest h = cc
unmet false e rest h = (refl, h)

in_range : (cell : CellId) (row : Row) → is_in_range cell row ≡ true → (is_key cell.key ≡ true) × (has_coordinates row.shape ≡ true)
    × (list_all is_number row.values ≡ true)
in_range cell row h =
    let ab = and_parts (is_key cell.key && has_coordinates row.shape) (list_all is_number row.values) h in
    let a = and_parts (is_key cell.key) (has_coordinates row.shape) ab.0 in
    (a.0, a.1, ab.1)

fits_in : (table : TableDef) (cell : CellId) (row : Row) → fault_in table cell row ≡ None → Fits table cell row
fits_in table cell row h =
    let a = passed (length row.values == length table.columns) WrongCount _ h in
    let b = passed (are_of_kinds table.columns row.values) WrongKind _ a.1 in
    let d = passed (list_all is_short row.values) WordsTooLong _ b.1 in
    let e = passed (is_of_form table.shape row.shape) WrongShape _ d.1 in
    let f = passed (is_in_range cell row) OutOfRange _ e.1 in
    let g = in_range cell row f.0 in
    let parts = unmet (has_zero_part row.shape) ZeroSegment _ f.1 in
    let path = unmet (is_bad_path row.shape) BadPath _ parts.1 in
    record { count = eqb-true _ _ a.0; kinds = b.0; short = d.0; form = e.0; key = g.0; coordinates = g.1; numbers = g.2; parts = parts.0; vertices = path.0 }

fits_at : (found : Option TableDef) (cell : CellId) (row : Row) → fault_at found cell row ≡ None → (table : TableDef) × (found ≡ Some table)
    × Fits table cell row
fits_at None cell row h = cc
fits_at (Some table) cell row h = (table, refl, fits_in table cell row h)

-- a row without a fault stands in a known table, and passes its tests
pub fits_table : (tables : List TableDef) (cell : CellId) (row : Row) → row_fault tables cell row ≡ None → (table : TableDef)
    × (slice_get tables cell.table ≡ Some table) × Fits table cell row
unfolding row_fault
fits_table tables cell row h = fits_at (slice_get tables cell.table) cell row h

-- what a fit gives ---------------------------------------------------------------------------

-- a key as a number from 1 on
pub key_of : (key : ℤ) → is_key key ≡ true → (n : ℕ) × (key ≡ pos n) × (1 ≤ n) × (n ≤ unsigned_abs GREATEST_KEY)
key_of (pos n) h = let a = and_parts (nat_le 1 n) (nat_le n (unsigned_abs GREATEST_KEY)) h in (
  n,
  refl,
  leb-true 1 n a.0,
  leb-true n (unsigned_abs GREATEST_KEY)
      a.1,
)
key_of (negsuc n) h = cc

-- a number that fits 64 bits, a key and a coordinate are within them
pub number_within : (z : ℤ) → FitsSigned w64 z → is_i64 z ≡ true
number_within (pos n) fits = search rules
number_within (negsuc n) fits = search rules

pub key_within : (key : ℤ) → is_key key ≡ true → is_i64 key ≡ true
key_within key h =
    let k = key_of key h in
    let le = k.3 in
    rw k.1 (lt-ltb k.0 (2 ^ 63) (omega arith))

pub coordinate_within : (z : ℤ) → is_coordinate z ≡ true → is_i64 z ≡ true
coordinate_within (pos n) h = let le = leb-true n GREATEST_COORDINATE h in lt-ltb n (2 ^ 63) (omega arith)
coordinate_within (negsuc n) h = let le = leb-true (suc n) GREATEST_COORDINATE h in lt-ltb n (2 ^ 63) (omega arith)

place_in_range : (p : Place) → is_place p ≡ true → InRange p
place_in_range p h =
    let a = and_parts (is_coordinate p.x) (is_coordinate p.y) h in
    record { in_x = leb-true (unsigned_abs p.x) GREATEST_COORDINATE a.0; in_y = leb-true (unsigned_abs p.y) GREATEST_COORDINATE a.1 }

places_differ : (p q : Place) → same_place p q ≡ false → Differ p q
places_differ p q h = λ x y. both_ways (same_place p q) h (and_from (int_eq p.x q.x) (int_eq p.y q.y) ((Decides-int_eq p.x q.x).1 x)
    ((Decides-int_eq p.y q.y).1 y))

-- a test that no element passes is passed by none
at_none : {X : Type 0} (p : X → Bool) (xs : List X) (i : ℕ) (x : X) → list_any p xs ≡ false → slice_get xs i ≡ Some x → p x ≡ false
at_none p [] i x none is = cc
at_none p (y ∷ ys) zero x none is = let h = or_parts (p y) (list_any p ys) none in cc
at_none p (y ∷ ys) (suc i) x none is = at_none p ys i x (or_parts (p y) (list_any p ys) none).1 is

-- the ends of each part are in range and differ
part_ends : (shape : Shape) (n : ℕ) (p q : Place) → has_coordinates shape ≡ true → has_zero_part shape ≡ false → slice_get (parts_of shape) n ≡ Some (p, q)
    → InRange p × InRange q × Differ p q
part_ends Bare n p q all none is = cc
part_ends (At r) n p q all none is = cc
part_ends (Line r u) zero p q all none is =
    let a = and_parts (is_place r) (is_place u) all in
    let same = same_Some (r, u) (p, q) is in
    let first = ap (λ (e : Place × Place). e.0) same in
    let second = ap (λ (e : Place × Place). e.1) same in
    let apart = places_differ r u (or_parts (same_place r u) false none).0 in (
      subst InRange first (place_in_range r a.0),
      subst InRange second (place_in_range u a.1),
      subst (λ e. Differ p e) second
          (subst (λ e. Differ e u) first apart),
    )
part_ends (Line r u) (suc n) p q all none is = cc
part_ends (Chain vertices) n p q all none is =
    let ends = path_part vertices n (p, q) is in (
      place_in_range p (at_each is_place vertices n p all ends.0),
      place_in_range q (at_each is_place vertices (suc n) q all ends.1),
      places_differ p q (at_none (λ part. same_place part.0 part.1) (path_parts vertices) n (p, q) none is),
    )

path_length : (vertices : List Place) → is_bad_path (Chain vertices) ≡ false → (LEAST_VERTICES ≤ length vertices) × (length vertices ≤ MOST_VERTICES)
path_length vertices h =
    let a = and_parts (nat_le LEAST_VERTICES (length vertices)) (nat_le (length vertices) MOST_VERTICES) (not-false _ h) in
    (leb-true LEAST_VERTICES (length vertices) a.0, leb-true (length vertices) MOST_VERTICES a.1)

few_parts : (shape : Shape) → is_bad_path shape ≡ false → length (parts_of shape) < MOST_VERTICES
few_parts Bare h = omega arith
few_parts (At p) h = omega arith
few_parts (Line p q) h = omega arith
few_parts (Chain vertices) h = omega (arith, length-path_parts vertices, (path_length vertices h).1)

keyed : (found : Option TableDef) (cell : CellId) (table : TableDef) → found ≡ Some table → is_key cell.key ≡ true → key_fault found cell ≡ None
keyed None cell table is h = cc
keyed (Some t) cell table is h = rw h refl

-- a key in range of a known table names a row that could stand
pub cell_named : (tables : List TableDef) (cell : CellId) (table : TableDef) → slice_get tables cell.table ≡ Some table → is_key cell.key ≡ true
    → cell_fault tables cell ≡ None
unfolding cell_fault
cell_named tables cell table is h = keyed (slice_get tables cell.table) cell table is h

key_in_range : (b : Bool) → (if b then None else Some OutOfRange) ≡ None → b ≡ true
key_in_range true h = refl
key_in_range false h = cc

named : (found : Option TableDef) (cell : CellId) → key_fault found cell ≡ None → (table : TableDef) × (found ≡ Some table) × (is_key cell.key ≡ true)
named None cell h = cc
named (Some t) cell h = (t, refl, key_in_range (is_key cell.key) h)

-- a cell that names a row that could stand has a known table and a key in range
pub cell_parts : (tables : List TableDef) (cell : CellId) → cell_fault tables cell ≡ None → (table : TableDef) × (slice_get tables cell.table ≡ Some table)
    × (is_key cell.key ≡ true)
unfolding cell_fault
cell_parts tables cell h = named (slice_get tables cell.table) cell h

module _ (tables : List TableDef) (cell : CellId) (row : Row) (fit : row_fault tables cell row ≡ None) where
  -- the row's texts have no more bytes than the most
  pub row_text : (i : ℕ) (text : List ℕ) → slice_get row.values i ≡ Some (Words text) → length text ≤ MOST_TEXT_BYTES
  row_text i text is = leb-true (length text) MOST_TEXT_BYTES (at_each is_short row.values i (Words text) (fits_table tables cell row fit).2.short is)

  -- the row's places are in range, and the ends of each of its parts differ
  pub row_part : (n : ℕ) (p q : Place) → slice_get (parts_of row.shape) n ≡ Some (p, q) → InRange p × InRange q × Differ p q
  row_part n p q is = let f = (fits_table tables cell row fit).2 in part_ends row.shape n p q f.coordinates f.parts is

  -- the row has fewer parts than a path may have vertices
  pub row_parts : length (parts_of row.shape) < MOST_VERTICES
  row_parts = few_parts row.shape (fits_table tables cell row fit).2.vertices

  -- the row has its table's form, and a value of its kind for each column
  pub row_fits : (table : TableDef) → slice_get tables cell.table ≡ Some table → Fits table cell row
  row_fits table is =
      let t = fits_table tables cell row fit in
      let same : t.0 ≡ table = cc in
      subst (λ u. Fits u cell row) same t.2
