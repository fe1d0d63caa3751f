-- What is written of an office text nests little, and has no floats.
use Rattle.std.proofs.Common.{◌≡◌, ℕ, ℤ, pos, negsuc, ◌≤◌, false, List, [], ◌∷◌, map, Option, Some, None, refl, arith}
use Rattle.std.specs.List.{enumerate_from}
use Rattle.serde_json.specs.Data.{Data, string, depth, items_depth}
use Rattle.serde_json.specs.View.{items_of}
use Rattle.serde_json.specs.Written.{has_float, items_have_float}
use Rattle.clr_rows.specs.declared.rows.Row.{Row}
use Rattle.clr_rows.specs.declared.rows.Value.{Value}
use Rattle.clr_rows.specs.declared.rows.Value.TheVariants.{Int, Words}
use Rattle.clr_rows.specs.declared.tables.TableDef.{TableDef}
use Rattle.clr_rows.specs.Parts.{vertices_of}
use Rattle.clr_rules.specs.declared.needs.Broken.{Broken}
use Rattle.clr_deltas.specs.Deltas.{Delta}
use Rattle.clr_office_reading.specs.declared.named_cells.NamedCell.{NamedCell}
use Rattle.clr_office_reading.specs.declared.named_marks.NamedMark.{NamedMark}
use Rattle.clr_office_reading.specs.declared.named_marks.NamedMark.TheVariants as named
use Rattle.clr_rule_text.specs.declared.named_rules.NamedRule.{NamedRule}
use Rattle.clr_rule_text.specs.declared.named_rules.NamedRule.TheVariants.{Unique, Partner, EndNode, Crossing, Near}
use Rattle.clr_rule_text.specs.declared.named_sides.NamedSide.{NamedSide}
use Rattle.clr_office_reading.specs.Offices.{OfficeText}
use Rattle.clr_office_writing.specs.CellData.{coordinates_of, named_cell_data, cells_with_names, named_row_data, named_rows, row_data, row_or_gone_data}
use Rattle.clr_office_writing.specs.KnownData.{known_of_rule, need_data, need_numbers}
use Rattle.clr_office_writing.specs.Laws.{IsPlain}
use Rattle.clr_office_writing.specs.OfficeData.{format_number, office_data}
use Rattle.clr_office_writing.specs.RuleData.{literal_data, named_rule, named_rule_data, rule_data, side_data}
use Rattle.clr_office_writing.specs.TableData.{column_data, table_data}
use Rattle.clr_office_writing.specs.Values.{number_data, value_data}
use Rattle.clr_office_writing.specs.WorkspaceData.{delta_data, named_mark, named_mark_data}

-- depth --------------------------------------------------------------------------------------

list_depth : {A : Type 0} (g : A → Data) (n : ℕ) → ((x : A) → depth (g x) ≤ n) → (xs : List A) → items_depth (items_of (map g xs)) ≤ n
list_depth g n one [] = omega arith
list_depth g n one (x ∷ xs) = omega (arith, one x, list_depth g n one xs)

value_depth : (v : Value) → depth (value_data v) ≤ 0
value_depth (Int n) = omega arith
value_depth (Words text) = omega arith

table_depth : (t : TableDef) → depth (table_data t) ≤ 3
table_depth t = omega (arith, list_depth column_data 1 (λ c. omega arith) t.columns)

side_depth : (s : NamedSide) → depth (side_data s) ≤ 3
side_depth s = omega (arith, list_depth literal_data 1 (λ l. omega (arith, value_depth l.1)) s.filter)

names_depth : (names : List (List ℕ)) → items_depth (items_of (map string names)) ≤ 0
names_depth names = list_depth string 0 (λ name. omega arith) names

need_depth : (b : Broken) → depth (need_data b) ≤ 1
need_depth b = omega (arith, list_depth number_data 0 (λ z. omega arith) (need_numbers b))

needs_depth : (needs : List Broken) → items_depth (items_of (map need_data needs)) ≤ 1
needs_depth needs = list_depth need_data 1 need_depth needs

rule_depth : (known : Option (List Broken)) (r : NamedRule) → depth (named_rule_data known r) ≤ 4
rule_depth None (Unique subject columns) = omega (arith, side_depth subject, names_depth columns)
rule_depth (Some needs) (Unique subject columns) = omega (arith, side_depth subject, names_depth columns, needs_depth needs)
rule_depth None (Partner subject columns server server_columns) =
    omega (arith, side_depth subject, side_depth server, names_depth columns, names_depth server_columns)
rule_depth (Some needs) (Partner subject columns server server_columns) =
    omega (arith, side_depth subject, side_depth server, names_depth columns, names_depth server_columns, needs_depth needs)
rule_depth None (EndNode subject tip server) = omega (arith, side_depth subject, side_depth server)
rule_depth (Some needs) (EndNode subject tip server) = omega (arith, side_depth subject, side_depth server, needs_depth needs)
rule_depth None (Crossing a b server) = omega (arith, side_depth a, side_depth b, side_depth server)
rule_depth (Some needs) (Crossing a b server) = omega (arith, side_depth a, side_depth b, side_depth server, needs_depth needs)
rule_depth None (Near a b d) = omega (arith, side_depth a, side_depth b)
rule_depth (Some needs) (Near a b d) = omega (arith, side_depth a, side_depth b, needs_depth needs)

row_depth : (table : List ℕ) (key : ℤ) (row : Row) → depth (row_data table key row) ≤ 2
row_depth table key row = omega (
  arith,
  list_depth number_data 0 (λ z. omega arith) (coordinates_of (vertices_of row.shape)),
  list_depth value_data 0
      value_depth row.values,
)

row_or_gone_depth : (table : List ℕ) (key : ℤ) (row : Option Row) → depth (row_or_gone_data table key row) ≤ 2
row_or_gone_depth table key None = omega arith
row_or_gone_depth table key (Some row) = row_depth table key row

cells_depth : (cells : List NamedCell) → items_depth (items_of (map named_cell_data cells)) ≤ 2
cells_depth cells = list_depth named_cell_data 2 (λ c. row_or_gone_depth c.table c.key c.row) cells

mark_depth : (m : NamedMark) → depth (named_mark_data m) ≤ 4
mark_depth (named.Child name) = omega arith
mark_depth (named.Saved name cells) = omega (arith, cells_depth cells)

delta_depth : (tables : List TableDef) (l : Delta) → depth (delta_data tables l) ≤ 6
delta_depth tables l =
    omega (
      arith,
      cells_depth (cells_with_names tables l.base),
      cells_depth (cells_with_names tables l.current),
      list_depth named_mark_data 4 mark_depth
          (map (named_mark tables) l.marks),
    )

office_depth : (o : OfficeText) → depth (office_data o) ≤ 127
unfolding office_data
office_depth o =
    omega (
      arith,
      list_depth table_data 3 table_depth o.schema,
      list_depth (rule_data o.schema o.known) 4 (λ r. rule_depth (known_of_rule o.known r.0) (named_rule o.schema r.1)) (enumerate_from 0 o.book),
      list_depth named_row_data 2 (λ n. row_depth n.table n.key n.row) (named_rows o.schema o.live),
      list_depth (delta_data o.schema) 6 (delta_depth o.schema) o.deltas,
    )

-- floats -------------------------------------------------------------------------------------

list_plain : {A : Type 0} (g : A → Data) → ((x : A) → has_float (g x) ≡ false) → (xs : List A) → items_have_float (items_of (map g xs)) ≡ false
list_plain g one [] = refl
list_plain g one (x ∷ xs) = rw (one x) (list_plain g one xs)

number_plain : (z : ℤ) → has_float (number_data z) ≡ false
number_plain (pos n) = refl
number_plain (negsuc n) = refl

value_plain : (v : Value) → has_float (value_data v) ≡ false
value_plain (Int n) = number_plain n
value_plain (Words text) = refl

table_plain : (t : TableDef) → has_float (table_data t) ≡ false
table_plain t = rw (list_plain column_data (λ c. refl) t.columns) refl

side_plain : (s : NamedSide) → has_float (side_data s) ≡ false
side_plain s = rw (list_plain literal_data (λ l. rw (value_plain l.1) refl) s.filter) refl

names_plain : (names : List (List ℕ)) → items_have_float (items_of (map string names)) ≡ false
names_plain names = list_plain string (λ name. refl) names

need_plain : (b : Broken) → has_float (need_data b) ≡ false
need_plain b = list_plain number_data number_plain (need_numbers b)

needs_plain : (needs : List Broken) → items_have_float (items_of (map need_data needs)) ≡ false
needs_plain needs = list_plain need_data need_plain needs

rule_plain : (known : Option (List Broken)) (r : NamedRule) → has_float (named_rule_data known r) ≡ false
rule_plain None (Unique subject columns) = rw (names_plain columns, side_plain subject) refl
rule_plain (Some needs) (Unique subject columns) = rw (names_plain columns, side_plain subject, needs_plain needs) refl
rule_plain None (Partner subject columns server server_columns) =
    rw (names_plain columns, names_plain server_columns, side_plain subject, side_plain server) refl
rule_plain (Some needs) (Partner subject columns server server_columns) =
    rw (names_plain columns, names_plain server_columns, side_plain subject, side_plain server, needs_plain needs) refl
rule_plain None (EndNode subject tip server) = rw (side_plain subject, side_plain server) refl
rule_plain (Some needs) (EndNode subject tip server) = rw (side_plain subject, side_plain server, needs_plain needs) refl
rule_plain None (Crossing a b server) = rw (side_plain a, side_plain b, side_plain server) refl
rule_plain (Some needs) (Crossing a b server) = rw (side_plain a, side_plain b, side_plain server, needs_plain needs) refl
rule_plain None (Near a b d) = rw (side_plain a, side_plain b, number_plain d) refl
rule_plain (Some needs) (Near a b d) = rw (side_plain a, side_plain b, number_plain d, needs_plain needs) refl

row_plain : (table : List ℕ) (key : ℤ) (row : Row) → has_float (row_data table key row) ≡ false
row_plain table key row = rw (
  number_plain key,
  list_plain number_data number_plain (coordinates_of (vertices_of row.shape)),
  list_plain value_data value_plain
      row.values,
) refl

row_or_gone_plain : (table : List ℕ) (key : ℤ) (row : Option Row) → has_float (row_or_gone_data table key row) ≡ false
row_or_gone_plain table key None = rw (number_plain key) refl
row_or_gone_plain table key (Some row) = row_plain table key row

cells_plain : (cells : List NamedCell) → items_have_float (items_of (map named_cell_data cells)) ≡ false
cells_plain cells = list_plain named_cell_data (λ c. row_or_gone_plain c.table c.key c.row) cells

mark_plain : (m : NamedMark) → has_float (named_mark_data m) ≡ false
mark_plain (named.Child name) = refl
mark_plain (named.Saved name cells) = rw (cells_plain cells) refl

delta_plain : (tables : List TableDef) (l : Delta) → has_float (delta_data tables l) ≡ false
delta_plain tables l =
    rw (
      cells_plain (cells_with_names tables l.base),
      cells_plain (cells_with_names tables l.current),
      list_plain named_mark_data mark_plain
          (map (named_mark tables) l.marks),
    ) refl

office_plain : (o : OfficeText) → has_float (office_data o) ≡ false
unfolding office_data
office_plain o =
    rw (
      number_plain (format_number o.known),
      list_plain table_data table_plain o.schema,
      list_plain (rule_data o.schema o.known) (λ r. rule_plain (known_of_rule o.known r.0) (named_rule o.schema r.1)) (enumerate_from 0 o.book),
      list_plain named_row_data (λ n. row_plain n.table n.key n.row) (named_rows o.schema o.live),
      list_plain (delta_data o.schema) (delta_plain o.schema) o.deltas,
    ) refl

pub plain : IsPlain
plain o = (office_depth o, office_plain o)
