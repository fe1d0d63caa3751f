-- What is written of an office text is read from its tokens as the same value.
use Rattle.std.proofs.Common.{◌≡◌, ℕ, suc, ◌+◌, ◌^◌, ◌≤◌, ℤ, pos, negsuc, Bool, true, List, [], ◌∷◌, map, Option, Some, None, refl, sym, ap, ap₂, ◌∙◌, arith}
use Rattle.std.proofs.Common.{append-nil}
use Rattle.std.specs.Prelude.{◌==◌, filter, max, option_map, option_and_then}
use Rattle.std.specs.List.{AllByRecursion, enumerate_from, list_all}
use Rattle.std.proofs.lemmas.Bool.{and_parts, ltb-true}
use Rattle.json.specs.Json as json
use Rattle.json.specs.Lex.{tokens}
use Rattle.json.specs.Token.{Token}
use Rattle.json.specs.Tree as tree
use Rattle.json.proofs.Printed.Trees.{value-json_tokens}
use Rattle.serde_json.specs.Data.{Data, null, boolean, number, string, array, object, Items, no_items, item, Members, no_members, member, depth, items_depth}
use Rattle.serde_json.specs.Data.{members_depth}
use Rattle.serde_json.specs.Read.{read, max_depth, of_json, of_items}
use Rattle.serde_json.specs.View.{items_of}
use Rattle.serde_json.specs.Written.{outline, items_outline, members_outline}
use Rattle.serde_json.proofs.Numbers.{number_of-decimal, number_of-negative}
use Rattle.clr_rows.specs.declared.places.Place.{Place}
use Rattle.clr_rows.specs.declared.rows.Row.{Row}
use Rattle.clr_rows.specs.declared.rows.Value.{Value}
use Rattle.clr_rows.specs.declared.rows.Value.TheVariants.{Int, Words}
use Rattle.clr_rows.specs.declared.tables.TableDef.{TableDef}
use Rattle.clr_rows.specs.Contents.{Content}
use Rattle.clr_rows.specs.Numbers.{is_i64}
use Rattle.clr_rows.specs.Parts.{vertices_of}
use Rattle.clr_rows.specs.Ranges.{is_place_within}
use Rattle.clr_rows.specs.Schemas.{FitsSchema, is_number, schema_fault}
use Rattle.clr_rules.specs.declared.needs.Broken.{Broken}
use Rattle.clr_rules.specs.declared.rules.Rule.{Rule}
use Rattle.clr_rules.proofs.Elements.{all_by, among_kept, each_of}
use Rattle.clr_deltas.specs.Differences.{Differences}
use Rattle.clr_deltas.specs.Deltas.{Delta}
use Rattle.clr_deltas.specs.declared.stored_marks.StoredMark.{StoredMark}
use Rattle.clr_deltas.specs.declared.stored_marks.StoredMark.TheVariants as stored
use Rattle.clr_rule_text.specs.declared.named_rules.NamedRule.{NamedRule}
use Rattle.clr_rule_text.specs.declared.named_rules.NamedRule.TheVariants.{Unique, Partner, EndNode, Crossing, Near}
use Rattle.clr_rule_text.specs.declared.named_sides.NamedSide.{NamedSide}
use Rattle.clr_office_reading.specs.Cells.{has_paths}
use Rattle.clr_office_reading.specs.Fits.{FitsDifferences, FitsDelta, FitsMark, FitsOffice}
use Rattle.clr_office_reading.specs.Offices.{OfficeText}
use Rattle.clr_office_writing.specs.CellData.{coordinates_of, named_cell_data, cells_with_names, named_row_data, named_rows, row_data, row_or_gone_data}
use Rattle.clr_office_writing.specs.KnownData.{known_of_rule, need_data, need_numbers}
use Rattle.clr_office_writing.specs.KnownFits.{FitsKnown, FitsRule}
use Rattle.clr_office_writing.specs.OfficeData.{format_number, office_data}
use Rattle.clr_office_writing.specs.RuleData.{literal_data, named_rule, named_rule_data, rule_data, side_data}
use Rattle.clr_office_writing.specs.TableData.{column_data, table_data}
use Rattle.clr_office_writing.specs.Tokens.{tokens_of}
use Rattle.clr_office_writing.specs.Values.{number_data, value_data}
use Rattle.clr_office_writing.specs.WorkspaceData.{delta_data, named_mark, named_mark_data}
use Rattle.clr_office_writing.proofs.ListsRead.{all_mapped, all_pass}
use Rattle.clr_office_writing.proofs.CellsRead.{IsReadable, IsReadableOrGone, cells_readable, rows_readable}
use Rattle.clr_office_writing.proofs.KnownRead.{numbers_within}
use Rattle.clr_office_writing.proofs.RulesRead.{IsRuleWithin, IsSideWithin, rules_within}
use Rattle.clr_office_writing.proofs.Plainness.{plain}

-- a value that is read from its tokens
abbrev IsReread : Data → Type 0
IsReread d = of_json (outline d) ≡ Some d

-- parts --------------------------------------------------------------------------------------

-- what holds of each element is asked for its reading
list_reread : {A : Type 0} (P : A → Type 0) (g : A → Data) → ((x : A) → P x → IsReread (g x)) → (xs : List A) → AllByRecursion P xs
    → of_items (items_outline (items_of (map g xs))) ≡ Some (items_of (map g xs))
list_reread P g one [] all = refl
list_reread P g one (x ∷ xs) all = rw (one x all.0, list_reread P g one xs all.1) refl

any_reread : {A : Type 0} (g : A → Data) → ((x : A) → IsReread (g x)) → (xs : List A) → of_items (items_outline (items_of (map g xs)))
    ≡ Some (items_of (map g xs))
any_reread g one [] = refl
any_reread g one (x ∷ xs) = rw (one x, any_reread g one xs) refl

number_reread : (z : ℤ) → is_i64 z ≡ true → IsReread (number_data z)
number_reread (pos n) e = let h = ltb-true n (2 ^ 63) e in ap (option_map number) (number_of-decimal n (omega arith))
number_reread (negsuc n) e = ap (option_map number) (number_of-negative n (ltb-true n (2 ^ 63) e))

value_reread : (v : Value) → is_number v ≡ true → IsReread (value_data v)
value_reread (Int n) e = number_reread n e
value_reread (Words text) e = refl

-- tables and rules ---------------------------------------------------------------------------

table_reread : (t : TableDef) → IsReread (table_data t)
table_reread t = rw (any_reread column_data (λ c. refl) t.columns) refl

literal_reread : (l : List ℕ × Value) → is_number l.1 ≡ true → IsReread (literal_data l)
literal_reread l h = rw (value_reread l.1 h) refl

side_reread : (s : NamedSide) → IsSideWithin s → IsReread (side_data s)
side_reread s h = rw (list_reread (λ l. is_number l.1 ≡ true) literal_data literal_reread s.filter h) refl

names_reread : (names : List (List ℕ)) → of_items (items_outline (items_of (map string names))) ≡ Some (items_of (map string names))
names_reread names = any_reread string (λ name. refl) names

-- known needs, where a rule has some
abbrev AreReread : Option (List Broken) → Type 0
AreReread None = Unit {0}
AreReread (Some needs) = of_items (items_outline (items_of (map need_data needs))) ≡ Some (items_of (map need_data needs))

rule_reread : (known : Option (List Broken)) → AreReread known → (r : NamedRule) → IsRuleWithin r → IsReread (named_rule_data known r)
rule_reread None again (Unique subject columns) h = rw (names_reread columns, side_reread subject h) refl
rule_reread (Some needs) again (Unique subject columns) h = rw (names_reread columns, again, side_reread subject h) refl
rule_reread None again (Partner subject columns server server_columns) h =
    rw (names_reread columns, side_reread server h.1, names_reread server_columns, side_reread subject h.0) refl
rule_reread (Some needs) again (Partner subject columns server server_columns) h =
    rw (names_reread columns, again, side_reread server h.1, names_reread server_columns, side_reread subject h.0) refl
rule_reread None again (EndNode subject t server) h = rw (side_reread server h.1, side_reread subject h.0) refl
rule_reread (Some needs) again (EndNode subject t server) h = rw (again, side_reread server h.1, side_reread subject h.0) refl
rule_reread None again (Crossing a b server) h = rw (side_reread a h.0, side_reread b h.1.0, side_reread server h.1.1) refl
rule_reread (Some needs) again (Crossing a b server) h = rw (side_reread a h.0, side_reread b h.1.0, again, side_reread server h.1.1) refl
rule_reread None again (Near a b d) h = rw (side_reread a h.0, side_reread b h.1.0, number_reread d h.1.1) refl
rule_reread (Some needs) again (Near a b d) h = rw (side_reread a h.0, side_reread b h.1.0, number_reread d h.1.1, again) refl

module _ (tables : List TableDef) (book : List Rule) (known : List Broken) (names : FitsKnown tables book known) where
  need_reread : (b : Broken) → FitsRule tables book b → IsReread (need_data b)
  need_reread b fits =
      rw (list_reread (λ z. is_i64 z ≡ true) number_data number_reread (need_numbers b)
      (numbers_within tables fits.of_rule b fits.first fits.kind fits.parts)) refl

  needs_reread : (n : ℕ) → AreReread (known_of_rule known n)
  needs_reread n = by known names.each
    where
      by : (bs : List Broken) → AllByRecursion (FitsRule tables book) bs → AreReread (known_of_rule bs n)
      by [] fits = tt
      by (b ∷ bs) fits =
          let here = filter (λ c. c.rule == n) (b ∷ bs) in
          list_reread (FitsRule tables book) need_data need_reread here (all_by (FitsRule tables book) here (λ c listed.
          each_of (FitsRule tables book) c (b ∷ bs) fits (among_kept (λ c. c.rule == n) c (b ∷ bs) listed).0))

  rules_reread : (n : ℕ) (rules : List Rule) → AllByRecursion IsRuleWithin (map (named_rule tables) rules)
      → of_items (items_outline (items_of (map (rule_data tables known) (enumerate_from n rules)))) ≡ Some (items_of (map (rule_data tables known)
      (enumerate_from n rules)))
  rules_reread n [] within = refl
  rules_reread n (r ∷ rules) within =
      rw (rule_reread (known_of_rule known n) (needs_reread n) (named_rule tables r) within.0, rules_reread (n + 1) rules within.1) refl

-- rows ---------------------------------------------------------------------------------------

coordinates_reread : (ps : List Place) → list_all is_place_within ps ≡ true → of_items (items_outline (items_of (map number_data (coordinates_of ps))))
    ≡ Some (items_of (map number_data (coordinates_of ps)))
coordinates_reread [] h = refl
coordinates_reread (p ∷ ps) h =
    let a = and_parts (is_place_within p) (list_all is_place_within ps) h in
    let b = and_parts (is_i64 p.x) (is_i64 p.y) a.0 in
    rw (number_reread p.x b.0, number_reread p.y b.1, coordinates_reread ps a.1) refl

row_reread : (is_path : Bool) (table : List ℕ) (key : ℤ) (row : Row) → IsReadable is_path key row → IsReread (row_data table key row)
row_reread is_path table key row h =
    rw (
      number_reread key h.named,
      coordinates_reread (vertices_of row.shape) h.places,
      list_reread (λ v. is_number v ≡ true) value_data value_reread row.values (all_pass is_number row.values h.values),
    ) refl

row_or_gone_reread : (is_path : Bool) (table : List ℕ) (key : ℤ) (row : Option Row) → IsReadableOrGone is_path key row
    → IsReread (row_or_gone_data table key row)
row_or_gone_reread is_path table key None h = rw (number_reread key h) refl
row_or_gone_reread is_path table key (Some row) h = row_reread is_path table key row h

module _ (tables : List TableDef) (schema : schema_fault tables ≡ None) where
  rows_reread : (content : Content) → FitsSchema tables content → of_items (items_outline (items_of (map named_row_data (named_rows tables content))))
      ≡ Some (items_of (map named_row_data (named_rows tables content)))
  rows_reread content fits =
      list_reread (λ n. IsReadable (has_paths tables n.table) n.key n.row) named_row_data (λ n h. row_reread (has_paths tables n.table) n.table n.key n.row h)
      (named_rows tables content)
      (rows_readable tables schema content fits)

  cells_reread : (d : Differences) → FitsDifferences tables d → of_items (items_outline (items_of (map named_cell_data (cells_with_names tables d))))
      ≡ Some (items_of (map named_cell_data (cells_with_names tables d)))
  cells_reread d fits =
      list_reread (λ n. IsReadableOrGone (has_paths tables n.table) n.key n.row) named_cell_data (λ n h. row_or_gone_reread (has_paths tables n.table) n.table
      n.key n.row h) (cells_with_names tables d)
      (cells_readable tables schema d fits)

  -- workspaces -------------------------------------------------------------------------------

  mark_reread : (mark : StoredMark) → FitsMark tables mark → IsReread (named_mark_data (named_mark tables mark))
  mark_reread (stored.Saved name d) fits = rw (cells_reread d fits) refl
  mark_reread (stored.Child name) fits = refl

  delta_reread : (l : Delta) → FitsDelta tables l → IsReread (delta_data tables l)
  delta_reread l fits =
      rw (
        cells_reread l.base fits.base,
        list_reread (λ m. IsReread (named_mark_data m)) named_mark_data (λ m is. is) (map (named_mark tables) l.marks)
            (all_mapped (FitsMark tables) (λ m. IsReread (named_mark_data m)) (named_mark tables) mark_reread l.marks fits.marks),
        cells_reread l.current fits.current,
      ) refl

format_reread : (known : List Broken) → IsReread (number_data (format_number known))
format_reread [] = number_reread (pos 3) refl
format_reread (b ∷ bs) = number_reread (pos 4) refl

office_reread : (o : OfficeText) → FitsOffice o → FitsKnown o.schema o.book o.known → IsReread (office_data o)
unfolding office_data
office_reread o fits names =
    rw (
      format_reread o.known,
      rows_reread o.schema fits.schema o.live fits.live,
      rules_reread o.schema o.book o.known names 0 o.book (rules_within o.schema o.book fits.book),
      any_reread table_data table_reread o.schema,
      list_reread (FitsDelta o.schema) (delta_data o.schema) (delta_reread o.schema fits.schema) o.deltas fits.deltas,
    ) refl

-- the whole ----------------------------------------------------------------------------------

mutual
  depth-outline : (d : Data) → tree.depth (outline d) ≡ depth d
  depth-outline null = refl
  depth-outline (boolean b) = refl
  depth-outline (number n) = refl
  depth-outline (string s) = refl
  depth-outline (array ds) = ap suc (items_depth-outline ds)
  depth-outline (object ms) = ap suc (members_depth-outline ms)

  items_depth-outline : (ds : Items) → tree.items_depth (items_outline ds) ≡ items_depth ds
  items_depth-outline no_items = refl
  items_depth-outline (item d ds) = ap₂ max (depth-outline d) (items_depth-outline ds)

  members_depth-outline : (ms : Members) → tree.members_depth (members_outline ms) ≡ members_depth ms
  members_depth-outline no_members = refl
  members_depth-outline (member k d ms) = ap₂ max (depth-outline d) (members_depth-outline ms)

abbrev value_in : Option (json.Json × List Token) → Option Data
value_in found = option_and_then of_json (option_and_then (λ p. json.if_last p.0 p.1) found)

pub text_reread : (o : OfficeText) (bytes : List ℕ) → FitsOffice o → FitsKnown o.schema o.book o.known → tokens bytes ≡ tokens_of (office_data o) → read bytes ≡ Some (office_data o)
text_reread o bytes fits names is =
    let d = office_data o in
    let low : tree.depth (outline d) ≤ max_depth = omega (arith, depth-outline d, (plain o).0) in
    ap value_in (ap (json.value max_depth) (is ∙ sym (append-nil (tokens_of d))) ∙ value-json_tokens (outline d) max_depth [] low) ∙ office_reread o fits names
