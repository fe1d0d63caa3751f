-- What is read fits the schema.
use Rattle.std.proofs.Common.{◌≡◌, ℕ, codes, List, [], ◌∷◌, ◌++◌, map, Option, Some, None, Result, Ok, Err, refl, ap, subst}
use Rattle.std.specs.FinMap as finite
use Rattle.std.specs.List.{AllByRecursion}
use Rattle.serde_json.specs.Data.{Data, Items, no_items, item}
use Rattle.serde_json.specs.Find.{get}
use Rattle.clr_rows.specs.declared.tables.TableDef.{TableDef}
use Rattle.clr_rows.specs.Contents.{Content, no_rows, row_at, set_cell}
use Rattle.clr_rows.specs.Schemas.{FitsSchema, row_fault, schema_fault}
use Rattle.clr_rows.proofs.FitLemmas.{none_fit, none_keeps, put_keeps}
use Rattle.clr_rules.specs.declared.needs.Broken.{Broken}
use Rattle.clr_rules.specs.declared.rules.Rule.{Rule}
use Rattle.clr_rules.specs.Books.{book_fault}
use Rattle.clr_deltas.specs.Differences.{Differences}
use Rattle.clr_deltas.specs.Deltas.{Delta}
use Rattle.clr_deltas.specs.declared.stored_marks.StoredMark.{StoredMark}
use Rattle.clr_deltas.specs.declared.stored_marks.StoredMark.TheVariants as stored
use Rattle.clr_office_reading.specs.declared.cells.NamedRow.{NamedRow}
use Rattle.clr_rule_text.specs.declared.faults.TextFault.{TextFault}
use Rattle.clr_rule_text.specs.declared.formats.Format.{Format}
use Rattle.clr_office_reading.specs.declared.named_cells.NamedCell.{NamedCell}
use Rattle.clr_office_reading.specs.declared.named_marks.NamedMark.{NamedMark}
use Rattle.clr_office_reading.specs.declared.named_marks.NamedMark.TheVariants as named
use Rattle.clr_office_reading.specs.Cells.{cell_of, live_of, live_rows_of, with_named_row, with_named_rows}
use Rattle.clr_readings.specs.Readings.{◌>>=◌}
use Rattle.clr_rule_text.specs.Fields.{each_in, list_or_none, none_or_fault}
use Rattle.clr_rule_text.specs.Known.{known_needs}
use Rattle.clr_office_reading.specs.Fits.{FitsDifferences, FitsDelta, FitsMark, FitsOffice}
use Rattle.clr_office_reading.specs.Offices.{OfficeText, format_of, office_of, schema_of}
use Rattle.clr_office_reading.specs.Patches.{differences_at, differences_of, named_cells_at, put_fault, with_cell, with_named_cells}
use Rattle.clr_rule_text.specs.Rules.{rule_over, rules_of, stated_rules_of}
use Rattle.clr_office_reading.specs.Tables.{tables_of}
use Rattle.clr_office_reading.specs.Workspaces.{head_of, delta_of, deltas_after, deltas_of, mark_over, marks_of, named_marks_of, under_one_of}

then_ok : {A B : Type 0} (one : Result A TextFault) (next : A → Result B TextFault) (y : B) → one >>= next ≡ Ok y → (x : A) × (one ≡ Ok x) × (next x ≡ Ok y)
then_ok (Ok x) next y e = (x, refl, e)
then_ok (Err fault) next y e = absurd cc

none_where_ok : {A : Type 0} (fault : TextFault) (o : Option A) (u : Unit {0}) → none_or_fault fault o ≡ Ok u → o ≡ None
none_where_ok fault None u e = refl
none_where_ok fault (Some x) u e = absurd cc

-- LIVE ---------------------------------------------------------------------------------------

row_fits : (tables : List TableDef) (content more : Content) (named : NamedRow) → with_named_row tables content named ≡ Ok more → FitsSchema tables content
    → FitsSchema tables more
unfolding with_named_row
row_fits tables content more named e all =
    let at = then_ok (cell_of tables named.table named.key) _ _ e in
    let fits = then_ok (none_or_fault _ (row_fault tables at.0 named.row)) _ _ at.2 in
    let free = then_ok (none_or_fault _ (row_at content at.0)) _ _ fits.2 in
    let made : set_cell content at.0 (Some named.row) ≡ more = (let f = free.2 in cc) in
    subst (λ m. FitsSchema tables m) made (put_keeps (λ c r. row_fault tables c r ≡ None) content at.0 named.row all (none_where_ok _ _ _ fits.1))

pub rows_fit : (tables : List TableDef) (content whole : Content) (rows : List NamedRow) → with_named_rows tables content rows ≡ Ok whole
    → FitsSchema tables content
    → FitsSchema tables whole
unfolding with_named_rows
rows_fit tables content whole [] e all = subst (λ m. FitsSchema tables m) (let same : content ≡ whole = cc in same) all
rows_fit tables content whole (named ∷ others) e all =
    let more = then_ok (with_named_row tables content named) _ _ e in
    rows_fit tables more.0 whole others more.2 (row_fits tables content more.0 named more.1 all)

live_fits : (tables : List TableDef) (d : Data) (live : Content) → live_of tables d ≡ Ok live → FitsSchema tables live
unfolding live_of
live_fits tables d live e =
    let rows = then_ok (live_rows_of tables d) _ _ e in
    rows_fit tables no_rows live rows.0 rows.2 (none_fit tables)

-- differences --------------------------------------------------------------------------------

cell_fits : (tables : List TableDef) (d more : Differences) (named : NamedCell) → with_cell tables d named ≡ Ok more → FitsDifferences tables d
    → FitsDifferences tables more
unfolding with_cell
cell_fits tables d more named e all =
    let at = then_ok (cell_of tables named.table named.key) _ _ e in
    let fits = then_ok (none_or_fault _ (put_fault tables at.0 named.row)) _ _ at.2 in
    let free = then_ok (none_or_fault _ (finite.get d at.0)) _ _ fits.2 in
    let made : finite.insert d at.0 named.row ≡ more = (let f = free.2 in cc) in
    subst (λ m. FitsDifferences tables m) made (put_keeps (λ c r. put_fault tables c r ≡ None) d at.0 named.row all (none_where_ok _ _ _ fits.1))

cells_fit : (tables : List TableDef) (d whole : Differences) (cells : List NamedCell) → with_named_cells tables d cells ≡ Ok whole → FitsDifferences tables d
    → FitsDifferences tables whole
unfolding with_named_cells
cells_fit tables d whole [] e all = subst (λ m. FitsDifferences tables m) (let same : d ≡ whole = cc in same) all
cells_fit tables d whole (named ∷ others) e all =
    let more = then_ok (with_cell tables d named) _ _ e in
    cells_fit tables more.0 whole others more.2 (cell_fits tables d more.0 named more.1 all)

differences_fit : (tables : List TableDef) (cells : List NamedCell) (d : Differences) → differences_of tables cells ≡ Ok d → FitsDifferences tables d
differences_fit tables cells d e = cells_fit tables _ d cells e (none_keeps (λ c r. put_fault tables c r ≡ None))

differences_fit_at : (key : List ℕ) (tables : List TableDef) (d : Data) (read : Differences) → differences_at key tables d ≡ Ok read
    → FitsDifferences tables read
unfolding differences_at
differences_fit_at key tables d read e =
    let cells = then_ok (named_cells_at key tables d) _ _ e in
    differences_fit tables cells.0 read cells.2

-- workspaces ---------------------------------------------------------------------------------

mark_fits : (tables : List TableDef) (mark : NamedMark) (read : StoredMark) → mark_over tables mark ≡ Ok read → FitsMark tables read
mark_fits tables (named.Child name) read e = subst (λ m. FitsMark tables m) (let same : stored.Child name ≡ read = cc in same) tt
mark_fits tables (named.Saved name cells) read e =
    let d = then_ok (differences_of tables cells) _ _ e in
    subst (λ m. FitsMark tables m) (let f = d.2 in let same : stored.Saved name d.0 ≡ read = cc in same) (differences_fit tables cells d.0 d.1)

each_fits : {X A : Type 0} (P : A → Type 0) (f : X → Result A TextFault) → ((x : X) (y : A) → f x ≡ Ok y → P y) → (xs : List X) (ys : List A) → each_in f xs
    ≡ Ok ys → AllByRecursion P ys
unfolding each_in
each_fits P f one [] ys e = subst (λ zs. AllByRecursion P zs) (let same : [] ≡ ys = cc in same) tt
each_fits P f one (x ∷ xs) ys e =
    let first = then_ok (f x) _ _ e in
    let others = then_ok (each_in f xs) _ _ first.2 in
    subst (λ zs. AllByRecursion P zs) (let g = others.2 in let same : first.0 ∷ others.0 ≡ ys = cc in same)
    (one x first.0 first.1, each_fits P f one xs others.0 others.1)

marks_fit : (tables : List TableDef) (d : Data) (marks : List StoredMark) → marks_of tables d ≡ Ok marks → AllByRecursion (FitsMark tables) marks
unfolding marks_of
marks_fit tables d marks e =
    let named = then_ok (named_marks_of tables d) _ _ e in
    each_fits (FitsMark tables) (mark_over tables) (mark_fits tables) named.0 marks named.2

delta_fits : (format : Format) (tables : List TableDef) (earlier : List Delta) (d : Data) (l : Delta) → delta_of format tables earlier d ≡ Ok l
    → FitsDelta tables l
unfolding delta_of
delta_fits format tables earlier d l e =
    let read = then_ok (head_of format d) _ _ e in
    let head = then_ok (under_one_of earlier read.0) _ _ read.2 in
    let base = then_ok (differences_at _ tables d) _ _ head.2 in
    let rows = then_ok (differences_at _ tables d) _ _ base.2 in
    let marks = then_ok (marks_of tables d) _ _ rows.2 in
    let made : Delta = record { name = head.0.name; parent = head.0.parent; base = base.0; current = rows.0; marks = marks.0; kept = head.0.kept } in
    subst (λ m. FitsDelta tables m) (let f = marks.2 in let same : made ≡ l = cc in same)
    (record {
      base = differences_fit_at _ tables d base.0 base.1;
      current = differences_fit_at _ tables d rows.0 rows.1;
      marks = marks_fit tables d marks.0
          marks.1;
    })

one_more_fits : {A : Type 0} (P : A → Type 0) (xs : List A) (x : A) → AllByRecursion P xs → P x → AllByRecursion P (xs ++ x ∷ [])
one_more_fits P [] x all one = (one, tt)
one_more_fits P (y ∷ ys) x all one = (all.0, one_more_fits P ys x all.1 one)

deltas_fit : (format : Format) (tables : List TableDef) (earlier : List Delta) (items : Items) (deltas : List Delta) → deltas_after format tables earlier items
    ≡ Ok deltas
    → AllByRecursion (FitsDelta tables) earlier → AllByRecursion (FitsDelta tables) deltas
unfolding deltas_after
deltas_fit format tables earlier no_items deltas e all = subst (λ m. AllByRecursion (FitsDelta tables) m) (let same : earlier ≡ deltas = cc in same) all
deltas_fit format tables earlier (item d ds) deltas e all =
    let next = then_ok (delta_of format tables earlier d) _ _ e in
    deltas_fit format tables (earlier ++ next.0 ∷ []) ds deltas next.2 (one_more_fits (FitsDelta tables) earlier next.0 all
    (delta_fits format tables earlier d next.0 next.1))

all_deltas_fit : (format : Format) (tables : List TableDef) (d : Data) (deltas : List Delta) → deltas_of format tables d ≡ Ok deltas
    → AllByRecursion (FitsDelta tables) deltas
unfolding deltas_of
all_deltas_fit format tables d deltas e =
    let items = then_ok (list_or_none (get (codes "workspaces") d)) (deltas_after format tables []) deltas e in
    deltas_fit format tables [] items.0 deltas items.2 tt

-- offices ------------------------------------------------------------------------------------

schema_fits : (format : Format) (d : Data) (tables : List TableDef) → schema_of format d ≡ Ok tables → schema_fault tables ≡ None
unfolding schema_of
schema_fits format d tables e =
    let read = then_ok (tables_of format d) _ _ e in
    let good = then_ok (none_or_fault _ (schema_fault read.0)) _ _ read.2 in
    subst (λ ts. schema_fault ts ≡ None) (let f = good.2 in let same : read.0 ≡ tables = cc in same) (none_where_ok _ _ _ good.1)

rules_fit : (format : Format) (tables : List TableDef) (d : Data) (rules : List Rule × List Broken) → rules_of format tables d ≡ Ok rules
    → book_fault tables rules.0 ≡ None
unfolding rules_of
rules_fit format tables d rules e =
    let stated = then_ok (stated_rules_of format d) _ _ e in
    let read = then_ok (each_in (rule_over tables) (map (λ s. s.rule) stated.0)) _ _ stated.2 in
    let good = then_ok (none_or_fault _ (book_fault tables read.0)) _ _ read.2 in
    let known = then_ok (known_needs tables 0 read.0 (map (λ s. s.known) stated.0)) _ _ good.2 in
    subst (λ rs. book_fault tables rs ≡ None)
    (let f = known.2 in let same : (read.0, known.0) ≡ rules = cc in ap (λ (r : List Rule × List Broken). r.0) same) (none_where_ok _ _ _ good.1)

pub office_fits : (d : Data) (o : OfficeText) → office_of d ≡ Ok o → FitsOffice o
unfolding office_of
office_fits d o e =
    let format = then_ok (format_of d) _ _ e in
    let tables = then_ok (schema_of format.0 d) _ _ format.2 in
    let rules = then_ok (rules_of format.0 tables.0 d) _ _ tables.2 in
    let live = then_ok (live_of tables.0 d) _ _ rules.2 in
    let deltas = then_ok (deltas_of format.0 tables.0 d) _ _ live.2 in
    let made : OfficeText = record { schema = tables.0; book = rules.0.0; known = rules.0.1; live = live.0; deltas = deltas.0 } in
    subst (λ m. FitsOffice m) (let f = deltas.2 in let same : made ≡ o = cc in same)
    (record {
      schema = schema_fits format.0 d tables.0 tables.1;
      book = rules_fit format.0 tables.0 d rules.0 rules.1;
      live = live_fits tables.0 d live.0 live.1;
      deltas = all_deltas_fit format.0 tables.0 d deltas.0 deltas.1;
    })
