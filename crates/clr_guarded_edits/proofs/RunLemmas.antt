-- What the statements of a transaction leave.
use Rattle.std.proofs.Common.{◌≡◌, Bool, true, false, cond, T, List, [], ◌∷◌, ◌++◌, ◌&&◌, map, Option, Some, None, unwrap_or}
use Rattle.std.proofs.Common.{refl, sym, ap, append_assoc, subst, ◌∙◌}
use Rattle.std.specs.FinMap as finite
use Rattle.std.specs.FinMap.Entries.{find, is_sorted}
use Rattle.std.specs.List.{flat_map, list_all}
use Rattle.std.specs.Option.{option_and_then, option_map}
use Rattle.std.proofs.lemmas.Bool.{true≢false}
use Rattle.std.proofs.lemmas.Option.{cond_some, none-some}
use Rattle.clr_rows.specs.declared.cells.CellId.{CellId}
use Rattle.clr_rows.specs.declared.cells.Change.{Change}
use Rattle.clr_rows.specs.declared.rows.Row.{Row}
use Rattle.clr_rows.specs.declared.tables.TableDef.{TableDef}
use Rattle.clr_rows.specs.Cells.{cell_cmp}
use Rattle.clr_rows.specs.Contents.{Changes, Content, change_of, changes, is_changed, over, row_at, set_cell, taken_over}
use Rattle.clr_rows.specs.Same.{same}
use Rattle.clr_rows.proofs.ChangeLemmas.{after_of, get-changes, row-set_cell, row-taken_over, taken_over-own}
use Rattle.clr_rows.proofs.SameLemmas.{same_is, same_itself}
use Rattle.clr_rows.proofs.Tests.{second}
use Rattle.clr_guarded_edits.specs.Laws.{NothingElseLaw, OverOldRowsLaw, RowsThatCameLaw, StaleRowLaw, TakenKeyLaw, WrittenLaw}
use Rattle.clr_guarded_edits.specs.Runs.{Passes, StandsAsItWas, after_statement, after_statements, committed}
use Rattle.clr_guarded_edits.specs.Statements.{Statement, Pass, Demand, Make}
use Rattle.clr_guarded_edits.specs.Statements.{free_cells_demanded, guarded_edits, if_free, passes_over, rows_after_demanded, rows_demanded, statements_between}
use Rattle.clr_guarded_edits.proofs.Cells.{all_contained, all_found, apart_from_first, contained_passes, found_first, found_later, found_passes}

regrouped : {A : Type 0} (a b c d e : List A) → (((a ++ b) ++ c) ++ d) ++ e ≡ a ++ (b ++ (c ++ (d ++ e)))
regrouped a b c d e = simp append_assoc

-- nothing follows a failure
through : (b : Bool) (f : Content → Option Content) (content : Content) → option_and_then f (cond b (Some content) None) ≡ cond b (f content) None
through true f content = refl
through false f content = refl

-- what was left was left by what goes on
cond_is : {A : Type 0} (b : Bool) (r : Option A) (x : A) → cond b r None ≡ Some x → (b ≡ true) × (r ≡ Some x)
cond_is true r x h = (refl, h)
cond_is false r x h = absurd (none-some x h)

-- whether no row is at a cell, where none was before
free_if : (before at : Option Row) → Bool
free_if None at = same at None
free_if (Some row) at = true

module _ (passes : Passes) where
  -- statements behind others go on with what those left
  in_turn : (content : Content) (xs ys : List Statement) → after_statements passes content (xs ++ ys)
      ≡ option_and_then (λ next. after_statements passes next ys) (after_statements passes content xs)
  unfolding after_statements
  in_turn content [] ys = refl
  in_turn content (x ∷ xs) ys = by (λ next. in_turn next xs ys) (after_statement passes content x)
    where
      by : ((next : Content) → after_statements passes next (xs ++ ys)
          ≡ option_and_then (λ after. after_statements passes after ys) (after_statements passes next xs))
          → (r : Option Content) → option_and_then (λ next. after_statements passes next (xs ++ ys)) r
          ≡ option_and_then (λ next. after_statements passes next ys) (option_and_then (λ next. after_statements passes next xs) r)
      by rest None = refl
      by rest (Some next) = rest next

  -- statements that leave the content as it is, or fail
  module _ {X : Type 0} (check : X → Statement) (holds : Content → X → Bool)
      (is : (content : Content) (x : X) → after_statement passes content (check x) ≡ cond (holds content x) (Some content) None) where
    checked : (content : Content) (xs : List X) → after_statements passes content (map check xs) ≡ cond (list_all (holds content) xs) (Some content) None
    unfolding after_statements
    checked content [] = refl
    checked content (x ∷ xs) = by (checked content xs) (holds content x) refl
      where
        by : after_statements passes content (map check xs) ≡ cond (list_all (holds content) xs) (Some content) None → (b : Bool) → holds content x ≡ b
            → option_and_then (λ next. after_statements passes next (map check xs)) (after_statement passes content (check x))
            ≡ cond (holds content x && list_all (holds content) xs) (Some content) None
        by rest true e = rw (is content x, e) rest
        by rest false e = rw (is content x, e) refl

  pass_is : (content : Content) (table : TableDef) → after_statement passes content (Pass table) ≡ cond (passes content table) (Some content) None
  unfolding after_statement
  pass_is content table = refl

  abbrev row_stands : Content → CellId × Row → Bool
  row_stands content e = same (row_at content e.0) (Some e.1)

  row_is : (content : Content) (e : CellId × Row) → after_statement passes content (Demand e.0 (Some e.1)) ≡ cond (row_stands content e) (Some content) None
  unfolding after_statement
  row_is content e = refl

  abbrev row_after_stands : Content → CellId × Change → Bool
  row_after_stands content e = same (row_at content e.0) e.1.after

  row_after_is : (content : Content) (e : CellId × Change) → after_statement passes content (Demand e.0 e.1.after)
      ≡ cond (row_after_stands content e) (Some content) None
  unfolding after_statement
  row_after_is content e = refl

  abbrev cell_is_free : Content → CellId × Change → Bool
  cell_is_free content e = free_if e.1.before (row_at content e.0)

  free_checked : (content : Content) (es : List (CellId × Change)) → after_statements passes content (flat_map (λ e. if_free e.0 e.1.before) es)
      ≡ cond (list_all (cell_is_free content) es) (Some content) None
  unfolding after_statements after_statement free_if
  free_checked content [] = refl
  free_checked content (e ∷ es) = by (free_checked content es) e.1.before
    where
      rest : List Statement
      rest = flat_map (λ x. if_free x.0 x.1.before) es

      RestChecked : Type 0
      RestChecked = after_statements passes content rest ≡ cond (list_all (cell_is_free content) es) (Some content) None

      free : RestChecked → (b : Bool) → same (row_at content e.0) None ≡ b
          → option_and_then (λ next. after_statements passes next rest) (cond (same (row_at content e.0) None) (Some content) None)
          ≡ cond (same (row_at content e.0) None && list_all (cell_is_free content) es) (Some content) None
      free checked_rest true is = rw is checked_rest
      free checked_rest false is = rw is refl

      by : RestChecked → (before : Option Row) → after_statements passes content (if_free e.0 before ++ rest)
          ≡ cond (free_if before (row_at content e.0) && list_all (cell_is_free content) es) (Some content) None
      by checked_rest None = free checked_rest (same (row_at content e.0) None) refl
      by checked_rest (Some row) = checked_rest

  -- edits ------------------------------------------------------------------------------------

  -- a content still has, at each of their cells, the row before the change
  abbrev IsReady : Content → List (CellId × Change) → Type 0
  IsReady content es = (q : CellId) (change : Change) → find cell_cmp q es ≡ Some change → row_at content q ≡ change.before

  edit_is : (content : Content) (cell : CellId) (change : Change) → row_at content cell ≡ change.before
      → after_statement passes content (Make cell change) ≡ Some (set_cell content cell change.after)
  unfolding after_statement
  edit_is content cell change is =
      let e : same (row_at content cell) change.before ≡ true =
      subst (λ (r : Option Row). same (row_at content cell) r ≡ true) is (same_itself (row_at content cell)) in
      rw e refl

  made : (content : Content) (es : List (CellId × Change)) → T (is_sorted cell_cmp es) → IsReady content es
      → after_statements passes content (map (λ e. Make e.0 e.1) es) ≡ Some (over content (map (λ e. (e.0, e.1.after)) es))
  unfolding after_statements over
  made content [] sorted ready = refl
  made content (e ∷ es) sorted ready =
      rw (edit_is content e.0 e.1 (ready e.0 e.1 (found_first e es)))
      (made (set_cell content e.0 e.1.after) es (second _ _ sorted) (λ q change is. row-set_cell content e.0 e.1.after q
      ∙ ap (λ t. cond t e.1.after (row_at content q)) (apart_from_first e es q change sorted is) ∙ ready q change (found_later e es q change sorted is)))

  -- all statements -----------------------------------------------------------------------------

  module _ (tables : List TableDef) (old new content : Content) where
    abbrev changed : Changes
    changed = changes old new

    abbrev are_passed : Bool
    are_passed = list_all (passes content) tables

    abbrev rows_stand : Bool
    rows_stand = list_all (row_stands content) (finite.entries old)

    abbrev cells_are_free : Bool
    cells_are_free = list_all (cell_is_free content) (finite.entries changed)

    abbrev behind : Option Content
    behind = after_statements passes content (guarded_edits changed ++ rows_after_demanded changed)

    in_order : statements_between tables old new
        ≡ passes_over tables ++ (rows_demanded old ++ (free_cells_demanded changed ++ (guarded_edits changed ++ rows_after_demanded changed)))
    unfolding statements_between
    in_order = regrouped (passes_over tables) (rows_demanded old) (free_cells_demanded changed) (guarded_edits changed) (rows_after_demanded changed)

    -- the statements before the edits leave the content as it is, or one of them fails
    run_is : after_statements passes content (statements_between tables old new) ≡ cond are_passed (cond rows_stand (cond cells_are_free behind None) None) None
    run_is =
        ap (after_statements passes content) in_order
        ∙ in_turn content (passes_over tables) _ ∙ ap (option_and_then _) (checked Pass passes pass_is content tables) ∙ through are_passed _ content
        ∙ ap (λ r. cond are_passed r None)
        (in_turn content (rows_demanded old) _ ∙ ap (option_and_then _) (checked (λ e. Demand e.0 (Some e.1)) row_stands row_is content (finite.entries old))
        ∙ through rows_stand _ content
        ∙ ap (λ r. cond rows_stand r None)
        (in_turn content (free_cells_demanded changed) _ ∙ ap (option_and_then _) (free_checked content (finite.entries changed))
        ∙ through cells_are_free _ content))

    found_change : (q : CellId) (change : Change) → find cell_cmp q (finite.entries changed) ≡ Some change → finite.get changed q ≡ Some change
    found_change q change is = finite.get-entries changed q ∙ is

    before_is : (q : CellId) (change : Change) → finite.get changed q ≡ Some change → row_at old q ≡ change.before
    before_is q change is =
        ap (λ (c : Change). c.before) (cond_some (is_changed old new q) (change_of old new q) change (sym (get-changes old new q) ∙ is)).1

    -- where all stands as it was -----------------------------------------------------------------

    module _ (stands : StandsAsItWas passes tables old new content) where
      ready : IsReady content (finite.entries changed)
      ready q change is = by change.before refl
        where
          got : finite.get changed q ≡ Some change
          got = found_change q change is

          by : (before : Option Row) → change.before ≡ before → row_at content q ≡ before
          by None none = stands.free q change got none
          by (Some row) some = stands.rows q row (before_is q change got ∙ some)

      passed : are_passed ≡ true
      passed = all_contained (passes content) tables stands.passed

      rows_are : rows_stand ≡ true
      rows_are = all_found (row_stands content) (finite.entries old) (finite.entries_sorted old) (λ q row is.
          subst (λ (r : Option Row). same (row_at content q) r ≡ true) (stands.rows q row (finite.get-entries old q ∙ is)) (same_itself (row_at content q)))

      free_of : (before at : Option Row) → at ≡ before → free_if before at ≡ true
      unfolding free_if
      free_of None at is = subst (λ (r : Option Row). same at r ≡ true) is (same_itself at)
      free_of (Some row) at is = refl

      cells_are : cells_are_free ≡ true
      cells_are = all_found (cell_is_free content) (finite.entries changed) (finite.entries_sorted changed) (λ q change is.
          free_of change.before (row_at content q) (ready q change is))

      afters : list_all (row_after_stands (taken_over content changed)) (finite.entries changed) ≡ true
      afters = all_found (row_after_stands (taken_over content changed)) (finite.entries changed) (finite.entries_sorted changed) (λ q change is.
          let there = row-taken_over content changed q ∙ ap (λ c. unwrap_or (option_map after_of c) (row_at content q)) (found_change q change is) in
          subst (λ (r : Option Row). same (row_at (taken_over content changed) q) r ≡ true) there (same_itself (row_at (taken_over content changed) q)))

      written : after_statements passes content (statements_between tables old new) ≡ Some (taken_over content changed)
      written =
          run_is ∙ rw (passed, rows_are, cells_are)
          (in_turn content (guarded_edits changed) (rows_after_demanded changed)
          ∙ ap (option_and_then _) (made content (finite.entries changed) (finite.entries_sorted changed) ready)
          ∙ checked (λ e. Demand e.0 e.1.after) row_after_stands row_after_is (taken_over content changed) (finite.entries changed)
          ∙ rw afters refl)

    -- where something was written ------------------------------------------------------------------

    stands_where_written : (left : Content) → after_statements passes content (statements_between tables old new) ≡ Some left
        → StandsAsItWas passes tables old new content
    unfolding free_if
    stands_where_written left is =
        let one = cond_is are_passed _ left (sym run_is ∙ is) in
        let two = cond_is rows_stand _ left one.1 in
        let three = cond_is cells_are_free _ left two.1 in
        record {
          rows = λ cell row there. same_is (row_at content cell) (Some row) (found_passes (row_stands content) (finite.entries old) cell row
              (sym (finite.get-entries old cell) ∙ there) two.0);
          free = λ cell change there none. same_is (row_at content cell) None (subst (λ (b : Option Row). free_if b (row_at content cell) ≡ true) none
              (found_passes (cell_is_free content) (finite.entries changed) cell change (sym (finite.get-entries changed cell) ∙ there) three.0));
          passed = λ table among. contained_passes (passes content) tables table among one.0;
        }

    -- unless all stands as it was, nothing is written
    nothing : (StandsAsItWas passes tables old new content → ⊥) → committed passes content (statements_between tables old new) ≡ content
    nothing stale = by (after_statements passes content (statements_between tables old new)) refl
      where
        by : (r : Option Content) → after_statements passes content (statements_between tables old new) ≡ r
            → unwrap_or (after_statements passes content (statements_between tables old new)) content ≡ content
        by None is = rw is refl
        by (Some left) is = absurd (stale (stands_where_written left is))

pub written_law : WrittenLaw
written_law passes tables old new content stands = written passes tables old new content stands

pub over_old_rows : OverOldRowsLaw
over_old_rows passes tables old new passed =
    let stands : StandsAsItWas passes tables old new old = record {
      rows = λ cell row there. there;
      free = λ cell change there none. before_is passes tables old new old cell change there ∙ none;
      passed = passed;
    } in
    written passes tables old new old stands ∙ ap Some (taken_over-own old new)

pub nothing_else : NothingElseLaw
nothing_else passes tables old new content left is = stands_where_written passes tables old new content left is

pub stale_row : StaleRowLaw
stale_row passes tables old new content cell row there gone = nothing passes tables old new content (λ stands. gone (stands.rows cell row there))

pub taken_key : TakenKeyLaw
taken_key passes tables old new content cell change there none taken = nothing passes tables old new content (λ stands.
    taken (stands.free cell change there none))

pub rows_that_came : RowsThatCameLaw
rows_that_came passes tables old new content table among came = nothing passes tables old new content (λ stands.
    true≢false (sym (stands.passed table among) ∙ came))
