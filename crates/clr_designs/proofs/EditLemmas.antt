-- The edits between two contents that fit a schema fit it too, and each of them can be made over what those before it left.
use Rattle.std.proofs.Common.{◌≡◌, ℕ, zero, suc, ◌+◌, Bool, true, false, not, cond, T, List, [], ◌∷◌, map, Option, Some, None, refl, sym, ap, subst, ◌∙◌, arith}
use Rattle.std.specs.FinMap as finite
use Rattle.std.specs.FinMap.Entries.{find, is_sorted}
use Rattle.std.specs.List.{All, AllByRecursion}
use Rattle.std.specs.Ordering.{eq_by_cmp}
use Rattle.std.proofs.lemmas.Bool.{true≢false}
use Rattle.std.proofs.lemmas.Option.{cond_some, none-some}
use Rattle.clr_rows.specs.declared.cells.CellId.{CellId}
use Rattle.clr_rows.specs.declared.cells.Change.{Change}
use Rattle.clr_rows.specs.declared.rows.Row.{Row}
use Rattle.clr_rows.specs.declared.tables.TableDef.{TableDef}
use Rattle.clr_rows.specs.Cells.{cell_cmp}
use Rattle.clr_rows.specs.Contents.{Content, change_of, changes, is_changed, row_at}
use Rattle.clr_rows.specs.Same.{same}
use Rattle.clr_rows.specs.Schemas.{FitsSchema, cell_fault, row_fault}
use Rattle.clr_rows.proofs.ChangeLemmas.{find_below, get-changes, row-set_cell, tied_self}
use Rattle.clr_rows.proofs.RowLemmas.{tied_cells}
use Rattle.clr_rows.proofs.SchemaLemmas.{cell_named, fits_table}
use Rattle.clr_rows.proofs.Tests.{first, second}
use Rattle.clr_change.specs.Edits.{after_edit, edit_fault, fault_or_later, first_bad_edit}
use Rattle.clr_layer_changes.specs.Changes.{edit_of, edit_to, edits_between}
use Rattle.clr_layer_changes.proofs.EditLemmas.{after_edit_to}
use Rattle.clr_designs.specs.ReadBack.{Fits}
use Rattle.clr_designs.specs.Laws.{EditsFitLaw}

-- a row that could stand at a cell tells that some row could
cell_fits : (tables : List TableDef) (cell : CellId) (row : Row) → row_fault tables cell row ≡ None → cell_fault tables cell ≡ None
cell_fits tables cell row fits = let t = fits_table tables cell row fits in cell_named tables cell t.0 t.1 t.2.key

-- what is found in a list whose cells ascend
module _ {X : Type 0} where
  found_first : (e : CellId × X) (es : List (CellId × X)) → find cell_cmp e.0 (e ∷ es) ≡ Some e.1
  found_first e es = ap (λ t. cond t (Some e.1) (find cell_cmp e.0 es)) (tied_self e.0)

  -- what is found behind the first stands at another cell, and is found with it
  apart_from_first : (e : CellId × X) (es : List (CellId × X)) (q : CellId) (x : X) → T (is_sorted cell_cmp (e ∷ es)) → find cell_cmp q es ≡ Some x
      → eq_by_cmp cell_cmp q e.0 ≡ false
  apart_from_first e es q x sorted is = by (eq_by_cmp cell_cmp q e.0) refl
    where
      by : (t : Bool) → eq_by_cmp cell_cmp q e.0 ≡ t → t ≡ false
      by true tie = absurd (none-some x (sym (find_below e.0 es (first _ _ sorted)) ∙ ap (λ c. find cell_cmp c es) (sym (tied_cells q e.0 tie)) ∙ is))
      by false tie = refl

  found_later : (e : CellId × X) (es : List (CellId × X)) (q : CellId) (x : X) → T (is_sorted cell_cmp (e ∷ es)) → find cell_cmp q es ≡ Some x
      → find cell_cmp q (e ∷ es) ≡ Some x
  found_later e es q x sorted is = ap (λ t. cond t (Some e.1) (find cell_cmp q es)) (apart_from_first e es q x sorted is) ∙ is

module _ (tables : List TableDef) (base current : Content) (base_fits : FitsSchema tables base) (current_fits : FitsSchema tables current) where
  -- a change from the base to the current content
  record IsChange (cell : CellId) (change : Change) : Type 0 where
    before : row_at base cell ≡ change.before
    after : row_at current cell ≡ change.after
    differ : same change.before change.after ≡ false

  -- each change that is found among some is one
  abbrev AreChanges : List (CellId × Change) → Type 0
  AreChanges es = (q : CellId) (change : Change) → find cell_cmp q es ≡ Some change → IsChange q change

  -- a content still has, at each of their cells, the row before the change
  abbrev IsReady : Content → List (CellId × Change) → Type 0
  IsReady content es = (q : CellId) (change : Change) → find cell_cmp q es ≡ Some change → row_at content q ≡ change.before

  are_changes : AreChanges (finite.entries (changes base current))
  are_changes q change is = by (same (row_at base q) (row_at current q)) refl (sym (get-changes base current q) ∙ finite.get-entries (changes base current) q
      ∙ is)
    where
      by : (b : Bool) → same (row_at base q) (row_at current q) ≡ b → cond (is_changed base current q) (Some (change_of base current q)) None ≡ Some change
          → IsChange q change
      by true e h = absurd (none-some change (sym (ap (λ (s : Bool). cond (not s) (Some (change_of base current q)) None) e) ∙ h))
      by false e h =
          let one = (cond_some (is_changed base current q) (change_of base current q) change h).1 in
          record {
            before = ap (λ (c : Change). c.before) one;
            after = ap (λ (c : Change). c.after) one;
            differ = subst (λ (c : Change). same c.before c.after ≡ false) one e;
          }

  -- one edit ---------------------------------------------------------------------------------

  edit_fits : (cell : CellId) (before after : Option Row) → row_at base cell ≡ before → row_at current cell ≡ after → same before after ≡ false
      → Fits tables (edit_to cell before after)
  unfolding same
  edit_fits cell None None b a differ = absurd (true≢false differ)
  edit_fits cell (Some old) None b a differ = cell_fits tables cell old (base_fits cell old b)
  edit_fits cell None (Some row) b a differ = current_fits cell row a
  edit_fits cell (Some old) (Some row) b a differ = current_fits cell row a

  edit_is_made : (content : Content) (cell : CellId) (before after : Option Row) → row_at base cell ≡ before → row_at current cell ≡ after → same before after
      ≡ false
      → row_at content cell ≡ before → edit_fault tables content (edit_to cell before after) ≡ None
  unfolding same
  edit_is_made content cell None None b a differ ready = absurd (true≢false differ)
  edit_is_made content cell (Some old) None b a differ ready = rw (cell_fits tables cell old (base_fits cell old b), ready) refl
  edit_is_made content cell None (Some row) b a differ ready = rw (current_fits cell row a, ready) refl
  edit_is_made content cell (Some old) (Some row) b a differ ready = rw (current_fits cell row a, ready) refl

  -- edits one after another ------------------------------------------------------------------

  all_fit : (es : List (CellId × Change)) → T (is_sorted cell_cmp es) → AreChanges es → AllByRecursion (Fits tables) (map edit_of es)
  all_fit [] sorted are = tt
  all_fit (e ∷ es) sorted are =
      let one = are e.0 e.1 (found_first e es) in (
        edit_fits e.0 e.1.before e.1.after one.before one.after one.differ,
        all_fit es (second _ _ sorted) (λ q change is. are q change (found_later e es q change sorted is)),
      )

  none_bad : (content : Content) (n : ℕ) (es : List (CellId × Change)) → T (is_sorted cell_cmp es) → AreChanges es → IsReady content es
      → first_bad_edit tables content n (map edit_of es) ≡ None
  unfolding first_bad_edit
  none_bad content n [] sorted are ready = refl
  none_bad content n (e ∷ es) sorted are ready =
      let one = are e.0 e.1 (found_first e es) in
      let next = after_edit content (edit_of e) in
      let made = edit_is_made content e.0 e.1.before e.1.after one.before one.after one.differ (ready e.0 e.1 (found_first e es)) in
      ap (λ why. fault_or_later n why (first_bad_edit tables next (n + 1) (map edit_of es))) made
      ∙ none_bad next (n + 1) es (second _ _ sorted) (λ q change is. are q change (found_later e es q change sorted is)) (λ q change is.
      ap (λ (m : Content). row_at m q) (after_edit_to content e.0 e.1.before e.1.after) ∙ row-set_cell content e.0 e.1.after q
      ∙ ap (λ t. cond t e.1.after (row_at content q)) (apart_from_first e es q change sorted is) ∙ ready q change (found_later e es q change sorted is))

  pub edits_are_made : (n : ℕ) → first_bad_edit tables base n (edits_between base current) ≡ None
  edits_are_made n =
      none_bad base n (finite.entries (changes base current)) (finite.entries_sorted (changes base current)) are_changes
      (λ q change is. (are_changes q change is).before)

-- what holds of each of a list, told by recursion or by positions
all_at : {X : Type 0} (P : X → Type 0) (xs : List X) → AllByRecursion P xs → All P xs
all_at P [] all k d lt = absurd (omega arith)
all_at P (x ∷ xs) all zero d lt = all.0
all_at P (x ∷ xs) all (suc k) d lt = all_at P xs all.1 k d (omega arith)

pub edits_fit : EditsFitLaw
edits_fit tables base current base_fits current_fits =
    all_at (Fits tables) (edits_between base current)
    (all_fit tables base current base_fits current_fits (finite.entries (changes base current)) (finite.entries_sorted (changes base current))
    (are_changes tables base current base_fits current_fits))
