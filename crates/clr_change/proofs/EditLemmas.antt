-- Edits made one after another over the changes of a content.
use Rattle.std.proofs.Common.{◌≡◌, ℕ, ◌+◌, ◌<◌, ◌≤◌, get_or, Bool, true, false, cond, List, [], ◌∷◌, ◌++◌, take, drop, length, is_some, Option, Some, None}
use Rattle.std.proofs.Common.{refl, sym, ap, subst, ◌∙◌}
use Rattle.std.specs.FinMap as finite
use Rattle.std.specs.Option.{option_or, option_map}
use Rattle.std.specs.Ordering.{eq_by_cmp}
use Rattle.std.proofs.lemmas.Option.{same_Some}
use Rattle.std.proofs.lemmas.List.{take_more, drop_more, take_all, drop_all}
use Rattle.clr_rows.specs.declared.cells.CellId.{CellId}
use Rattle.clr_rows.specs.declared.faults.RowFault.{RowFault}
use Rattle.clr_rows.specs.declared.rows.Row.{Row}
use Rattle.clr_rows.specs.declared.tables.TableDef.{TableDef}
use Rattle.clr_rows.specs.Cells.{cell_cmp}
use Rattle.clr_rows.specs.Contents.{Content, Changes, row_at, set_cell, changes, taken_over}
use Rattle.clr_rows.specs.Schemas.{row_fault, cell_fault, FitsSchema}
use Rattle.clr_rows.proofs.ChangeLemmas.{get-changes, changes-self, same_changes, row-set_cell, taken_over-own}
use Rattle.clr_rows.proofs.FitLemmas.{put_keeps, take_keeps}
use Rattle.clr_rows.proofs.RowLemmas.{tied_cells}
use Rattle.clr_change.specs.ChangeSets.{change_from, set_change}
use Rattle.clr_change.proofs.SetLemmas.{get-set_change}
use Rattle.clr_change.specs.declared.edits.Edit.{Edit}
use Rattle.clr_change.specs.declared.edits.Edit.TheVariants.{Insert, Update, Delete}
use Rattle.clr_change.specs.declared.edits.EditFault.{EditFault}
use Rattle.clr_change.specs.declared.edits.EditFault.TheVariants as fault
use Rattle.clr_change.specs.Edits.{taken_fault, missing, edit_fault, after_edit, after_edits, fault_or_later, first_bad_edit, IsMade, FaultIs, IsFirstEditFault}
use Rattle.clr_change.specs.Edits.{fault_number}

-- a row set over changes -----------------------------------------------------------------------

-- a row set at a cell, over the changes to a content, gives the changes to that with the row
pub set_change_is : (content current : Content) (cell : CellId) (row : Option Row) → set_change (changes content current) cell (row_at content cell) row
    ≡ changes content (set_cell current cell row)
set_change_is content current cell row = same_changes _ _ (λ q.
    get-set_change (changes content current) cell (row_at content cell) row q ∙ go q (eq_by_cmp cell_cmp q cell) refl
    ∙ ap (change_from (row_at content q)) (sym (row-set_cell current cell row q)) ∙ sym (get-changes content (set_cell current cell row) q))
  where
    go : (q : CellId) (t : Bool) → eq_by_cmp cell_cmp q cell ≡ t → cond t (change_from (row_at content cell) row) (finite.get (changes content current) q)
        ≡ change_from (row_at content q) (cond t row (row_at current q))
    go q true tie = ap (λ c. change_from (row_at content c) row) (sym (tied_cells q cell tie))
    go q false tie = get-changes content current q

-- one edit --------------------------------------------------------------------------------------

module _ (tables : List TableDef) (content : Content) (cell : CellId) (old : Changes) where
  -- whether the content with the changes has a row is whether what they came from has
  has_row : (current : Content) → old ≡ changes content current → row_at (taken_over content old) cell ≡ row_at current cell
  has_row current is = ap (λ (s : Changes). row_at (taken_over content s) cell) is ∙ ap (λ (m : Content). row_at m cell) (taken_over-own content current)

  set_from : (current : Content) (row : Option Row) → old ≡ changes content current → set_change old cell (row_at content cell) row
      ≡ changes content (set_cell current cell row)
  set_from current row is = ap (λ (s : Changes). set_change s cell (row_at content cell) row) is ∙ set_change_is content current cell row

  abbrev HasRow : Bool → Type 0
  HasRow b = is_some (row_at (taken_over content old) cell) ≡ b

  no_fault : (judged : Option RowFault) (later : Option Row → Option EditFault) (row : Option Row) → option_map fault.Row judged ≡ None → later row ≡ None
      → option_or (option_map fault.Row judged) (later row) ≡ None
  no_fault None later row e h = h
  no_fault (Some why) later row e h = cc

  pub insert_made : (row : Row) → option_map fault.Row (row_fault tables cell row) ≡ None → HasRow false
      → IsMade tables content (Insert cell row) old (set_change old cell (row_at content cell) (Some row))
  insert_made row fits none = λ current is. (
    no_fault _ taken_fault (row_at current cell) fits (ap (λ b. cond b (Some fault.KeyTaken) None)
        (ap is_some (sym (has_row current is)) ∙ none)),
    set_from current (Some row) is,
  )

  pub update_made : (row : Row) → option_map fault.Row (row_fault tables cell row) ≡ None → HasRow true
      → IsMade tables content (Update cell row) old (set_change old cell (row_at content cell) (Some row))
  update_made row fits some = λ current is. (
    no_fault _ missing (row_at current cell) fits (ap (λ b. cond b None (Some fault.NoRow))
        (ap is_some (sym (has_row current is)) ∙ some)),
    set_from current (Some row) is,
  )

  pub delete_made : option_map fault.Row (cell_fault tables cell) ≡ None → HasRow true
      → IsMade tables content (Delete cell) old (set_change old cell (row_at content cell) None)
  delete_made fits some = λ current is. (
    no_fault _ missing (row_at current cell) fits (ap (λ b. cond b None (Some fault.NoRow))
        (ap is_some (sym (has_row current is)) ∙ some)),
    set_from current None is,
  )

  later_fault : (judged : Option RowFault) (later : Option EditFault) (e : EditFault) → option_map fault.Row judged ≡ None → later ≡ Some e
      → option_or (option_map fault.Row judged) later ≡ Some e
  later_fault None later e fits h = h
  later_fault (Some why) later e fits h = cc

  pub insert_taken : (row : Row) → option_map fault.Row (row_fault tables cell row) ≡ None → HasRow true
      → FaultIs tables content (Insert cell row) old fault.KeyTaken
  insert_taken row fits some = λ current is. later_fault _ (taken_fault (row_at current cell)) fault.KeyTaken fits (ap (λ b. cond b (Some fault.KeyTaken) None)
      (ap is_some (sym (has_row current is)) ∙ some))

  pub update_missing : (row : Row) → option_map fault.Row (row_fault tables cell row) ≡ None → HasRow false
      → FaultIs tables content (Update cell row) old fault.NoRow
  update_missing row fits none = λ current is. later_fault _ (missing (row_at current cell)) fault.NoRow fits (ap (λ b. cond b None (Some fault.NoRow))
      (ap is_some (sym (has_row current is)) ∙ none))

  pub delete_missing : option_map fault.Row (cell_fault tables cell) ≡ None → HasRow false → FaultIs tables content (Delete cell) old fault.NoRow
  delete_missing fits none = λ current is. later_fault _ (missing (row_at current cell)) fault.NoRow fits (ap (λ b. cond b None (Some fault.NoRow))
      (ap is_some (sym (has_row current is)) ∙ none))

-- edits one after another ----------------------------------------------------------------------

pub all_edited_more : (content : Content) (edits : List Edit) (edit : Edit) → after_edits content (edits ++ edit ∷ [])
    ≡ after_edit (after_edits content edits) edit
unfolding after_edits
all_edited_more content [] edit = refl
all_edited_more content (e ∷ es) edit = all_edited_more (after_edit content e) es edit

all_edited_none : (content : Content) → after_edits content [] ≡ content
unfolding after_edits
all_edited_none content = refl

first_bad_more : (tables : List TableDef) (current : Content) (n : ℕ) (edit : Edit) (rest : List Edit) → edit_fault tables current edit ≡ None
    → first_bad_edit tables current n (edit ∷ rest) ≡ first_bad_edit tables (after_edit current edit) (n + 1) rest
unfolding first_bad_edit
first_bad_more tables current n edit rest none = ap (λ why. fault_or_later n why (first_bad_edit tables (after_edit current edit) (n + 1) rest)) none

first_bad_here : (tables : List TableDef) (current : Content) (n : ℕ) (edit : Edit) (rest : List Edit) (why : EditFault) → edit_fault tables current edit
    ≡ Some why → first_bad_edit tables current n (edit ∷ rest) ≡ Some (n, why)
unfolding first_bad_edit
first_bad_here tables current n edit rest why is = ap (λ found. fault_or_later n found (first_bad_edit tables (after_edit current edit) (n + 1) rest)) is

pub first_bad_none : (tables : List TableDef) (current : Content) (n : ℕ) → first_bad_edit tables current n [] ≡ None
unfolding first_bad_edit
first_bad_none tables current n = refl

module _ (tables : List TableDef) (content : Content) (edits : List Edit) where
  -- the edits before a place are made
  pub record IsStagedTo (at : ℕ) (staged : Changes) : Type 0 where
    pub staged_is : staged ≡ changes content (after_edits content (take at edits))
    pub passed : first_bad_edit tables content 1 edits ≡ first_bad_edit tables (after_edits content (take at edits)) (at + 1) (drop at edits)

  pub none_staged : IsStagedTo 0 finite.empty
  none_staged =
      let start = sym (all_edited_none content) in
      record { staged_is = sym (changes-self content) ∙ ap (changes content) start; passed = ap (λ (m : Content). first_bad_edit tables m 1 edits) start }

  pub one_staged : (at : ℕ) (edit : Edit) (old new : Changes) → at < length edits → edit ≡ get_or edits at edit → IsStagedTo at old
      → IsMade tables content edit old new → IsStagedTo (at + 1) new
  one_staged at edit old new within is so_far made =
      let current = after_edits content (take at edits) in
      let one = made current so_far.staged_is in
      let next : after_edits content (take (at + 1) edits) ≡ after_edit current edit = ap (after_edits content) (take_more edits at edit within)
      ∙ ap (λ e. after_edits content (take at edits ++ e ∷ [])) (sym is) ∙ all_edited_more content (take at edits) edit in
      record {
        staged_is = one.1 ∙ ap (changes content) (sym next);
        passed = so_far.passed ∙ ap (first_bad_edit tables current (at + 1)) (drop_more edits at edit within ∙ ap (λ e. e ∷ drop (at + 1) edits) (sym is))
            ∙ first_bad_more tables current (at + 1) edit (drop (at + 1) edits) one.0
            ∙ ap (λ (m : Content). first_bad_edit tables m (at + 1 + 1) (drop (at + 1) edits)) (sym next);
      }

  pub one_refused : (at : ℕ) (edit : Edit) (old : Changes) (why : EditFault) → at < length edits → edit ≡ get_or edits at edit → IsStagedTo at old
      → FaultIs tables content edit old why → IsFirstEditFault (first_bad_edit tables content 1 edits) (fault_number at why, why)
  one_refused at edit old why within is so_far = go why
    where
      first : (why : EditFault) → edit_fault tables (after_edits content (take at edits)) edit ≡ Some why → first_bad_edit tables content 1 edits
          ≡ Some (at + 1, why)
      first why e =
          let current = after_edits content (take at edits) in
          so_far.passed ∙ ap (first_bad_edit tables current (at + 1)) (drop_more edits at edit within ∙ ap (λ e. e ∷ drop (at + 1) edits) (sym is))
          ∙ first_bad_here tables current (at + 1) edit (drop (at + 1) edits) why e

      go : (why : EditFault) → FaultIs tables content edit old why → IsFirstEditFault (first_bad_edit tables content 1 edits) (fault_number at why, why)
      go fault.OutOfMemory h = refl
      go (fault.Row row) h = first (fault.Row row) (h (after_edits content (take at edits)) so_far.staged_is)
      go fault.KeyTaken h = first fault.KeyTaken (h (after_edits content (take at edits)) so_far.staged_is)
      go fault.NoRow h = first fault.NoRow (h (after_edits content (take at edits)) so_far.staged_is)

  pub all_staged : (at : ℕ) (set : Changes) → length edits ≤ at → IsStagedTo at set → (first_bad_edit tables content 1 edits ≡ None)
      × (set ≡ changes content (after_edits content edits))
  all_staged at set past so_far = (
    so_far.passed ∙ ap (first_bad_edit tables (after_edits content (take at edits)) (at + 1)) (drop_all at edits past) ∙ first_bad_none tables _ (at + 1),
    so_far.staged_is ∙ ap (λ es. changes content (after_edits content es)) (take_all at edits past),
  )

-- rows that fit -----------------------------------------------------------------------------------

module _ (tables : List TableDef) where
  abbrev fits : CellId → Row → Type 0
  fits cell row = row_fault tables cell row ≡ None

  fits_first : (judged : Option RowFault) (later : Option EditFault) → option_or (option_map fault.Row judged) later ≡ None → judged ≡ None
  fits_first None later e = refl
  fits_first (Some why) later e = cc

  edited_fits : (content : Content) (edit : Edit) → FitsSchema tables content → edit_fault tables content edit ≡ None
      → FitsSchema tables (after_edit content edit)
  edited_fits content (Insert cell row) all none = put_keeps fits content cell row all (fits_first _ _ none)
  edited_fits content (Update cell row) all none = put_keeps fits content cell row all (fits_first _ _ none)
  edited_fits content (Delete cell) all none = take_keeps fits content cell all

  first_passed : (n : ℕ) (judged : Option EditFault) (later : Option (ℕ × EditFault)) → fault_or_later n judged later ≡ None → (judged ≡ None) × (later ≡ None)
  first_passed n None later e = (refl, e)
  first_passed n (Some why) later e = cc

  all_fit_from : (n : ℕ) (content : Content) (edits : List Edit) → FitsSchema tables content → first_bad_edit tables content n edits ≡ None
      → FitsSchema tables (after_edits content edits)
  unfolding after_edits first_bad_edit
  all_fit_from n content [] all none = all
  all_fit_from n content (edit ∷ edits) all none =
      let parts = first_passed n (edit_fault tables content edit) (first_bad_edit tables (after_edit content edit) (n + 1) edits) none in
      all_fit_from (n + 1) (after_edit content edit) edits (edited_fits content edit all parts.0) parts.1

  -- edits that can all be made leave rows that fit, if the rows before fit
  pub all_edited_fits : (content : Content) (edits : List Edit) → FitsSchema tables content → first_bad_edit tables content 1 edits ≡ None
      → FitsSchema tables (after_edits content edits)
  all_edited_fits = all_fit_from 1
