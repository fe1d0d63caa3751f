-- Rows go on fitting the schema.
use Rattle.std.proofs.Common.{◌≡◌, ℕ, zero, suc, Bool, true, false, not, cond, List, [], ◌∷◌, ◌++◌, refl, sym, ◌∙◌, subst, Option, Some, None}
use Rattle.std.specs.Prelude.{filter, take, drop, slice_index_or}
use Rattle.std.specs.Ordering.{eq_by_cmp}
use Rattle.std.specs.Option.{option_map, option_map_or, unwrap_or}
use Rattle.std.specs.FinMap as finite
use Rattle.clr_rows.specs.declared.cells.CellId.{CellId}
use Rattle.clr_rows.specs.declared.rows.Row.{Row}
use Rattle.clr_rows.specs.declared.tables.TableDef.{TableDef}
use Rattle.clr_rows.specs.Cells.{cell_cmp}
use Rattle.clr_rows.specs.Contents.{Content, row_at, no_rows, set_cell, changes, is_changed, taken_over}
use Rattle.clr_rows.specs.Schemas.{FitsSchema, row_fault}
use Rattle.clr_rows.proofs.RowLemmas.{tied_cells}
use Rattle.clr_rows.proofs.ChangeLemmas.{row-set_cell, row-merged, taken_over-own}
use Rattle.clr_change.specs.declared.edits.Edit.{Edit}
use Rattle.clr_change.specs.declared.edits.EditFault.{EditFault}
use Rattle.clr_change.specs.Edits.{after_edits, first_bad_edit}
use Rattle.clr_change.proofs.EditLemmas.{all_edited_fits}
use Rattle.clr_steps.specs.declared.commands.Command.{Command}
use Rattle.clr_steps.specs.declared.commands.Command.TheVariants as command
use Rattle.clr_workspaces.specs.declared.rebases.Keep.{Keep}
use Rattle.clr_workspaces.specs.declared.rebases.Keep.TheVariants as keeps
use Rattle.clr_steps.specs.declared.commands.Reply.{Reply}
use Rattle.clr_steps.specs.declared.commands.Reply.TheVariants.{NoWorkspace}
use Rattle.clr_workspaces.specs.Marks.{Name, Mark, Saved, ChildMark, find_mark, mark_at, saved_content, is_child_mark, is_mark_of, is_saved_as, without_mark_of}
use Rattle.clr_workspaces.specs.Marks.{mark_last}
use Rattle.clr_workspaces.specs.Workspaces.{Workspace, no_workspace, workspace_at}
use Rattle.clr_workspaces.specs.Operations.{with_mark_of, new_leaf, with_marks, with_current, with_kept, save, roll_to, roll_all, refresh, with_base_merged}
use Rattle.clr_workspaces.specs.Operations.{keep_row}
use Rattle.clr_steps.specs.Names.{same_name, is_live}
use Rattle.clr_steps.specs.Offices.{Office, with_workspaces, find_name, workspace, stands, content_of, current_of, set_content, modify, modify_marks, without}
use Rattle.clr_steps.specs.Effects.{edited_content, merged_content, after_create, after_remove, after_apply, after_mark, after_unmark, after_roll_to}
use Rattle.clr_steps.specs.Effects.{after_roll_all, after_refresh, after_merge, after_resolve, set_kept, effect}
use Rattle.clr_steps.specs.Refusals.{when, bad_edit, edit_refusal, breaks, refusal}
use Rattle.clr_steps.specs.Steps.{refused_or_done, step}
use Rattle.clr_steps.specs.Invariants.{WorkspaceFits, OfficeFits}
use Rattle.clr_steps.specs.Laws.{FitLaw}
use Rattle.clr_steps.proofs.RuleLemmas as rules

-- contents ------------------------------------------------------------------------------------------------------

module _ (schema : List TableDef) where
  pub none_fits : FitsSchema schema no_rows
  none_fits cell row e = absurd (none_some (sym (finite.get-empty cell_cmp cell) ∙ e))
    where
      none_some : ◌≡◌ {A = Option Row} None (Some row) → ⊥
      none_some h = cc

  -- rows of a content, or of a workspace whose changes it takes over
  pub taken_fits : (target base current : Content) → FitsSchema schema target → FitsSchema schema current
      → FitsSchema schema (taken_over target (changes base current))
  taken_fits target base current above below cell row e = by (is_changed base current cell) (sym (row-merged target base current cell) ∙ e)
    where
      by : (b : Bool) → unwrap_or (cond b (Some (row_at current cell)) None) (row_at target cell) ≡ Some row → row_fault schema cell row ≡ None
      by true h = below cell row h
      by false h = above cell row h

  -- one cell set to what another content has there
  pub set_fits : (content other : Content) (cell : CellId) → FitsSchema schema content → FitsSchema schema other
      → FitsSchema schema (set_cell content cell (row_at other cell))
  set_fits content other cell fits also q row e = by (eq_by_cmp cell_cmp q cell) refl (sym (row-set_cell content cell (row_at other cell) q) ∙ e)
    where
      by : (b : Bool) → eq_by_cmp cell_cmp q cell ≡ b → cond b (row_at other cell) (row_at content q) ≡ Some row → row_fault schema q row ≡ None
      by true same h = subst (λ c. row_fault schema c row ≡ None) (sym (tied_cells q cell same)) (also cell row h)
      by false same h = fits q row h

-- each element of a list, one past the end being d ---------------------------------------------------------------

module _ {X : Type 0} (P : X → Type 0) (d : X) (past : P d) where
  abbrev Each : List X → Type 0
  Each xs = (i : ℕ) → P (slice_index_or xs i d)

  each_cons : (x : X) (xs : List X) → P x → Each xs → Each (x ∷ xs)
  each_cons x xs p each zero = p
  each_cons x xs p each (suc i) = each i

  each_past : Each []
  each_past i = past

  each_filter : (p : X → Bool) (xs : List X) → Each xs → Each (filter p xs)
  each_filter p [] each = each
  each_filter p (x ∷ xs) each = by (p x) (each_filter p xs (λ i. each (suc i)))
    where
      by : (b : Bool) → Each (filter p xs) → Each (cond b (x ∷ filter p xs) (filter p xs))
      by true rest = each_cons x (filter p xs) (each 0) rest
      by false rest = rest

  each_append : (xs ys : List X) → Each xs → Each ys → Each (xs ++ ys)
  each_append [] ys each more = more
  each_append (x ∷ xs) ys each more = each_cons x (xs ++ ys) (each 0) (each_append xs ys (λ i. each (suc i)) more)

  each_one : (x : X) → P x → Each (x ∷ [])
  each_one x p = each_cons x [] p each_past

  each_take : (n : ℕ) (xs : List X) → Each xs → Each (take n xs)
  each_take zero [] each = each_past
  each_take zero (x ∷ xs) each = each_past
  each_take (suc n) [] each = each_past
  each_take (suc n) (x ∷ xs) each = each_cons x (take n xs) (each 0) (each_take n xs (λ i. each (suc i)))

  each_drop : (n : ℕ) (xs : List X) → Each xs → Each (drop n xs)
  each_drop zero [] each = each
  each_drop zero (x ∷ xs) each = each
  each_drop (suc n) [] each = each_past
  each_drop (suc n) (x ∷ xs) each = each_drop n xs (λ i. each (suc i))

-- workspaces ------------------------------------------------------------------------------------------------------

module _ (schema : List TableDef) where
  abbrev Saves : Mark → Type 0
  Saves m = FitsSchema schema (saved_content m)

  no_saved : Saves (ChildMark [])
  no_saved = none_fits schema

  abbrev EachSaved : List Mark → Type 0
  EachSaved marks = (i : ℕ) → Saves (mark_at marks i)

  saved_filter : (p : Mark → Bool) (marks : List Mark) → EachSaved marks → EachSaved (filter p marks)
  saved_filter = each_filter Saves (ChildMark []) no_saved

  saved_more : (marks : List Mark) (m : Mark) → EachSaved marks → Saves m → EachSaved (marks ++ m ∷ [])
  saved_more marks m each one = each_append Saves (ChildMark []) no_saved marks (m ∷ []) each (each_one Saves (ChildMark []) no_saved m one)

  abbrev Fits : Workspace → Type 0
  Fits = WorkspaceFits schema

  no_fits : Fits no_workspace
  no_fits = record { base = none_fits schema; current = none_fits schema; saved = λ i. no_saved }

  abbrev EachFits : List Workspace → Type 0
  EachFits ws = (i : ℕ) → Fits (workspace_at ws i)

  each_modify : (m : Name) (f : Workspace → Workspace) → ((w : Workspace) → Fits w → Fits (f w)) → (ws : List Workspace) → EachFits ws
      → EachFits (modify m f ws)
  each_modify m f fits [] each = each
  each_modify m f fits (w ∷ ws) each = each_cons Fits no_workspace no_fits _ (modify m f ws) (by (same_name m w.name))
      (each_modify m f fits ws (λ i. each (suc i)))
    where
      by : (b : Bool) → Fits (cond b (f w) w)
      by true = fits w (each 0)
      by false = each 0

  each_marks : (m : Name) (f : List Mark → List Mark) → ((marks : List Mark) → EachSaved marks → EachSaved (f marks)) → (ws : List Workspace) → EachFits ws
      → EachFits (modify_marks m f ws)
  each_marks m f saves ws each = each_modify m (with_marks f) (λ w h. record { base = h.base; current = h.current; saved = saves w.marks h.saved }) ws each

  find_fits : (n : Name) (ws : List Workspace) (w : Workspace) → EachFits ws → find_name n ws ≡ Some w → Fits w
  find_fits n [] w each e = absurd (cc)
  find_fits n (v ∷ ws) w each e = by (same_name n v.name) e (find_fits n ws w (λ i. each (suc i)))
    where
      by : (b : Bool) → cond b (Some v) (find_name n ws) ≡ Some w → (find_name n ws ≡ Some w → Fits w) → Fits w
      by true h rest = let one : v ≡ w = cc in subst Fits one (each 0)
      by false h rest = rest h

  -- what becomes of one workspace

  save_fits : (s : Name) (w : Workspace) → Fits w → Fits (save s w)
  save_fits s w h = record { base = h.base; current = h.current; saved = saved_more w.marks (Saved s w.current) h.saved h.current }

  roll_to_fits : (i : ℕ) (w : Workspace) → Fits w → Fits (roll_to i w)
  roll_to_fits i w h = record {
    base = h.base;
    current = h.saved i;
    saved = each_append Saves (ChildMark []) no_saved (take (suc i) w.marks) _ (each_take Saves (ChildMark []) no_saved (suc i) w.marks h.saved)
        (saved_filter is_child_mark (drop (suc i) w.marks) (each_drop Saves (ChildMark []) no_saved (suc i) w.marks h.saved));
  }

  roll_all_fits : (w : Workspace) → Fits w → Fits (roll_all w)
  roll_all_fits w h = record { base = h.base; current = h.base; saved = saved_filter is_child_mark w.marks h.saved }

  refresh_fits : (above : Content) → FitsSchema schema above → (w : Workspace) → Fits w → Fits (refresh above w)
  refresh_fits above fits w h = record {
    base = fits;
    current = taken_fits schema above w.base w.current fits h.current;
    saved = saved_filter is_child_mark
        w.marks h.saved;
  }

  rebase_fits : (w : Workspace) → Fits w → Fits (with_base_merged w)
  rebase_fits w h = record {
    base = subst (FitsSchema schema) (sym (taken_over-own w.base w.current)) h.current;
    current = h.current;
    saved =
        saved_filter is_child_mark w.marks h.saved;
  }

  pub keep_row_fits : (cell : CellId) (keep : Keep) (above : Content) → FitsSchema schema above → (w : Workspace) → Fits w → Fits (keep_row cell keep above w)
  keep_row_fits cell keeps.Parent above fits w h = record {
    base = set_fits schema w.base above cell h.base fits;
    current = set_fits schema w.current above cell
        h.current fits;
    saved = h.saved;
  }
  keep_row_fits cell keeps.Child above fits w h = record { base = set_fits schema w.base above cell h.base fits; current = h.current; saved = h.saved }
  keep_row_fits cell keeps.Base above fits w h = record {
    base = set_fits schema w.base above cell h.base fits;
    current = set_fits schema w.current w.base cell
        h.current h.base;
    saved = h.saved;
  }

-- offices ---------------------------------------------------------------------------------------------------------

module _ (o : Office) (g : OfficeFits o) where
  fits_with : (ws : List Workspace) → EachFits o.schema ws → OfficeFits (with_workspaces o ws)
  fits_with ws each = record { live = g.live; workspaces = each }

  pub fits_content_of : (n : Name) → FitsSchema o.schema (content_of o n)
  unfolding content_of
  fits_content_of n = by (is_live n) (find_name n o.workspaces) refl
    where
      by : (b : Bool) (r : Option Workspace) → find_name n o.workspaces ≡ r → FitsSchema o.schema (cond b o.live (current_of r))
      by true r e = g.live
      by false None e = none_fits o.schema
      by false (Some w) e = (find_fits o.schema n o.workspaces w g.workspaces e).current

  fits_found : (n : Name) (w : Workspace) → workspace o n ≡ Some w → WorkspaceFits o.schema w
  unfolding workspace
  fits_found n w e = by (is_live n) e
    where
      by : (b : Bool) → cond b None (find_name n o.workspaces) ≡ Some w → WorkspaceFits o.schema w
      by true h = absurd (cc)
      by false h = find_fits o.schema n o.workspaces w g.workspaces h

  fits_modify : (m : Name) (f : Workspace → Workspace) → ((w : Workspace) → WorkspaceFits o.schema w → WorkspaceFits o.schema (f w))
      → OfficeFits (with_workspaces o (modify m f o.workspaces))
  fits_modify m f fits = fits_with (modify m f o.workspaces) (each_modify o.schema m f fits o.workspaces g.workspaces)

  fits_marks : (m : Name) (f : List Mark → List Mark) → ((marks : List Mark) → EachSaved o.schema marks → EachSaved o.schema (f marks))
      → OfficeFits (with_workspaces o (modify_marks m f o.workspaces))
  fits_marks m f saves = fits_with (modify_marks m f o.workspaces) (each_marks o.schema m f saves o.workspaces g.workspaces)

  fits_content : (n : Name) (content : Content) → FitsSchema o.schema content → OfficeFits (set_content o n content)
  unfolding set_content
  fits_content n content fits = by (is_live n)
    where
      by : (b : Bool) → OfficeFits (cond b (record o { live = content }) (record o { workspaces = modify n (with_current content) o.workspaces }))
      by true = record { live = fits; workspaces = g.workspaces }
      by false = fits_modify n (with_current content) (λ w h. record { base = h.base; current = fits; saved = h.saved })

  fits_create : (n p : Name) → OfficeFits (after_create o n p)
  unfolding after_create
  fits_create n p =
      let fits = fits_content_of p in
      let marks = (fits_marks p (with_mark_of n) (λ marks h. saved_more o.schema marks (ChildMark n) h (none_fits o.schema))).workspaces in
      fits_with _ (each_append (WorkspaceFits o.schema) no_workspace (no_fits o.schema) (modify_marks p (with_mark_of n) o.workspaces) _ marks
      (each_one (WorkspaceFits o.schema) no_workspace (no_fits o.schema) (new_leaf n p (content_of o p))
      (record { base = fits; current = fits; saved = λ i. none_fits o.schema })))

  fits_merged : (w : Workspace) → WorkspaceFits o.schema w → FitsSchema o.schema (merged_content o w)
  unfolding merged_content
  fits_merged w h = taken_fits o.schema (content_of o w.parent) w.base w.current (fits_content_of w.parent) h.current

  fits_mark : (w : Workspace) (s : Name) → OfficeFits (after_mark o w s)
  unfolding after_mark
  fits_mark w s = fits_modify w.name (save s) (save_fits o.schema s)

  fits_unmark : (w : Workspace) (s : Name) → OfficeFits (after_unmark o w s)
  unfolding after_unmark
  fits_unmark w s = fits_marks w.name _ (λ marks h. saved_filter o.schema (λ m. not (is_saved_as s m)) marks h)

  fits_roll_to : (w : Workspace) (s : Name) → OfficeFits (after_roll_to o w s)
  unfolding after_roll_to
  fits_roll_to w s = by (find_mark w.marks s)
    where
      by : (r : Option ℕ) → OfficeFits (option_map_or (λ i. let next : Office = record o { workspaces = modify w.name (roll_to i) o.workspaces } in next) r o)
      by None = g
      by (Some i) = fits_modify w.name (roll_to i) (roll_to_fits o.schema i)

  fits_roll_all : (w : Workspace) → OfficeFits (after_roll_all o w)
  unfolding after_roll_all
  fits_roll_all w = fits_modify w.name roll_all (roll_all_fits o.schema)

  fits_resolve : (w : Workspace) (cell : CellId) (keep : Keep) → OfficeFits (after_resolve o w cell keep)
  unfolding after_resolve
  fits_resolve w cell keep = fits_modify w.name (keep_row cell keep (content_of o w.parent)) (keep_row_fits o.schema cell keep (content_of o w.parent)
      (fits_content_of w.parent))

  fits_kept : (w : Workspace) (b : Bool) → OfficeFits (set_kept o w b)
  unfolding set_kept
  fits_kept w b = fits_modify w.name (with_kept b) (λ v h. record { base = h.base; current = h.current; saved = h.saved })

fits_remove : (o : Office) → OfficeFits o → (w : Workspace) → OfficeFits (after_remove o w)
unfolding after_remove
fits_remove o g w =
    let rest = fits_with o g (without w.name o.workspaces)
    (each_filter (WorkspaceFits o.schema) no_workspace (no_fits o.schema) (λ v. not (same_name w.name v.name)) o.workspaces g.workspaces) in
    fits_marks (with_workspaces o (without w.name o.workspaces)) rest w.parent (without_mark_of w.name)
    (λ marks h. saved_filter o.schema (λ m. not (is_mark_of w.name m)) marks h)

fits_refresh : (o : Office) → OfficeFits o → (w : Workspace) → OfficeFits (after_refresh o w)
unfolding after_refresh
fits_refresh o g w =
    let f = refresh (content_of o w.parent) in
    let next = fits_modify o g w.name f (refresh_fits o.schema (content_of o w.parent) (fits_content_of o g w.parent)) in
    fits_marks (with_workspaces o (modify w.name f o.workspaces)) next w.parent (mark_last w.name) (λ marks h. saved_more o.schema _ (ChildMark w.name)
    (saved_filter o.schema (λ m. not (is_mark_of w.name m)) marks h) (none_fits o.schema))

fits_merge : (o : Office) → OfficeFits o → (w : Workspace) → WorkspaceFits o.schema w → OfficeFits (after_merge o w)
unfolding after_merge
fits_merge o g w h =
    let above = set_content o w.parent (merged_content o w) in
    fits_modify above (fits_content o g w.parent (merged_content o w) (fits_merged o g w h)) w.name with_base_merged (rebase_fits above.schema)

fits_either : (o : Office) → OfficeFits o → (w : Workspace) (gone : Bool) → WorkspaceFits o.schema w
    → OfficeFits (cond gone (after_remove (after_merge o w) w) (after_merge o w))
fits_either o g w true h = fits_remove (after_merge o w) (fits_merge o g w h) w
fits_either o g w false h = fits_merge o g w h

fits_on : (o : Office) → OfficeFits o → (n : Name) (f : Workspace → Office) → ((w : Workspace) → WorkspaceFits o.schema w → OfficeFits (f w))
    → OfficeFits (option_map_or f (workspace o n) o)
fits_on o g n f fits = by (workspace o n) refl
  where
    by : (r : Option Workspace) → workspace o n ≡ r → OfficeFits (option_map_or f r o)
    by None e = g
    by (Some w) e = fits w (fits_found o g n w e)

-- edits that can be made
fits_apply : (o : Office) → OfficeFits o → (n : Name) (edits : List Edit) → edit_refusal o n edits ≡ None → OfficeFits (after_apply o n edits)
unfolding after_apply edited_content edit_refusal
fits_apply o g n edits none = fits_content o g n (after_edits (content_of o n) edits) (all_edited_fits o.schema (content_of o n) edits (fits_content_of o g n)
    (by (first_bad_edit o.schema (content_of o n) 1 edits) none))
  where
    by : (r : Option (ℕ × EditFault)) → option_map bad_edit r ≡ None → r ≡ None
    by None e = refl
    by (Some bad) e = absurd (cc)

fits_effect : (o : Office) → OfficeFits o → (c : Command) → refusal o c ≡ None → OfficeFits (effect o c)
unfolding effect refusal
fits_effect o g (command.Create n p) none = fits_create o g n p
fits_effect o g (command.Remove n) none = fits_on o g n _ (λ w h. fits_remove o g w)
fits_effect o g (command.Apply n edits) none = fits_apply o g n edits (rules.each_none (when (not (stands o n)) NoWorkspace ∷ edit_refusal o n edits
    ∷ breaks o n (edited_content o n edits) ∷ []) none).1.0
fits_effect o g (command.Mark n s) none = fits_on o g n _ (λ w h. fits_mark o g w s)
fits_effect o g (command.Unmark n s) none = fits_on o g n _ (λ w h. fits_unmark o g w s)
fits_effect o g (command.RollTo n s) none = fits_on o g n _ (λ w h. fits_roll_to o g w s)
fits_effect o g (command.RollAll n) none = fits_on o g n _ (λ w h. fits_roll_all o g w)
fits_effect o g (command.Refresh n) none = fits_on o g n _ (λ w h. fits_refresh o g w)
fits_effect o g (command.Merge n gone) none = fits_on o g n _ (λ w h. fits_either o g w gone h)
fits_effect o g (command.Resolve n cell keep) none = fits_on o g n _ (λ w h. fits_resolve o g w cell keep)
fits_effect o g (command.Hold n) none = fits_on o g n _ (λ w h. fits_kept o g w true)
fits_effect o g (command.Release n) none = fits_on o g n _ (λ w h. fits_kept o g w false)

pub fit_law : FitLaw
unfolding step
fit_law o c g = by (refusal o c) refl
  where
    by : (r : Option Reply) → refusal o c ≡ r → OfficeFits (refused_or_done r o (effect o c)).office
    by None e = fits_effect o g c e
    by (Some reply) e = g
