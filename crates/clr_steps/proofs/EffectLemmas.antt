-- What each command leaves by position makes the office that it leaves by name.
use Rattle.std.proofs.Common.{◌≡◌, ℕ, zero, suc, ◌<◌, Bool, true, false, not, cond, List, [], ◌∷◌, ◌++◌, remove, Some, refl, sym, ap, ◌∙◌, arith, slice_set}
use Rattle.std.specs.Prelude.{filter}
use Rattle.std.specs.Option.{option_map_or}
use Rattle.std.specs.Str.{bytes_eq}
use Rattle.std.specs.Cmp.Lexicographic.{bytes_decides}
use Rattle.clr_rows.specs.declared.tables.TableDef.{TableDef}
use Rattle.clr_rows.specs.declared.cells.CellId.{CellId}
use Rattle.clr_rows.specs.Contents.{Content, taken_over}
use Rattle.clr_rows.proofs.ChangeLemmas.{taken_over-own}
use Rattle.clr_change.specs.declared.edits.Edit.{Edit}
use Rattle.clr_change.specs.Edits.{after_edits}
use Rattle.clr_rules.specs.declared.rules.Rule.{Rule}
use Rattle.clr_steps.specs.declared.commands.Command.TheVariants as command
use Rattle.clr_workspaces.specs.declared.rebases.Keep.{Keep}
use Rattle.clr_workspaces.specs.Marks.{Name, Mark, find_mark, is_saved_as, without_mark_of, mark_last}
use Rattle.clr_workspaces.specs.Workspaces.{Workspace, workspace_at, find, parent_of}
use Rattle.clr_workspaces.specs.Operations as tree
use Rattle.clr_workspaces.specs.declared.rebases.Rebase.TheVariants as rebase_as
use Rattle.clr_workspaces.specs.Soundness.{IsSound}
use Rattle.clr_workspaces.specs.Operations.{change_workspace, without_at, with_marks, with_current, with_kept, with_mark_of, new_leaf, save, roll_to, roll_all}
use Rattle.clr_workspaces.specs.Operations.{refresh, with_base_merged, keep_row, own_changes, at_position, under_parent}
use Rattle.clr_steps.specs.Names.{same_name, is_live}
use Rattle.clr_steps.specs.Offices.{Office, with_workspaces, office_of, workspace, content_of, set_content, modify, modify_marks, below_live}
use Rattle.clr_steps.specs.Effects.{edited_content, merged_content, after_create, after_remove, after_apply, after_mark, after_unmark, after_roll_to}
use Rattle.clr_steps.specs.Effects.{after_roll_all, after_refresh, after_merge, after_resolve, set_kept, effect}
use Rattle.clr_steps.specs.Positions.{merge_at, edit_at}
use Rattle.clr_steps.proofs.MarkLemmas.{only_savepoint}
use Rattle.clr_steps.proofs.FirstLemmas.{IsOnly, remove_only, position_of_only, some_is}
use Rattle.clr_steps.proofs.ModifyLemmas.{has_name, changed_is, only_modify, part_modify, below_modify, modify_below, modify_both, modified_below}
use Rattle.clr_steps.proofs.ModifyLemmas.{modified_marks, modified_content, removed_is, appended_is}
use Rattle.clr_steps.proofs.SeenLemmas.{seen, within, name_is, own_position, only_at}

module _ (schema : List TableDef) (book : List Rule) (ws : List Workspace) (sound : IsSound ws) where
  abbrev o : Office
  o = office_of schema book ws

  -- what all commands share --------------------------------------------------------------------------------

  on_is : {A : Type 0} (n : Name) (k : ℕ) → find ws n ≡ Some (suc k) → (f : Workspace → A) (none : A) → option_map_or f (workspace o n) none
      ≡ f (workspace_at ws (suc k))
  on_is n k e f none = rw ((seen schema book ws sound n).found, e) refl

  not_live : (n : Name) (k : ℕ) → find ws n ≡ Some (suc k) → is_live n ≡ false
  not_live n k e = rw ((seen schema book ws sound n).live, e) refl

  content_is : (n : Name) (at : ℕ) → find ws n ≡ Some at → content_of o n ≡ (workspace_at ws at).current
  content_is n at e = rw ((seen schema book ws sound n).content, e) refl

  own : (n : Name) (at : ℕ) → find ws n ≡ Some at → find ws (workspace_at ws at).name ≡ Some at
  own = own_position schema book ws sound

  only : (n : Name) (at : ℕ) → find ws n ≡ Some at → IsOnly (has_name n) ws at
  only = only_at schema book ws sound

  -- a workspace under LIVE, modified under its own name
  own_changed : (n : Name) (k : ℕ) (f : Workspace → Workspace) → find ws n ≡ Some (suc k)
      → office_of schema book (change_workspace ws (suc k) f) ≡ with_workspaces o (modify (workspace_at ws (suc k)).name f (below_live ws))
  own_changed n k f e =
      let m = (workspace_at ws (suc k)).name in
      ap (office_of schema book) (changed_is m f ws (suc k) (only m (suc k) (own n (suc k) e)))
      ∙ modified_below schema book m f ws sound.rooted.live (not_live m k (own n (suc k) e))

  -- an operation that names the position of the parent
  under_is : (k above : ℕ) (f : ℕ → List Workspace) → parent_of ws (suc k) ≡ Some above → office_of schema book (under_parent ws (suc k) f)
      ≡ office_of schema book (f above)
  under_is k above f under = ap (λ r. office_of schema book (at_position ws r f)) under

  -- an operation is known by what it makes of the workspace there
  alike : (at : ℕ) (f g : Workspace → Workspace) → f (workspace_at ws at) ≡ g (workspace_at ws at) → change_workspace ws at f ≡ change_workspace ws at g
  alike at f g e = ap (slice_set ws at) e

  -- commands on one workspace --------------------------------------------------------------------------------

  pub apply_is : (n : Name) (edits : List Edit) (at : ℕ) → find ws n ≡ Some at → office_of schema book (edit_at ws edits at) ≡ effect o (command.Apply n edits)
  unfolding effect after_apply edited_content
  apply_is n edits at e =
      let c = (workspace_at ws at).current in
      ap (λ d. office_of schema book (change_workspace ws at (with_current d))) (taken_over-own c (after_edits c edits))
      ∙ ap (office_of schema book) (changed_is n (with_current (after_edits c edits)) ws at (only n at e))
      ∙ modified_content schema book n (after_edits c edits) ws at sound.rooted.live (only n at e)
      ∙ ap (λ d. set_content o n (after_edits d edits)) (sym (content_is n at e))

  pub mark_is : (n s : Name) (k : ℕ) → find ws n ≡ Some (suc k) → office_of schema book (tree.after_mark ws (suc k) s) ≡ effect o (command.Mark n s)
  unfolding effect after_mark
  mark_is n s k e = own_changed n k (save s) e ∙ sym (on_is n k e (λ w. after_mark o w s) o)

  pub unmark_is : (n s : Name) (k i : ℕ) → find ws n ≡ Some (suc k) → find_mark (workspace_at ws (suc k)).marks s ≡ Some i
      → office_of schema book (tree.after_unmark ws (suc k) i) ≡ effect o (command.Unmark n s)
  unfolding effect after_unmark
  unmark_is n s k i e h =
      let w = workspace_at ws (suc k) in
      let one : IsOnly (is_saved_as s) w.marks i = only_savepoint s w.marks i (sound.saved (suc k) (within schema book ws sound n (suc k) e)) h in
      let f = with_marks (filter (λ m. not (is_saved_as s m))) in
      ap (office_of schema book) (alike (suc k) (with_marks (λ ms. remove ms i)) f (ap (λ (ms : List Mark). with_marks (λ old. ms) w)
      (remove_only (is_saved_as s) w.marks i one)))
      ∙ own_changed n k f e
      ∙ sym (on_is n k e (λ w. after_unmark o w s) o)

  pub roll_to_is : (n s : Name) (k i : ℕ) → find ws n ≡ Some (suc k) → find_mark (workspace_at ws (suc k)).marks s ≡ Some i
      → office_of schema book (tree.after_roll_to ws (suc k) i) ≡ effect o (command.RollTo n s)
  unfolding effect after_roll_to
  roll_to_is n s k i e h =
      let w = workspace_at ws (suc k) in
      own_changed n k (roll_to i) e
      ∙ sym (ap (λ r. option_map_or (λ i. with_workspaces o (modify w.name (roll_to i) o.workspaces)) r o) h)
      ∙ sym (on_is n k e (λ w. after_roll_to o w s) o)

  pub roll_all_is : (n : Name) (k : ℕ) → find ws n ≡ Some (suc k) → office_of schema book (tree.after_roll_all ws (suc k)) ≡ effect o (command.RollAll n)
  unfolding effect after_roll_all
  roll_all_is n k e = own_changed n k roll_all e ∙ sym (on_is n k e (after_roll_all o) o)

  pub resolve_is : (n : Name) (cell : CellId) (keep : Keep) (k above : ℕ) → find ws n ≡ Some (suc k) → parent_of ws (suc k) ≡ Some above
      → office_of schema book (tree.after_rebase ws (suc k) (rebase_as.OneRow cell keep)) ≡ effect o (command.Resolve n cell keep)
  unfolding effect after_resolve
  resolve_is n cell keep k above e under =
      let w = workspace_at ws (suc k) in
      under_is k above (tree.after_rebase_under ws (suc k) (rebase_as.OneRow cell keep)) under
      ∙ own_changed n k (keep_row cell keep (workspace_at ws above).current) e
      ∙ ap (λ c. with_workspaces o (modify w.name (keep_row cell keep c) o.workspaces)) (sym (content_is w.parent above under))
      ∙ sym (on_is n k e (λ w. after_resolve o w cell keep) o)

  pub hold_is : (n : Name) (k : ℕ) → find ws n ≡ Some (suc k) → office_of schema book (tree.set_kept ws (suc k) true) ≡ effect o (command.Hold n)
  unfolding effect set_kept
  hold_is n k e = own_changed n k (with_kept true) e ∙ sym (on_is n k e (λ w. set_kept o w true) o)

  pub release_is : (n : Name) (k : ℕ) → find ws n ≡ Some (suc k) → office_of schema book (tree.set_kept ws (suc k) false) ≡ effect o (command.Release n)
  unfolding effect set_kept
  release_is n k e = own_changed n k (with_kept false) e ∙ sym (on_is n k e (λ w. set_kept o w false) o)

  -- a new one ------------------------------------------------------------------------------------------------

  leaf_is : (n p : Name) (at : ℕ) → find ws p ≡ Some at → let above = workspace_at ws at in new_leaf n above.name above.current ≡ new_leaf n p (content_of o p)
  leaf_is n p at e = ap (λ (m : Name). new_leaf n m (workspace_at ws at).current) (sym (name_is schema book ws sound p at e))
      ∙ ap (new_leaf n p) (sym (content_is p at e))

  pub create_is : (n p : Name) (at : ℕ) → find ws p ≡ Some at → office_of schema book (tree.after_create ws n at) ≡ effect o (command.Create n p)
  unfolding effect after_create
  create_is n p zero e =
      let f = with_marks (with_mark_of n) in
      appended_is schema book ws (let above = workspace_at ws 0 in new_leaf n above.name above.current) sound.rooted.live
      ∙ ap (λ (w : Workspace). with_workspaces o (below_live ws ++ w ∷ [])) (leaf_is n p 0 e)
      ∙ ap (λ (vs : List Workspace). with_workspaces o (vs ++ new_leaf n p (content_of o p) ∷ [])) (sym (modify_below p f ws (only p 0 e)))
  create_is n p (suc k) e =
      let f = with_mark_of n in
      let w = let above = workspace_at ws (suc k) in new_leaf n above.name above.current in
      ap (λ (vs : List Workspace). office_of schema book (vs ++ w ∷ [])) (changed_is p (with_marks f) ws (suc k) (only p (suc k) e))
      ∙ appended_is schema book (modify_marks p f ws) w (part_modify (λ v. v.name) p (with_marks f) (λ v. refl) ws 0 ∙ sound.rooted.live)
      ∙ ap (λ (x : Office). with_workspaces x (x.workspaces ++ w ∷ [])) (modified_marks schema book p f ws)
      ∙ ap (λ (w : Workspace). with_workspaces o (modify_marks p f o.workspaces ++ w ∷ [])) (leaf_is n p (suc k) e)

  -- one taken out ----------------------------------------------------------------------------------------------

  pub remove_is : (n : Name) (k above : ℕ) → find ws n ≡ Some (suc k) → parent_of ws (suc k) ≡ Some above → above < suc k
      → office_of schema book (tree.after_remove ws (suc k)) ≡ effect o (command.Remove n)
  unfolding effect after_remove
  remove_is n k above e under before =
      let w = workspace_at ws (suc k) in
      let mine = own n (suc k) e in
      under_is k above (tree.after_remove_under ws (suc k)) under
      ∙ removed_is schema book w.name w.parent (suc k) above ws sound.rooted.live (not_live w.name k mine) before (only w.name (suc k) mine)
      (only w.parent above under)
      ∙ sym (on_is n k e (after_remove o) o)

  -- a workspace and its parent --------------------------------------------------------------------------------

  -- a workspace isn't its own parent
  apart : (k above : ℕ) → find ws (workspace_at ws (suc k)).name ≡ Some (suc k) → parent_of ws (suc k) ≡ Some above → above < suc k
      → (c : Name) → same_name (workspace_at ws (suc k)).parent c ≡ true → same_name (workspace_at ws (suc k)).name c ≡ false
  unfolding same_name
  apart k above mine under before c same = by (bytes_eq (workspace_at ws (suc k)).name c) refl
    where
      by : (b : Bool) → bytes_eq (workspace_at ws (suc k)).name c ≡ b → b ≡ false
      by false h = refl
      by true h =
          let w = workspace_at ws (suc k) in
          let one : w.parent ≡ w.name = (bytes_decides w.parent c).0 same ∙ sym ((bytes_decides w.name c).0 h) in
          let two : suc k ≡ above = some_is (suc k) above (sym mine ∙ ap (find ws) (sym one) ∙ under) in
          absurd (omega arith)

  refreshed_is : (k above : ℕ) → let w = workspace_at ws (suc k) in find ws w.name ≡ Some (suc k) → parent_of ws (suc k) ≡ Some above → above < suc k
      → office_of schema book (tree.after_refresh ws (suc k) above)
      ≡ with_workspaces o (modify_marks w.parent (mark_last w.name) (modify w.name (refresh (workspace_at ws above).current) o.workspaces))
  refreshed_is k zero mine under before =
      let w = workspace_at ws (suc k) in
      let f = refresh (workspace_at ws 0).current in
      let g = with_marks (mark_last w.name) in
      own_changed w.name k f mine
      ∙ ap (with_workspaces o)
      (sym (ap (modify w.parent g) (sym (below_modify w.name f ws))
      ∙ modify_below w.parent g (modify w.name f ws) (only_modify w.parent w.name f (λ v. refl) ws 0 (only w.parent 0 under))
      ∙ below_modify w.name f ws))
  refreshed_is k (suc a) mine under before =
      let w = workspace_at ws (suc k) in
      let f = refresh (workspace_at ws (suc a)).current in
      let g = with_marks (mark_last w.name) in
      let vs = modify w.parent g ws in
      ap (λ (xs : List Workspace). office_of schema book (change_workspace xs (suc k) f)) (changed_is w.parent g ws (suc a) (only w.parent (suc a) under))
      ∙ ap (office_of schema book) (changed_is w.name f vs (suc k) (only_modify w.name w.parent g (λ v. refl) ws (suc k) (only w.name (suc k) mine)))
      ∙ modified_below schema book w.name f vs (part_modify (λ v. v.name) w.parent g (λ v. refl) ws 0 ∙ sound.rooted.live) (not_live w.name k mine)
      ∙ ap (λ (x : Office). with_workspaces x (modify w.name f x.workspaces)) (modified_marks schema book w.parent (mark_last w.name) ws)
      ∙ ap (with_workspaces o) (sym (modify_both w.parent w.name g f (λ v. refl) (λ v. refl) (apart k (suc a) mine under before) o.workspaces))

  pub refresh_is : (n : Name) (k above : ℕ) → find ws n ≡ Some (suc k) → parent_of ws (suc k) ≡ Some above → above < suc k
      → office_of schema book (tree.after_rebase ws (suc k) rebase_as.Refresh) ≡ effect o (command.Refresh n)
  unfolding effect after_refresh
  refresh_is n k above e under before =
      let w = workspace_at ws (suc k) in
      under_is k above (tree.after_rebase_under ws (suc k) rebase_as.Refresh) under
      ∙ refreshed_is k above (own n (suc k) e) under before
      ∙ ap (λ (c : Content). with_workspaces o (modify_marks w.parent (mark_last w.name) (modify w.name (refresh c) o.workspaces)))
      (sym (content_is w.parent above under))
      ∙ sym (on_is n k e (after_refresh o) o)

  -- a merge, as two modifications by name
  merged_by_name : (k above : ℕ) → find ws (workspace_at ws (suc k)).name ≡ Some (suc k) → parent_of ws (suc k) ≡ Some above
      → let w = workspace_at ws (suc k) in tree.after_merge ws (suc k) above
      ≡ modify w.name with_base_merged (modify w.parent (with_current (taken_over (workspace_at ws above).current (own_changes w))) ws)
  merged_by_name k above mine under =
      let w = workspace_at ws (suc k) in
      let f = with_current (taken_over (workspace_at ws above).current (own_changes w)) in
      ap (λ (xs : List Workspace). change_workspace xs (suc k) with_base_merged) (changed_is w.parent f ws above (only w.parent above under))
      ∙ changed_is w.name with_base_merged (modify w.parent f ws) (suc k) (only_modify w.name w.parent f (λ v. refl) ws (suc k) (only w.name (suc k) mine))

  merged_is : (k above : ℕ) → find ws (workspace_at ws (suc k)).name ≡ Some (suc k) → parent_of ws (suc k) ≡ Some above
      → office_of schema book (tree.after_merge ws (suc k) above) ≡ after_merge o (workspace_at ws (suc k))
  unfolding after_merge merged_content
  merged_is k above mine under =
      let w = workspace_at ws (suc k) in
      let c = taken_over (workspace_at ws above).current (own_changes w) in
      let f = with_current c in
      ap (office_of schema book) (merged_by_name k above mine under)
      ∙ modified_below schema book w.name with_base_merged (modify w.parent f ws) (part_modify (λ v. v.name) w.parent f (λ v. refl) ws 0
      ∙ sound.rooted.live) (not_live w.name k mine)
      ∙ ap (λ (x : Office). with_workspaces x (modify w.name with_base_merged x.workspaces))
      (modified_content schema book w.parent c ws above sound.rooted.live (only w.parent above under)
      ∙ ap (λ d. set_content o w.parent (taken_over d (own_changes w))) (sym (content_is w.parent above under)))

  merged_removed : (k above : ℕ) → find ws (workspace_at ws (suc k)).name ≡ Some (suc k) → parent_of ws (suc k) ≡ Some above → above < suc k
      → let w = workspace_at ws (suc k) in office_of schema book (tree.after_remove (tree.after_merge ws (suc k) above) (suc k))
      ≡ after_remove (after_merge o w) w
  unfolding after_remove
  merged_removed k above mine under before =
      let w = workspace_at ws (suc k) in
      let f = with_current (taken_over (workspace_at ws above).current (own_changes w)) in
      let us = modify w.parent f ws in
      let vs = modify w.name with_base_merged us in
      let is = merged_by_name k above mine under in
      let stays : (m : Name) (at : ℕ) → IsOnly (has_name m) ws at → IsOnly (has_name m) vs at = λ m at h. only_modify m w.name with_base_merged (λ v. refl) us
      at (only_modify m w.parent f (λ v. refl) ws at h) in
      let part : (p : Workspace → Name) → ((v : Workspace) → p (with_base_merged v) ≡ p v) → ((v : Workspace) → p (f v) ≡ p v) → (i : ℕ) →
      p (workspace_at vs i) ≡ p (workspace_at ws i) = λ p a b i. part_modify p w.name with_base_merged a us i ∙ part_modify p w.parent f b ws i in
      let name : (workspace_at vs (suc k)).name ≡ w.name = part (λ v. v.name) (λ v. refl) (λ v. refl) (suc k) in
      let parent : (workspace_at vs (suc k)).parent ≡ w.parent = part (λ v. v.parent) (λ v. refl) (λ v. refl) (suc k) in
      let up : parent_of vs (suc k) ≡ Some above = ap (find vs) parent
      ∙ position_of_only (has_name w.parent) vs above (stays w.parent above (only w.parent above under)) in
      ap (λ (xs : List Workspace). office_of schema book (tree.after_remove xs (suc k))) is
      ∙ ap (λ r. office_of schema book (at_position vs r (tree.after_remove_under vs (suc k)))) up
      ∙ ap (λ m. office_of schema book (change_workspace (without_at vs (suc k)) above (with_marks (without_mark_of m)))) name
      ∙ removed_is schema book w.name w.parent (suc k) above vs (part (λ v. v.name) (λ v. refl) (λ v. refl) 0 ∙ sound.rooted.live) (not_live w.name k mine)
      before
      (stays w.name (suc k) (only w.name (suc k) mine)) (stays w.parent above (only w.parent above under))
      ∙ ap (λ (x : Office). after_remove x w) (sym (ap (office_of schema book) is) ∙ merged_is k above mine under)

  pub merge_is : (n : Name) (gone : Bool) (k above : ℕ) → find ws n ≡ Some (suc k) → parent_of ws (suc k) ≡ Some above → above < suc k
      → office_of schema book (merge_at ws gone (suc k)) ≡ effect o (command.Merge n gone)
  unfolding effect
  merge_is n gone k above e under before =
      ap (λ r. let vs = at_position ws r (tree.after_rebase_under ws (suc k) rebase_as.Merge) in office_of schema book
      (cond gone (tree.after_remove vs (suc k)) vs)) under
      ∙ by gone
      ∙ sym (on_is n k e (λ w. cond gone (after_remove (after_merge o w) w) (after_merge o w)) o)
    where
      by : (gone : Bool) → let vs = tree.after_merge ws (suc k) above in let w = workspace_at ws (suc k) in office_of schema book
          (cond gone (tree.after_remove vs (suc k)) vs) ≡ cond gone (after_remove (after_merge o w) w) (after_merge o w)
      by true = merged_removed k above (own n (suc k) e) under before
      by false = merged_is k above (own n (suc k) e) under
