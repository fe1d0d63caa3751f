-- The contents in which rules are to hold, once an operation of the tree changed a workspace.
use Rattle.std.proofs.Common.{◌≡◌, ◌∙◌, ℕ, zero, suc, ◌<◌, Bool, true, false, cond, List, [], ◌∷◌, ◌++◌, remove, Option, Some, None, refl, sym, ap}
use Rattle.std.proofs.Common.{slice_index_or, slice_set}
use Rattle.std.specs.Option.{option_map}
use Rattle.std.proofs.lemmas.List.{map-append, map-set}
use Rattle.std.proofs.Math.ListN.{get_or-map}
use Rattle.std.proofs.Math.Seq.{map-set_same}
use Rattle.clr_rows.specs.declared.cells.CellId.{CellId}
use Rattle.clr_rows.specs.Contents.{Content, taken_over}
use Rattle.clr_workspaces.specs.Marks.{Mark, Name, mark_last, without_mark_of}
use Rattle.clr_workspaces.specs.Workspaces.{Workspace, no_workspace, parent_of, workspace_at}
use Rattle.clr_workspaces.proofs.LeafLemmas.{map_remove}
use Rattle.clr_workspaces.proofs.RootLemmas.{later_stays}
use Rattle.clr_workspaces.specs.Operations.{after_create, after_refresh, after_remove, after_remove_under, after_rebase, after_rebase_under, after_write}
use Rattle.clr_workspaces.specs.Operations.{at_position, change_marks, change_workspace, keep_row, new_leaf, own_changes, with_base_merged, refresh}
use Rattle.clr_workspaces.specs.Operations.{with_current, with_mark_of, with_marks}
use Rattle.clr_workspaces.specs.declared.rebases.Keep.{Keep}
use Rattle.clr_workspaces.specs.declared.rebases.Keep.TheVariants as keeps
use Rattle.clr_workspaces.specs.declared.rebases.Rebase.TheVariants as ways
use Rattle.clr_judges.specs.KeptContents.{kept_content, kept_contents}

-- the content of one workspace, where rules are to hold in it
pub content_at : (ws : List Workspace) (at : ℕ) → slice_index_or (kept_contents ws) at None ≡ kept_content (workspace_at ws at)
content_at ws at = get_or-map kept_content ws at no_workspace

-- another content at a position, where there is one
abbrev pub with_content : List (Option Content) → ℕ → Content → List (Option Content)
with_content contents at next = slice_set contents at (option_map (λ _. next) (slice_index_or contents at None))

-- changes that leave the flag, and the content but for one workspace
module _ (ws : List Workspace) (at : ℕ) (f : Workspace → Workspace) where
  pub same_content : kept_content (f (workspace_at ws at)) ≡ kept_content (workspace_at ws at) → kept_contents (change_workspace ws at f) ≡ kept_contents ws
  same_content e = map-set_same kept_content ws at (f (workspace_at ws at)) no_workspace e

  pub other_content : (next : Content) → (f (workspace_at ws at)).kept ≡ (workspace_at ws at).kept → (f (workspace_at ws at)).current ≡ next
      → kept_contents (change_workspace ws at f) ≡ with_content (kept_contents ws) at next
  other_content next flag current =
      map-set kept_content ws at (f (workspace_at ws at)) ∙ ap (slice_set (kept_contents ws) at) (is ∙ ap (option_map (λ _. next)) (sym (content_at ws at)))
    where
      by : (b : Bool) → cond b (Some next) None ≡ option_map (λ _. next) (cond b (Some (workspace_at ws at).current) None)
      by true = refl
      by false = refl

      is : kept_content (f (workspace_at ws at)) ≡ option_map (λ _. next) (kept_content (workspace_at ws at))
      is = (λ i. cond (flag i) (Some (current i)) None) ∙ by (workspace_at ws at).kept

same_marks : (ws : List Workspace) (at : ℕ) (f : List Mark → List Mark) → kept_contents (change_marks ws at f) ≡ kept_contents ws
same_marks ws zero f = refl
same_marks ws (suc k) f = same_content ws (suc k) (with_marks f) refl

pub after_creating : (ws : List Workspace) (name : Name) (at : ℕ) → kept_contents (after_create ws name at) ≡ kept_contents ws ++ None ∷ []
after_creating ws name at =
    let above = workspace_at ws at in
    map-append kept_content (change_marks ws at (with_mark_of name)) (new_leaf name above.name above.current ∷ [])
    ∙ ap (λ cs. cs ++ None ∷ []) (same_marks ws at (with_mark_of name))

pub after_removing : (ws : List Workspace) (at above : ℕ) → parent_of ws at ≡ Some above → kept_contents (after_remove ws at) ≡ remove (kept_contents ws) at
after_removing ws at above e =
    ap (λ r. kept_contents (at_position ws r (after_remove_under ws at))) e
    ∙ same_content (remove ws at) above (with_marks (without_mark_of (workspace_at ws at).name)) refl ∙ map_remove kept_content ws at

pub after_refreshing : (ws : List Workspace) (at above : ℕ) → parent_of ws at ≡ Some above → above < at
    → kept_contents (after_rebase ws at ways.Refresh)
    ≡ with_content (kept_contents ws) at (taken_over (workspace_at ws above).current (own_changes (workspace_at ws at)))
after_refreshing ws at above e lt = ap (λ r. kept_contents (at_position ws r (after_rebase_under ws at ways.Refresh))) e ∙ by above lt
  where
    moved : (vs : List Workspace) (content : Content) → workspace_at vs at ≡ workspace_at ws at → kept_contents vs ≡ kept_contents ws
        → kept_contents (change_workspace vs at (refresh content)) ≡ with_content (kept_contents ws) at (taken_over content (own_changes (workspace_at ws at)))
    moved vs content same contents =
        other_content vs at (refresh content) (taken_over content (own_changes (workspace_at vs at))) refl refl
        ∙ (λ i. with_content (contents i) at (taken_over content (own_changes (same i))))

    by : (above : ℕ) → above < at → kept_contents (after_refresh ws at above)
        ≡ with_content (kept_contents ws) at (taken_over (workspace_at ws above).current (own_changes (workspace_at ws at)))
    by zero lt = moved ws (workspace_at ws zero).current refl refl
    by (suc k) lt =
        let f = mark_last (workspace_at ws at).name in
        moved (change_marks ws (suc k) f) (workspace_at ws (suc k)).current (later_stays ws at (suc k) (with_marks f (workspace_at ws (suc k))) lt)
        (same_marks ws (suc k) f)

pub after_merging : (ws : List Workspace) (at above : ℕ) → parent_of ws at ≡ Some above
    → kept_contents (after_rebase ws at ways.Merge)
    ≡ with_content (kept_contents ws) above (taken_over (workspace_at ws above).current (own_changes (workspace_at ws at)))
after_merging ws at above e =
    let changed = own_changes (workspace_at ws at) in
    ap (λ r. kept_contents (at_position ws r (after_rebase_under ws at ways.Merge))) e
    ∙ same_content (after_write ws above changed) at with_base_merged refl
    ∙ other_content ws above (λ w. with_current (taken_over w.current changed) w) (taken_over (workspace_at ws above).current changed) refl refl

pub after_resolving : (ws : List Workspace) (at above : ℕ) (cell : CellId) (keep : Keep) → parent_of ws at ≡ Some above
    → kept_contents (after_rebase ws at (ways.OneRow cell keep))
    ≡ with_content (kept_contents ws) at (keep_row cell keep (workspace_at ws above).current (workspace_at ws at)).current
after_resolving ws at above cell keep e =
    let f = keep_row cell keep (workspace_at ws above).current in
    ap (λ r. kept_contents (at_position ws r (after_rebase_under ws at (ways.OneRow cell keep)))) e
    ∙ other_content ws at f (f (workspace_at ws at)).current (flag keep) refl
  where
    flag : (keep : Keep) → (keep_row cell keep (workspace_at ws above).current (workspace_at ws at)).kept ≡ (workspace_at ws at).kept
    flag keeps.Parent = refl
    flag keeps.Child = refl
    flag keeps.Base = refl
