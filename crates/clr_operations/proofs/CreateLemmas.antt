-- A leaf is made, and a workspace refreshed: the parts put together.
use Rattle.std.proofs.Common.{◌≡◌, ℕ, suc, zero, ◌<◌, true, false, List, [], ◌∷◌, ◌++◌, length, filter, Some, None, unwrap_or, refl, ap, sym, subst, ◌∙◌, arith}
use Rattle.std.proofs.Common.{slice_set}
use Rattle.std.proofs.lemmas.List.{length-append, set-append_left}
use Rattle.std.proofs.Math.ListN.{get_or-append}
use Rattle.std.proofs.Math.Seq.{take-length}
use Rattle.std.specs.FinMap as finite
use Rattle.std.specs.Prelude.{remove}
use Rattle.clr_rows.specs.Contents.{Content, Changes, no_rows, over, rows_after}
use Rattle.clr_rows.specs.Names.{is_good_name}
use Rattle.clr_deltas.specs.Differences.{RowsByCell, no_differences, seen_over, put_each, cells_in}
use Rattle.clr_deltas.proofs.DifferenceLemmas.{seen_over-none}
use Rattle.clr_workspaces.specs.Marks.{Name, without_saved, mark_last}
use Rattle.clr_workspaces.specs.Workspaces.{Workspace, no_workspace, workspace_at, find, parent_of}
use Rattle.clr_deltas.specs.Deltas.{Delta, delta_at, delta_changed, leaf, whole_of, content_by_name, wholes, is_stored_child}
use Rattle.clr_deltas.specs.declared.stored_marks.StoredMark.TheVariants as stored
use Rattle.clr_deltas.proofs.Meaning.{name-wholes, named_found}
use Rattle.clr_deltas.proofs.Places.{wholes-push}
use Rattle.clr_contents.specs.SeenRows.{Extends, ChildrenStore}
use Rattle.clr_operations.specs.Moves.{mark_moved}
use Rattle.clr_workspaces.specs.Operations.{change_workspace, with_marks, with_mark_of, change_marks, new_leaf, own_changes, refresh, after_create}
use Rattle.clr_workspaces.specs.Operations.{after_refresh}
use Rattle.clr_workspaces.specs.Roots.{IsRooted}
use Rattle.clr_workspaces.proofs.RootLemmas.{below_current, below_parent, below_rooted, below_stays, rooted_more}
use Rattle.clr_contents.proofs.ReadLemmas.{base-wholes, current-wholes, within_wholes}
use Rattle.clr_operations.proofs.OperationLemmas.{mark_pushed, mark_lasts, restarted}
use Rattle.clr_contents.proofs.SeenRowLemmas.{extends_itself, extends_marks}

-- a leaf at the end --------------------------------------------------------------------------------

whole_leaf : (above : Content) (name parent : Name) → whole_of above (leaf name parent) ≡ new_leaf name parent above
unfolding whole_of
whole_leaf above name parent = λ i. record {
  name = name;
  parent = parent;
  base = seen_over-none above i;
  current =
      (seen_over-none (seen_over above no_differences) ∙ seen_over-none above) i;
  marks = [];
  kept = false;
}

module _ (live : Content) (ls : List Delta) (name : Name) (p : ℕ) (r : IsRooted (wholes live ls)) (lt : p < length ls) where
  abbrev ws : List Workspace
  ws = wholes live ls

  abbrev made : Workspace
  made = new_leaf name (workspace_at ws p).name (workspace_at ws p).current

  abbrev pushed : List Delta
  pushed = ls ++ leaf name (delta_at ls p).name ∷ []

  p_in : p < length (wholes live ls)
  p_in = within_wholes live ls p lt

  pub leaf_made : wholes live (ls ++ leaf name (delta_at ls p).name ∷ []) ≡ wholes live ls
      ++ new_leaf name (workspace_at (wholes live ls) p).name (workspace_at (wholes live ls) p).current ∷ []
  leaf_made =
      let parent = (delta_at ls p).name in
      let found : find ws parent ≡ Some p = ap (find ws) (sym (name-wholes live ls p)) ∙ r.own p p_in in
      let above : content_by_name ws parent ≡ Some (workspace_at ws p).current = ap (λ (vs : List Workspace). content_by_name vs parent) (sym (take-length ws))
      ∙ named_found ws parent p (length ws) found p_in in
      wholes-push live ls (leaf name parent) (omega (arith, lt))
      ∙ ap (λ o. ws ++ whole_of (unwrap_or o no_rows) (leaf name parent) ∷ []) above
      ∙ ap (λ w. ws ++ w ∷ []) (whole_leaf (workspace_at ws p).current name parent
      ∙ ap (λ n. new_leaf name n (workspace_at ws p).current) (sym (name-wholes live ls p)))

  pub created_live : p ≡ 0 → wholes live (ls ++ leaf name (delta_at ls p).name ∷ []) ≡ after_create (wholes live ls) name p
  created_live first = leaf_made ∙ subst (λ k. ws ++ made ∷ [] ≡ change_marks ws k (with_mark_of name) ++ made ∷ []) (sym first) refl

  module _ (absent : find (wholes live ls) name ≡ None) (good : is_good_name name ≡ true) where
    pub pushed_rooted : IsRooted (wholes live (ls ++ leaf name (delta_at ls p).name ∷ []))
    pushed_rooted = subst IsRooted (sym leaf_made) (rooted_more ws made p absent good (r.own p p_in) r)

    pub p_pushed : p < length (ls ++ leaf name (delta_at ls p).name ∷ [])
    p_pushed = let more = length-append ls (leaf name (delta_at ls p).name ∷ []) in omega (arith, more, lt)

    pub created_under : 0 < p → wholes live (delta_changed (ls ++ leaf name (delta_at ls p).name ∷ []) p (λ l. record l {
      marks = l.marks ++ stored.Child name
          ∷ [];
    })) ≡ after_create (wholes live ls) name p
    created_under some =
        mark_pushed live pushed p pushed_rooted some p_pushed (stored.Child name)
        ∙ ap (λ (vs : List Workspace). change_workspace vs p (with_marks (with_mark_of name))) leaf_made
        ∙ ap (λ (w : Workspace). slice_set (ws ++ made ∷ []) p (with_marks (with_mark_of name) w)) (get_or-append ws (made ∷ []) no_workspace p p_in)
        ∙ set-append_left ws (made ∷ []) p _ p_in
        ∙ ap (λ (vs : List Workspace). vs ++ made ∷ []) (below p some)
      where
        below : (q : ℕ) → 0 < q → change_workspace ws q (with_marks (with_mark_of name)) ≡ change_marks ws q (with_mark_of name)
        below zero some = absurd (omega arith)
        below (suc q) some = refl

-- the last of a list goes
pub remove_last : {A : Type 0} (xs : List A) (x : A) → remove (xs ++ x ∷ []) (length xs) ≡ xs
remove_last [] x = refl
remove_last (y ∷ xs) x = ap (λ ys. y ∷ ys) (remove_last xs x)

-- the mark of a child at the end of its parent's -----------------------------------------------------

pub moved_is : (live : Content) (ls : List Delta) (p : ℕ) (child : Name) → IsRooted (wholes live ls) → p < length ls → wholes live (mark_moved ls p child)
    ≡ change_marks (wholes live ls) p (mark_last child)
moved_is live ls zero child r lt = refl
moved_is live ls (suc q) child r lt = mark_lasts live ls (suc q) r (omega arith) lt child

pub moved_extends : (ls : List Delta) (p : ℕ) (child : Name) → p < length ls → Extends ls (mark_moved ls p child)
moved_extends ls zero child lt = extends_itself ls
moved_extends ls (suc q) child lt = extends_marks ls (suc q) _ lt

-- REFRESH: the children hold, and the mark was moved
pub refreshed_is : (live : Content) (ls gs : List Delta) (at p : ℕ) (rows : RowsByCell) (changed : Changes) → IsRooted (wholes live ls) → 0 < at →
    at < length ls
    → at < length gs → parent_of (wholes live ls) at ≡ Some p → p < at
    → wholes live gs ≡ change_marks (wholes live ls) p (mark_last (workspace_at (wholes live ls) at).name)
    → ChildrenStore gs (delta_at gs at).name (cells_in rows) → ChildrenStore gs (delta_at gs at).name (finite.keys (delta_at ls at).base)
    → ChildrenStore gs (delta_at gs at).name (finite.keys (delta_at ls at).current)
    → rows ≡ rows_after changed → changed ≡ own_changes (workspace_at (wholes live ls) at)
    → wholes live (delta_changed gs at (λ l. record l {
      base = no_differences;
      current = put_each no_differences rows;
      marks = filter is_stored_child l.marks;
    })) ≡ after_refresh (wholes live ls) at p
refreshed_is live ls gs at p rows changed r some lt lt_new parent up end held_rows is_stored_in_base held_old after is =
    let ws = wholes live ls in
    let w = workspace_at ws at in
    let vs = wholes live gs in
    let move = mark_last w.name in
    let p_in = within_wholes live ls p (omega (arith, up, lt)) in
    let same : workspace_at vs at ≡ w = ap (λ (xs : List Workspace). workspace_at xs at) end ∙ below_stays ws at p move up in
    let content : (workspace_at vs p).current ≡ (workspace_at ws p).current = ap (λ (xs : List Workspace). (workspace_at xs p).current) end
    ∙ below_current ws at p move up p_in in
    let rooted : IsRooted vs = subst IsRooted (sym end) (below_rooted ws p move r) in
    let parent_new : parent_of vs at ≡ Some p = ap (λ (xs : List Workspace). parent_of xs at) end ∙ below_parent ws p move at ∙ parent in
    restarted live gs at rooted some lt_new p parent_new up rows (delta_at ls at).base (delta_at ls at).current
    (ap (λ (v : Workspace). v.base) same ∙ base-wholes live ls at some lt p parent up ∙ ap (λ m. seen_over m (delta_at ls at).base) (sym content))
    (ap (λ (v : Workspace). v.current) same ∙ current-wholes live ls at some lt ∙ ap (λ (v : Workspace). seen_over v.base (delta_at ls at).current) (sym same))
    held_rows is_stored_in_base held_old
    ∙ (λ i. slice_set (end i) at (let v = same i in record v {
      base = content i;
      current = over (content i) ((after ∙ ap rows_after is) i);
      marks =
          without_saved v.marks;
    }))
    ∙ ap (λ (v : Workspace). slice_set (change_marks ws p move) at (refresh (workspace_at ws p).current v)) (sym (below_stays ws at p move up))
