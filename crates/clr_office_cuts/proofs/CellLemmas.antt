-- An office with the rows of some cells has members that changed the same, in conflict at the same cells.
use Rattle.std.proofs.Common.{◌≡◌, ◌∙◌, Bool, true, false, not, ◌&&◌, ◌||◌, cond, List, [], ◌∷◌, refl, sym, ap, Option, Some, None, filter, is_some, map}
use Rattle.std.specs.FinMap as finite
use Rattle.std.specs.FinMap.Entries.{find}
use Rattle.std.specs.Option.{option_map_or}
use Rattle.std.specs.Ordering.{eq_by_cmp}
use Rattle.std.proofs.lemmas.Bool.{false≢true}
use Rattle.clr_rows.specs.declared.cells.CellId.{CellId}
use Rattle.clr_rows.specs.declared.cells.Change.{Change}
use Rattle.clr_rows.specs.declared.rows.Row.{Row}
use Rattle.clr_rows.specs.Cells.{cell_cmp}
use Rattle.clr_rows.specs.Same.{same}
use Rattle.clr_rows.specs.Contents.{Changes, Content, conflicts, is_changed, is_conflict, no_changes, row_at}
use Rattle.clr_rows.proofs.ChangeLemmas.{get-changes, same_changes, tied_self}
use Rattle.clr_workspaces.specs.Marks.{Name}
use Rattle.clr_workspaces.specs.Operations.{own_changes}
use Rattle.clr_workspaces.specs.Workspaces.{Workspace}
use Rattle.clr_steps.specs.Names.{is_live}
use Rattle.clr_steps.specs.Offices.{Office, content_of, find_name, is_kept, stands, workspace}
use Rattle.clr_steps.specs.Quiet.{MergeSet, is_member, is_root}
use Rattle.clr_clearance.specs.MergeSets.{setting_by_position}
use Rattle.clr_cuts.specs.Cuts.{IsCut}
use Rattle.clr_office_cuts.specs.OfficeCuts.{AreRowsAt, IsOfficeCut, IsOfficeOfCells, IsSameMember, IsWorkspaceCut, IsWorkspaceCutIfAny, root_rows}

-- contents -----------------------------------------------------------------------------------------

module _ (cells : CellId → Bool) where
  kept_row : (content part : Content) → AreRowsAt cells content part → (q : CellId) → cells q ≡ true → row_at part q ≡ row_at content q
  kept_row content part cut q e = cut q ∙ ap (λ b. cond b (row_at content q) None) e

  no_row : (content part : Content) → AreRowsAt cells content part → (q : CellId) → cells q ≡ false → row_at part q ≡ None
  no_row content part cut q e = cut q ∙ ap (λ b. cond b (row_at content q) None) e

  same_none : not (same None None) ≡ false
  unfolding same
  same_none = refl

  abbrev found : Option Row → Option Row → Option Change
  found b c = cond (not (same b c)) (Some (record { before = b; after = c })) None

  module _ (w v : Workspace) (cut : IsWorkspaceCut cells w v) where
    unchanged : (q : CellId) → cells q ≡ false → is_changed w.base w.current q ≡ false
    unchanged q e = by (is_changed w.base w.current q) refl
      where
        by : (b : Bool) → is_changed w.base w.current q ≡ b → b ≡ false
        by false k = refl
        by true k = absurd (false≢true (sym e ∙ cut.changed q k))

    same_found : (q : CellId) → found (row_at v.base q) (row_at v.current q) ≡ found (row_at w.base q) (row_at w.current q)
    same_found q = by (cells q) refl
      where
        by : (b : Bool) → cells q ≡ b → found (row_at v.base q) (row_at v.current q) ≡ found (row_at w.base q) (row_at w.current q)
        by true e = λ i. found (kept_row w.base v.base cut.base q e i) (kept_row w.current v.current cut.current q e i)
        by false e = (λ i. found (no_row w.base v.base cut.base q e i) (no_row w.current v.current cut.current q e i))
            ∙ ap (λ b. cond b (Some (record { before = None; after = None })) None) same_none
            ∙ sym (ap (λ b. cond b (Some (record { before = row_at w.base q; after = row_at w.current q })) None) (unchanged q e))

    pub same_own : own_changes v ≡ own_changes w
    same_own = same_changes _ _ (λ q. get-changes v.base v.current q ∙ same_found q ∙ sym (get-changes w.base w.current q))

    -- a cell that the workspace changed is one of these
    pub change_kept : (q : CellId) (change : Change) → finite.get (own_changes w) q ≡ Some change → cells q ≡ true
    change_kept q change e = by (is_changed w.base w.current q) refl
      where
        by : (b : Bool) → is_changed w.base w.current q ≡ b → cells q ≡ true
        by true k = cut.changed q k
        by false k = (let none : None ≡ Some change = sym (get-changes w.base w.current q
            ∙ ap (λ b. cond b (Some (record { before = row_at w.base q; after = row_at w.current q })) None) k) ∙ e in absurd (cc))

-- conflicts ----------------------------------------------------------------------------------------

-- two contents have the same rows at the cells of some changes
abbrev AgreeAt : Content → Content → List (CellId × Change) → Type 0
AgreeAt one other es = (q : CellId) (change : Change) → find cell_cmp q es ≡ Some change → row_at one q ≡ row_at other q

agree_head : (one other : Content) (e : CellId × Change) (es : List (CellId × Change)) → AgreeAt one other (e ∷ es) → row_at one e.0 ≡ row_at other e.0
agree_head one other e es agree = agree e.0 e.1 (ap (λ b. cond b (Some e.1) (find cell_cmp e.0 es)) (tied_self e.0))

agree_tail : (one other : Content) (e : CellId × Change) (es : List (CellId × Change)) → AgreeAt one other (e ∷ es) → AgreeAt one other es
agree_tail one other e es agree q change is = by (eq_by_cmp cell_cmp q e.0) refl
  where
    by : (b : Bool) → eq_by_cmp cell_cmp q e.0 ≡ b → row_at one q ≡ row_at other q
    by true k = agree q e.1 (ap (λ b. cond b (Some e.1) (find cell_cmp q es)) k)
    by false k = agree q change (ap (λ b. cond b (Some e.1) (find cell_cmp q es)) k ∙ is)

same_filter : (one other : Content) (es : List (CellId × Change)) → AgreeAt one other es → filter (is_conflict one) es ≡ filter (is_conflict other) es
same_filter one other [] agree = refl
same_filter one other (e ∷ es) agree = λ i. cond (not (same (agree_head one other e es agree i) e.1.before))
    (e ∷ same_filter one other es (agree_tail one other e es agree) i)
    (same_filter one other es (agree_tail one other e es agree) i)

same_conflicts : (one other : Content) (changed : Changes) → ((q : CellId) (change : Change) → finite.get changed q ≡ Some change
    → row_at one q ≡ row_at other q) → conflicts one changed ≡ conflicts other changed
unfolding conflicts
same_conflicts one other changed agree = ap (map (λ e. e.0)) (same_filter one other (finite.entries changed)
    (λ q change is. agree q change (finite.get-entries changed q ∙ is)))

-- offices ------------------------------------------------------------------------------------------

module _ (cells : CellId → Bool) (whole cut : Office) where
  same_workspace : (name : Name) → IsWorkspaceCutIfAny cells (find_name name whole.workspaces) (find_name name cut.workspaces)
      → IsWorkspaceCutIfAny cells (workspace whole name) (workspace cut name)
  unfolding workspace
  same_workspace name matched = by (is_live name)
    where
      by : (b : Bool) → IsWorkspaceCutIfAny cells (cond b None (find_name name whole.workspaces)) (cond b None (find_name name cut.workspaces))
      by true = tt
      by false = matched

  same_stands : (name : Name) → IsWorkspaceCutIfAny cells (find_name name whole.workspaces) (find_name name cut.workspaces)
      → stands cut name ≡ stands whole name
  unfolding stands
  same_stands name matched = ap (λ b. is_live name || b) (by (find_name name whole.workspaces) (find_name name cut.workspaces) matched)
    where
      by : (w v : Option Workspace) → IsWorkspaceCutIfAny cells w v → is_some v ≡ is_some w
      by None None it = refl
      by None (Some v) it = absurd it
      by (Some w) None it = absurd it
      by (Some w) (Some v) it = refl

  kept_alike : (name : Name) (w v : Option Workspace) → IsWorkspaceCutIfAny cells w v → option_map_or (λ (w : Workspace). w.kept) v false
      ≡ option_map_or (λ (w : Workspace). w.kept) w false
  kept_alike name None None it = refl
  kept_alike name None (Some v) it = absurd it
  kept_alike name (Some w) None it = absurd it
  kept_alike name (Some w) (Some v) it = it.kept

  same_kept : (name : Name) → IsWorkspaceCutIfAny cells (workspace whole name) (workspace cut name) → is_kept cut name ≡ is_kept whole name
  unfolding is_kept
  same_kept name matched = ap (λ b. is_live name || b) (kept_alike name (workspace whole name) (workspace cut name) matched)

  module _ (merge_set : MergeSet) (name : Name) where
    child_alike : (w v : Option Workspace) → IsWorkspaceCutIfAny cells w v → option_map_or (λ (w : Workspace). is_root merge_set w.parent) v false
        ≡ option_map_or (λ (w : Workspace). is_root merge_set w.parent) w false
    child_alike None None it = refl
    child_alike None (Some v) it = absurd it
    child_alike (Some w) None it = absurd it
    child_alike (Some w) (Some v) it = ap (is_root merge_set) it.parent

    changes_alike : (w v : Option Workspace) → IsWorkspaceCutIfAny cells w v → option_map_or own_changes v no_changes ≡ option_map_or own_changes w no_changes
    changes_alike None None it = refl
    changes_alike None (Some v) it = absurd it
    changes_alike (Some w) None it = absurd it
    changes_alike (Some w) (Some v) it = same_own cells w v it

    conflicts_alike : (w v : Option Workspace) → IsWorkspaceCutIfAny cells w v
        → ((u : Workspace) → w ≡ Some u → AreRowsAt cells (content_of whole u.parent) (content_of cut u.parent))
        → option_map_or (λ (w : Workspace). conflicts (content_of cut w.parent) (own_changes w)) v []
        ≡ option_map_or (λ (w : Workspace). conflicts (content_of whole w.parent) (own_changes w)) w []
    conflicts_alike None None it above = refl
    conflicts_alike None (Some v) it above = absurd it
    conflicts_alike (Some w) None it above = absurd it
    conflicts_alike (Some w) (Some v) it above = (λ i. conflicts (content_of cut (it.parent i)) (same_own cells w v it i))
        ∙ same_conflicts (content_of cut w.parent) (content_of whole w.parent) (own_changes w)
        (λ q change e. kept_row cells (content_of whole w.parent) (content_of cut w.parent) (above w refl) q (change_kept cells w v it q change e))

  pub same_member : (merge_set : MergeSet) → IsOfficeOfCells cells whole cut merge_set → (name : Name) → is_member merge_set name ≡ true
      → IsSameMember whole cut merge_set name
  same_member merge_set of_cells name is =
      let matched = same_workspace name (of_cells.members name is) in
      record {
        stands = same_stands name (of_cells.members name is);
        child = ap (λ b. not (is_root merge_set name) && b) (child_alike merge_set name (workspace whole name) (workspace cut name) matched);
        changes = changes_alike merge_set name (workspace whole name) (workspace cut name) matched;
        conflicts = conflicts_alike merge_set name (workspace whole name) (workspace cut name) matched (λ u e. of_cells.above name u is e);
      }

  pub cells_cut : (merge_set : MergeSet) → IsOfficeOfCells cells whole cut merge_set → IsCut (setting_by_position whole merge_set) (root_rows cut merge_set)
      → IsOfficeCut whole cut merge_set
  cells_cut merge_set of_cells rows = record {
    book = of_cells.book;
    kept = same_kept merge_set.root (same_workspace merge_set.root of_cells.root);
    members = same_member merge_set of_cells;
    rows = rows;
  }
