-- What keeps deltas without neutral differences.
use Rattle.std.proofs.Common.{◌≡◌, ◌≢◌, ℕ, suc, zero, ◌<◌, ⊎_elim, Bool, true, false, cond, List, [], ◌∷◌, length, Some, None, unwrap_or, refl, ap, sym}
use Rattle.std.proofs.Common.{subst, ◌∙◌, slice_set, filter, not, nat_lt, ◌++◌, arith, remove, take}
use Rattle.std.specs.declared.option.Option.{Option}
use Rattle.std.specs.FinMap as finite
use Rattle.std.specs.Cmp.Lexicographic.{bytes_decides}
use Rattle.std.proofs.lemmas.Bool.{cases_eq, ltb-true, ltb-false}
use Rattle.std.proofs.lemmas.List.{get_or-set_same, get_or-set_other, length-set, length-append}
use Rattle.clr_rows.specs.declared.cells.CellId.{CellId}
use Rattle.clr_rows.specs.declared.rows.Row.{Row}
use Rattle.clr_rows.specs.Cells.{cell_cmp}
use Rattle.clr_rows.specs.Contents.{Content, no_rows, row_at, set_cell, over, rows_after}
use Rattle.clr_rows.proofs.ChangeLemmas.{row-set_cell}
use Rattle.clr_deltas.specs.Differences.{Differences, RowsByCell, no_differences, put_each, cells_in, is_among, IsOwnOver}
use Rattle.clr_deltas.proofs.DifferenceLemmas.{row-seen_over, not_among, put_elsewhere, put_each_elsewhere, taken_elsewhere}
use Rattle.clr_workspaces.specs.Marks.{Name, Mark, is_saved, mark_at, saved_content, mark_last, without_mark_of}
use Rattle.clr_contents.proofs.MarkLemmas.{saved_there}
use Rattle.clr_workspaces.proofs.FindLemmas.{find_more}
use Rattle.clr_workspaces.specs.Workspaces.{Workspace, no_workspace, workspace_at, find, parent_of, children_of}
use Rattle.clr_deltas.specs.Deltas.{Delta, no_delta, leaf, delta_at, delta_changed, stored_at, saved_differences, stored_without_mark_of, is_stored_mark_of}
use Rattle.clr_deltas.specs.Deltas.{whole_mark, wholes, is_stored_child, restarted_with, rows_taken_over, AreOwnOver, IsUnder}
use Rattle.clr_deltas.specs.declared.stored_marks.StoredMark.{StoredMark}
use Rattle.clr_deltas.specs.declared.stored_marks.StoredMark.TheVariants as kinds
use Rattle.clr_deltas.proofs.Meaning.{length-wholes, name-wholes, parent-wholes}
use Rattle.clr_contents.specs.SeenRows.{StaysOwnAt, StayOwnBut, StayOwnButChildren}
use Rattle.clr_contents.proofs.SeenRowLemmas.{but_itself, but_marks, but_set, own_both}
use Rattle.std.proofs.Math.ListN.{get_or, get_or-map, get_or-append}
use Rattle.std.proofs.Math.Seq.{map-set_same, get_or-append_seam}
use Rattle.clr_workspaces.specs.Operations.{own_changes, with_base_merged, after_merge, after_write, with_kept, with_marks, roll_all, new_leaf, keep_row}
use Rattle.clr_workspaces.specs.Operations.{refresh, roll_to, change_marks, after_refresh, after_resolve, after_roll_to}
use Rattle.clr_workspaces.specs.declared.rebases.Keep.{Keep}
use Rattle.clr_workspaces.specs.declared.rebases.Keep.TheVariants as keeps
use Rattle.clr_operations.proofs.OperationLemmas.{kept_set, mark_removed, mark_pushed, all_rolled}
use Rattle.clr_workspaces.proofs.RootLemmas.{below_parent, below_stays}
use Rattle.clr_operations.proofs.CreateLemmas.{leaf_made}
use Rattle.clr_operations.proofs.LeafLemmas.{any_dropped, gone, no_child_whole}
use Rattle.clr_workspaces.proofs.LeafLemmas.{parent_removed, opened, closed_at, opened-closed, opened-later, was_at, was_in, read_removed}
use Rattle.clr_workspaces.specs.Roots.{IsRooted}
use Rattle.clr_contents.proofs.ReadLemmas.{within_wholes, within_deltas, under_its_parent, marks-wholes, row-base, row-current}
use Rattle.clr_contents.specs.Lean.{IsLeanAt, IsLean, IsLeanBut, StayOwnButNear, row_above}
use Rattle.clr_operations.specs.Moves.{mark_moved, put_into}
use Rattle.clr_contents.specs.Lean.{content_above}
use Rattle.clr_contents.proofs.LeanLemmas.{own_none}
use Rattle.clr_workspaces.proofs.RootLemmas.{parent_set, rooted_set}

-- what keeps deltas so -----------------------------------------------------------------------------

lean_stays : (above : Option Row) (l m : Delta) (q : CellId) → StaysOwnAt q l m → IsLeanAt above l q → IsLeanAt above m q
lean_stays above l m q stay was = record {
  base = subst (IsOwnOver above) (sym stay.base) was.base;
  current = subst (λ (e : Option (Option Row)). IsOwnOver (unwrap_or e above) (finite.get m.current q)) (sym stay.base) (stay.current _ was.current);
  saved = subst (λ (e : Option (Option Row)). AreOwnOver (unwrap_or e above) q m.marks) (sym stay.base) (stay.saved _ was.saved);
}

-- what keeps a delta so at a cell, whatever the row above is
abbrev pub Keeps : CellId → Delta → Delta → Type 0
Keeps q l m = (above : Option Row) → IsLeanAt above l q → IsLeanAt above m q

parent_is : (live : Content) (ls : List Delta) (w k : ℕ) → IsRooted (wholes live ls) → w < length ls → IsUnder (delta_at ls w).name (delta_at ls k)
    → parent_of (wholes live ls) k ≡ Some w
parent_is live ls w k r lt under =
    let ws = wholes live ls in
    ap (find ws) (parent-wholes live ls k ∙ sym ((bytes_decides _ _).0 under) ∙ sym (name-wholes live ls w)) ∙ r.own w (within_wholes live ls w lt)

-- rows of parents, where only one content changes, at some cells
abbrev pub RowsStay : ℕ → List CellId → List Workspace → List Workspace → Type 0
RowsStay w cells ws vs = (p : ℕ) (q : CellId) → (p ≡ w → is_among cells q ≡ false) → row_at (workspace_at vs p).current q ≡ row_at (workspace_at ws p).current q

rows_above : (ws vs : List Workspace) (w : ℕ) (cells : List CellId) (k : ℕ) (q : CellId) → parent_of vs k ≡ parent_of ws k → RowsStay w cells ws vs
    → (parent_of ws k ≡ Some w → is_among cells q ≡ false) → row_above vs k q ≡ row_above ws k q
rows_above ws vs w cells k q parent rows apart = ap (λ o. row_at (content_above vs o) q) parent ∙ by (parent_of ws k) refl
  where
    by : (o : Option ℕ) → parent_of ws k ≡ o → row_at (content_above vs o) q ≡ row_at (content_above ws o) q
    by None e = refl
    by (Some p) e = rows p q (λ same. apart (e ∙ ap (λ (n : ℕ). Some n) same))

pub lean_but : (live next : Content) (ls ms : List Delta) (w : ℕ) (cells : List CellId) → IsRooted (wholes live ls) → w < length ls → length ms ≡ length ls
    → ((k : ℕ) → parent_of (wholes next ms) k ≡ parent_of (wholes live ls) k) → RowsStay w cells (wholes live ls) (wholes next ms)
    → StayOwnButNear w cells ls ms
    → IsLean live ls → IsLeanBut w cells next ms
lean_but live next ls ms w cells r lt long parents rows stay lean k some k_lt q beside =
    let ws = wholes live ls in
    let vs = wholes next ms in
    let under : parent_of ws k ≡ Some w → is_among cells q ≡ false = λ e. beside.under (parents k ∙ e) in
    subst (λ (row : Option Row). IsLeanAt row (delta_at ms k) q) (sym (rows_above ws vs w cells k q (parents k) rows under))
    (lean_stays (row_above ws k q) (delta_at ls k) (delta_at ms k) q (stay k q beside.other (λ u. under (parent_is live ls w k r lt u)))
    (lean k some (subst (λ n. k < n) long k_lt) q))

-- no content has changed
pub lean_still : (live next : Content) (ls ms : List Delta) (w : ℕ) (cells : List CellId) → IsRooted (wholes live ls) → w < length ls → wholes next ms
    ≡ wholes live ls → StayOwnButNear w cells ls ms
    → IsLean live ls → IsLeanBut w cells next ms
lean_still live next ls ms w cells r lt is stay =
    lean_but live next ls ms w cells r lt (sym (length-wholes next ms) ∙ ap (λ (ws : List Workspace). length ws) is ∙ length-wholes live ls)
    (λ k. ap (λ (ws : List Workspace). parent_of ws k) is) (λ p q apart. ap (λ (ws : List Workspace). row_at (workspace_at ws p).current q) is) stay

-- rows put into one
over_elsewhere : (rows : RowsByCell) (m : Content) (q : CellId) → is_among (cells_in rows) q ≡ false → row_at (over m rows) q ≡ row_at m q
unfolding over
over_elsewhere [] m q apart = refl
over_elsewhere (e ∷ es) m q apart =
    let both = not_among e.0 (cells_in es) q apart in
    over_elsewhere es (set_cell m e.0 e.1) q both.1 ∙ row-set_cell m e.0 e.1 q ∙ ap (λ b. cond b e.1 (row_at m q)) both.0

pub rows_set : (ws : List Workspace) (w : ℕ) (x : Workspace) (cells : List CellId) → w < length ws → ((q : CellId) → is_among cells q ≡ false
    → row_at x.current q ≡ row_at (workspace_at ws w).current q) → RowsStay w cells ws (slice_set ws w x)
rows_set ws w x cells lt same p q apart = ⊎_elim
    (λ (e : p ≡ w). subst (λ j. row_at (workspace_at (slice_set ws w x) j).current q ≡ row_at (workspace_at ws j).current q) (sym e)
    (ap (λ (v : Workspace). row_at v.current q) (get_or-set_same ws w x no_workspace lt) ∙ same q (apart e)))
    (λ (n : p ≢ w). ap (λ (v : Workspace). row_at v.current q) (get_or-set_other ws w p x no_workspace n))
    (cases_eq p w)

pub rows_put : (ws : List Workspace) (w : ℕ) (rows : RowsByCell) → w < length ws → RowsStay w (cells_in rows) ws (put_into ws w rows)
rows_put ws w rows lt = rows_set ws w _ (cells_in rows) lt (λ q apart. over_elsewhere rows (workspace_at ws w).current q apart)

pub lean_put : (live next : Content) (ls ms : List Delta) (w : ℕ) (rows : RowsByCell) → IsRooted (wholes live ls) → w < length ls → length ms ≡ length ls
    → wholes next ms ≡ put_into (wholes live ls) w rows → StayOwnButNear w (cells_in rows) ls ms
    → IsLean live ls → IsLeanBut w (cells_in rows) next ms
lean_put live next ls ms w rows r lt long is stay =
    let ws = wholes live ls in
    lean_but live next ls ms w (cells_in rows) r lt long
    (λ k. ap (λ (vs : List Workspace). parent_of vs k) is ∙ parent_set ws w _ refl refl k)
    (subst (RowsStay w (cells_in rows) ws) (sym is) (rows_put ws w rows (within_wholes live ls w lt))) stay

-- parts of operations ------------------------------------------------------------------------------

pub near_children : (at : ℕ) (cells qs : List CellId) (ls ms : List Delta) → qs ≡ cells → StayOwnButChildren (delta_at ls at).name qs ls ms
    → StayOwnButNear at cells ls ms
near_children at cells qs ls ms is stay k q other under = stay k q (λ u. ap (λ (cs : List CellId). is_among cs q) is ∙ under u)

pub near_own : (at : ℕ) (cells qs : List CellId) (ls ms ns : List Delta) → qs ≡ cells → StayOwnButNear at cells ls ms → StayOwnBut at qs ms ns
    → StayOwnButNear at cells ls ns
near_own at cells qs ls ms ns is a b k q other under =
    own_both q (delta_at ls k) (delta_at ms k) (delta_at ns k) (a k q other under) (b k q (λ e. ap (λ (cs : List CellId). is_among cs q) is ∙ other e))

-- a child of the one at a position
pub near_child : (at p : ℕ) (cells : List CellId) (ls ms ns : List Delta) → IsUnder (delta_at ls p).name (delta_at ls at) → StayOwnButNear p cells ls ms
    → StayOwnBut at cells ms ns → StayOwnButNear p cells ls ns
near_child at p cells ls ms ns is_child a b k q other under =
    own_both q (delta_at ls k) (delta_at ms k) (delta_at ns k) (a k q other under)
    (b k q (λ e. under (subst (λ j. IsUnder (delta_at ls p).name (delta_at ls j)) (sym e) is_child)))

marks_left : (p : StoredMark → Bool) (row : Option Row) (q : CellId) (ms : List StoredMark) → AreOwnOver row q ms → AreOwnOver row q (filter p ms)
marks_left p row q [] own = tt
marks_left p row q (m ∷ ms) own = by (p m) (own.0, tt) (marks_left p row q ms own.1)
  where
    by : (b : Bool) → AreOwnOver row q (m ∷ []) → AreOwnOver row q (filter p ms) → AreOwnOver row q (cond b (m ∷ filter p ms) (filter p ms))
    by true one rest = (one.0, rest)
    by false one rest = rest

pub but_taken_over : (ls : List Delta) (at : ℕ) (rows : RowsByCell) → at < length ls →
    StayOwnBut at (cells_in rows) ls (delta_changed ls at (rows_taken_over rows))
but_taken_over ls at rows lt = but_set ls at _ (cells_in rows) lt (λ q apart. record {
  base = put_each_elsewhere rows (delta_at ls at).base q apart;
  current = λ row own. own_none row q;
  saved = λ row own. marks_left is_stored_child row q (delta_at ls at).marks own;
})

-- a change of one workspace that leaves its content
pub current_stays : (ws : List Workspace) (at : ℕ) (w : Workspace) → w.current ≡ (workspace_at ws at).current → (p : ℕ)
    → (workspace_at (slice_set ws at w) p).current ≡ (workspace_at ws p).current
current_stays ws at w e p =
    sym (get_or-map (λ (v : Workspace). v.current) (slice_set ws at w) p no_workspace)
    ∙ ap (λ (cs : List Content). get_or cs p no_rows) (map-set_same (λ (v : Workspace). v.current) ws at w no_workspace e)
    ∙ get_or-map (λ (v : Workspace). v.current) ws p no_workspace

pub rows_merged : (ws : List Workspace) (at p : ℕ) → p < length ws → RowsStay p (cells_in (rows_after (own_changes (workspace_at ws at)))) ws
    (after_merge ws at p)
rows_merged ws at p lt i q apart =
    let vs = after_write ws p (own_changes (workspace_at ws at)) in
    ap (λ (m : Content). row_at m q) (current_stays vs at (with_base_merged (workspace_at vs at)) refl i)
    ∙ rows_put ws p (rows_after (own_changes (workspace_at ws at))) lt i q apart

pub lean_merged : (live next : Content) (ls ms : List Delta) (at p : ℕ) → IsRooted (wholes live ls) → p < length ls → length ms ≡ length ls → wholes next ms
    ≡ after_merge (wholes live ls) at p
    → StayOwnButNear p (cells_in (rows_after (own_changes (workspace_at (wholes live ls) at)))) ls ms → IsLean live ls
    → IsLeanBut p (cells_in (rows_after (own_changes (workspace_at (wholes live ls) at)))) next ms
lean_merged live next ls ms at p r lt long is stay =
    let ws = wholes live ls in
    let cells = cells_in (rows_after (own_changes (workspace_at ws at))) in
    let vs = after_write ws p (own_changes (workspace_at ws at)) in
    lean_but live next ls ms p cells r lt long
    (λ k. ap (λ (us : List Workspace). parent_of us k) is ∙ parent_set vs at _ refl refl k ∙ parent_set ws p _ refl refl k)
    (subst (RowsStay p cells ws) (sym is) (rows_merged ws at p (within_wholes live ls p lt))) stay

-- other operations ---------------------------------------------------------------------------------

rows_same : (ws vs : List Workspace) (k : ℕ) (q : CellId) → parent_of vs k ≡ parent_of ws k → ((p : ℕ) → parent_of ws k ≡ Some p → (workspace_at vs p).current
    ≡ (workspace_at ws p).current) → row_above vs k q ≡ row_above ws k q
rows_same ws vs k q parent same = ap (λ o. row_at (content_above vs o) q) parent ∙ by (parent_of ws k) same
  where
    by : (o : Option ℕ) → ((p : ℕ) → o ≡ Some p → (workspace_at vs p).current ≡ (workspace_at ws p).current) → row_at (content_above vs o) q
        ≡ row_at (content_above ws o) q
    by None same = refl
    by (Some p) same = ap (λ (m : Content). row_at m q) (same p refl)

-- one delta changes, and no content that another lies over
lean_one : (live : Content) (ls : List Delta) (at : ℕ) (m : Delta) (w : Workspace) → at < length ls → wholes live (slice_set ls at m)
    ≡ slice_set (wholes live ls) at w
    → w.name ≡ (workspace_at (wholes live ls) at).name → w.parent ≡ (workspace_at (wholes live ls) at).parent
    → ((k p : ℕ) → 0 < k → k < length ls → parent_of (wholes live ls) k ≡ Some p → (workspace_at (slice_set (wholes live ls) at w) p).current
    ≡ (workspace_at (wholes live ls) p).current)
    → ((q : CellId) → Keeps q (delta_at ls at) m) → IsLean live ls → IsLean live (slice_set ls at m)
lean_one live ls at m w lt is name parent same keep lean k some k_lt q =
    let ws = wholes live ls in
    let k_in : k < length ls = subst (λ n. k < n) (length-set ls at m) k_lt in
    let row = ap (λ (vs : List Workspace). row_above vs k q) is ∙ rows_same ws (slice_set ws at w) k q (parent_set ws at w name parent k)
    (λ p e. same k p some k_in e) in
    subst (λ (v : Option Row). IsLeanAt v (delta_at (slice_set ls at m) k) q) (sym row)
    (⊎_elim
    (λ (e : k ≡ at). subst (λ j. IsLeanAt (row_above ws k q) (delta_at (slice_set ls at m) j) q) (sym e)
    (subst (λ (l : Delta). IsLeanAt (row_above ws k q) l q) (sym (get_or-set_same ls at m no_delta lt))
    (keep q (row_above ws k q) (subst (λ j. IsLeanAt (row_above ws k q) (delta_at ls j) q) e (lean k some k_in q)))))
    (λ (n : k ≢ at). subst (λ (l : Delta). IsLeanAt (row_above ws k q) l q) (sym (get_or-set_other ls at k m no_delta n)) (lean k some k_in q))
    (cases_eq k at))

marks_more : (row : Option Row) (q : CellId) (ms : List StoredMark) (m : StoredMark) → AreOwnOver row q ms → IsOwnOver row (finite.get (saved_differences m) q)
    → AreOwnOver row q (ms ++ m ∷ [])
marks_more row q [] m own one = (one, tt)
marks_more row q (n ∷ ms) m own one = (own.0, marks_more row q ms m own.1 one)

marks_without : (row : Option Row) (q : CellId) (ms : List StoredMark) (i : ℕ) → AreOwnOver row q ms → AreOwnOver row q (remove ms i)
marks_without row q [] zero own = tt
marks_without row q [] (suc i) own = tt
marks_without row q (m ∷ ms) zero own = own.1
marks_without row q (m ∷ ms) (suc i) own = (own.0, marks_without row q ms i own.1)

module _ (live : Content) (ls : List Delta) (at : ℕ) (r : IsRooted (wholes live ls)) (some : 0 < at) (lt : at < length ls) where
  abbrev here : Workspace
  here = workspace_at (wholes live ls) at

  -- a change of the marks or the flag
  still : (w : Workspace) → w.current ≡ (workspace_at (wholes live ls) at).current → (k p : ℕ) → 0 < k → k < length ls → parent_of (wholes live ls) k ≡ Some p
      → (workspace_at (slice_set (wholes live ls) at w) p).current ≡ (workspace_at (wholes live ls) p).current
  still w e k p k_some k_lt parent = current_stays (wholes live ls) at w e p

  pub lean_flag : (kept : Bool) → IsLean live ls → IsLean live (delta_changed ls at (λ l. record l { kept = kept }))
  lean_flag kept = lean_one live ls at _ (with_kept kept here) lt (kept_set live ls at r some lt kept) refl refl (still _ refl)
      (λ q above own. record { base = own.base; current = own.current; saved = own.saved })

  pub lean_unmarked : (i : ℕ) → IsLean live ls → IsLean live (delta_changed ls at (λ l. record l { marks = remove l.marks i }))
  lean_unmarked i = lean_one live ls at _ (with_marks (λ ms. remove ms i) here) lt (mark_removed live ls at r some lt i) refl refl (still _ refl)
      (λ q above own. record { base = own.base; current = own.current; saved = marks_without _ q (delta_at ls at).marks i own.saved })

  lean_pushed : (m : StoredMark) → ((above : Option Row) (q : CellId) → IsLeanAt above (delta_at ls at) q
      → IsOwnOver (unwrap_or (finite.get (delta_at ls at).base q) above) (finite.get (saved_differences m) q))
      → IsLean live ls → IsLean live (delta_changed ls at (λ l. record l { marks = l.marks ++ m ∷ [] }))
  lean_pushed m one = lean_one live ls at _ (record here { marks = here.marks ++ whole_mark here.base m ∷ [] }) lt (mark_pushed live ls at r some lt m) refl
      refl (still _ refl)
      (λ q above own. record { base = own.base; current = own.current; saved = marks_more _ q (delta_at ls at).marks m own.saved (one above q own) })

  pub lean_marked : (name : Name) → IsLean live ls
      → IsLean live (delta_changed ls at (λ l. record l { marks = l.marks ++ kinds.Saved name (delta_at ls at).current ∷ [] }))
  lean_marked name = lean_pushed (kinds.Saved name (delta_at ls at).current) (λ above q own. own.current)

  pub lean_child : (name : Name) → IsLean live ls → IsLean live (delta_changed ls at (λ l. record l { marks = l.marks ++ kinds.Child name ∷ [] }))
  lean_child name = lean_pushed (kinds.Child name) (λ above q own. own_none _ q)

  pub lean_rolled_all : ((k : ℕ) → 0 < k → k < length ls → IsUnder (delta_at ls at).name (delta_at ls k) → ⊥) → IsLean live ls
      → IsLean live (delta_changed ls at (λ l. record l { current = no_differences; marks = filter is_stored_child l.marks }))
  lean_rolled_all none = lean_one live ls at _ (roll_all here) lt (all_rolled live ls at r some lt none) refl refl
      (λ k p k_some k_lt e. let other : p ≢ at = λ same. none k k_some k_lt (under_its_parent live ls k at (e ∙ ap (λ (n : ℕ). Some n) same)) in
      ap (λ (v : Workspace). v.current) (get_or-set_other (wholes live ls) at p (roll_all here) no_workspace other))
      (λ q above own. record { base = own.base; current = own_none _ q; saved = marks_left is_stored_child _ q (delta_at ls at).marks own.saved })

-- the mark of a child goes
pub lean_dropped : (live : Content) (ls : List Delta) (p : ℕ) (child : Name) → IsRooted (wholes live ls) → p < length ls → IsLean live ls
    → IsLean live (delta_changed ls p (λ l. record l { marks = stored_without_mark_of child l.marks }))
lean_dropped live ls p child r lt =
    let w = with_marks (without_mark_of child) (workspace_at (wholes live ls) p) in
    lean_one live ls p _ w lt (any_dropped live ls p child r lt) refl refl (λ k i k_some k_lt e. current_stays (wholes live ls) p w refl i)
    (λ q above own. record {
      base = own.base;
      current = own.current;
      saved = marks_left (λ m. not (is_stored_mark_of child m)) _ q (delta_at ls p).marks
          own.saved;
    })

-- a new leaf
pub lean_leaf : (live : Content) (ls : List Delta) (name : Name) (p : ℕ) → IsRooted (wholes live ls) → p < length ls → IsLean live ls
    → IsLean live (ls ++ leaf name (delta_at ls p).name ∷ [])
lean_leaf live ls name p r lt lean k some k_lt q = by (nat_lt k (length ls)) refl
  where
    by : (b : Bool) → nat_lt k (length ls) ≡ b → IsLeanAt (row_above (wholes live (ls ++ leaf name (delta_at ls p).name ∷ [])) k q) (delta_at (ls
        ++ leaf name (delta_at ls p).name ∷ []) k) q
    by true e =
        let ws = wholes live ls in
        let w = new_leaf name (workspace_at ws p).name (workspace_at ws p).current in
        let k_in : k < length ls = ltb-true k (length ls) e in
        let k_ws = within_wholes live ls k k_in in
        let up = r.under k some k_ws in
        let up_in : up.0 < length ws = let less = up.2 in omega (arith, less, k_ws) in
        let old : workspace_at (ws ++ w ∷ []) k ≡ workspace_at ws k = get_or-append ws (w ∷ []) no_workspace k k_ws in
        let parent : parent_of (ws ++ w ∷ []) k ≡ Some up.0 = ap (λ (v : Workspace). find (ws ++ w ∷ []) v.parent) old ∙ find_more ws w _ up.0 up.1 in
        let row : row_above (wholes live (ls ++ leaf name (delta_at ls p).name ∷ [])) k q ≡ row_above ws k q =
        ap (λ (vs : List Workspace). row_above vs k q) (leaf_made live ls name p r lt)
        ∙ ap (λ o. row_at (content_above (ws ++ w ∷ []) o) q) parent
        ∙ ap (λ (v : Workspace). row_at v.current q) (get_or-append ws (w ∷ []) no_workspace up.0 up_in)
        ∙ sym (ap (λ o. row_at (content_above ws o) q) up.1) in
        subst (λ (v : Option Row). IsLeanAt v (delta_at (ls ++ leaf name (delta_at ls p).name ∷ []) k) q) (sym row)
        (subst (λ (l : Delta). IsLeanAt (row_above ws k q) l q) (sym (get_or-append ls (leaf name (delta_at ls p).name ∷ []) no_delta k k_in))
        (lean k some k_in q))
    by false e =
        let le = ltb-false k (length ls) e in
        let more = length-append ls (leaf name (delta_at ls p).name ∷ []) in
        let last : k ≡ length ls = omega (arith, le, more, k_lt) in
        subst (λ (l : Delta). IsLeanAt (row_above (wholes live (ls ++ leaf name (delta_at ls p).name ∷ [])) k q) l q)
        (sym (ap (delta_at (ls ++ leaf name (delta_at ls p).name ∷ [])) last ∙ get_or-append_seam ls (leaf name (delta_at ls p).name) [] no_delta))
        (record { base = own_none _ q; current = own_none _ q; saved = tt })

-- a leaf goes
pub lean_removed : (live : Content) (ls : List Delta) (at p : ℕ) → IsRooted (wholes live ls) → 0 < at → at < length ls
    → children_of (wholes live ls) (workspace_at (wholes live ls) at).name ≡ 0 → p < at → IsLean live ls → IsLean live (remove ls at)
lean_removed live ls at p r some lt none up lean k later k_lt q =
    let ws = wholes live ls in
    let at_ws = within_wholes live ls at lt in
    let free = no_child_whole live ls at none in
    let is = gone live ls at p r some lt none up in
    let k_ws : k < length (remove ws at) = subst (λ (vs : List Workspace). k < length vs) is (within_wholes live (remove ls at) k k_lt) in
    let f = parent_removed ws at r some at_ws free k later k_ws in
    let j = opened at k in
    let row : row_above (wholes live (remove ls at)) k q ≡ row_above ws j q =
    ap (λ (vs : List Workspace). row_above vs k q) is
    ∙ ap (λ o. row_at (content_above (remove ws at) o) q) f.4
    ∙ ap (λ (v : Workspace). row_at v.current q) (was_at ws at r some at_ws free (closed_at at f.0) ∙ ap (workspace_at ws) (opened-closed at f.0 f.3))
    ∙ sym (ap (λ o. row_at (content_above ws o) q) f.1) in
    let j_in : j < length ls = within_deltas live ls j (was_in ws at r some at_ws free k k_ws) in
    subst (λ (v : Option Row). IsLeanAt v (delta_at (remove ls at) k) q) (sym row)
    (subst (λ (l : Delta). IsLeanAt (row_above ws j q) l q) (sym (read_removed ls at k no_delta lt)) (lean j (opened-later at k later) j_in q))

pub rooted_resolved : (ws : List Workspace) (at p : ℕ) (cell : CellId) (keep : Keep) → IsRooted ws → IsRooted (after_resolve ws at p cell keep)
rooted_resolved ws at p cell keeps.Parent r = rooted_set ws at (keep_row cell keeps.Parent (workspace_at ws p).current (workspace_at ws at)) refl refl r
rooted_resolved ws at p cell keeps.Child r = rooted_set ws at (keep_row cell keeps.Child (workspace_at ws p).current (workspace_at ws at)) refl refl r
rooted_resolved ws at p cell keeps.Base r = rooted_set ws at (keep_row cell keeps.Base (workspace_at ws p).current (workspace_at ws at)) refl refl r

-- one cell resolved --------------------------------------------------------------------------------

pub near_at : (at : ℕ) (cells : List CellId) (ls ms : List Delta) → StayOwnBut at cells ls ms → StayOwnButNear at cells ls ms
near_at at cells ls ms stay k q other under = stay k q other

pub but_base_taken : (ls : List Delta) (at : ℕ) (k : CellId) → at < length ls
    → StayOwnBut at (k ∷ []) ls (delta_changed ls at (λ l. record l { base = finite.remove l.base k }))
but_base_taken ls at k lt = but_set ls at _ (k
    ∷ []) lt (λ q apart. record { base = taken_elsewhere (delta_at ls at).base k q apart; current = λ row own. own; saved = λ row own. own })

pub but_row_moved : (ls : List Delta) (at : ℕ) (k : CellId) (v : Option Row) → at < length ls
    → StayOwnBut at (k ∷ []) ls (delta_changed ls at (λ l. record l { base = finite.remove l.base k; current = finite.insert l.current k v }))
but_row_moved ls at k v lt = but_set ls at _ (k ∷ []) lt (λ q apart. record {
  base = taken_elsewhere (delta_at ls at).base k q apart;
  current = λ row own. subst (IsOwnOver row) (sym (put_elsewhere (delta_at ls at).current k v q apart)) own;
  saved = λ row own. own;
})

cell_elsewhere : (m : Content) (k : CellId) (v : Option Row) (q : CellId) → is_among (k ∷ []) q ≡ false → row_at (set_cell m k v) q ≡ row_at m q
cell_elsewhere m k v q apart = row-set_cell m k v q ∙ ap (λ b. cond b v (row_at m q)) (not_among k [] q apart).0

rows_resolved : (ws : List Workspace) (at p : ℕ) (cell : CellId) (keep : Keep) → at < length ws → RowsStay at (cell ∷ []) ws (after_resolve ws at p cell keep)
rows_resolved ws at p cell keeps.Parent lt = rows_set ws at (keep_row cell keeps.Parent (workspace_at ws p).current (workspace_at ws at)) (cell
    ∷ []) lt (λ q apart. cell_elsewhere (workspace_at ws at).current cell _ q apart)
rows_resolved ws at p cell keeps.Child lt = rows_set ws at (keep_row cell keeps.Child (workspace_at ws p).current (workspace_at ws at)) (cell
    ∷ []) lt (λ q apart. refl)
rows_resolved ws at p cell keeps.Base lt = rows_set ws at (keep_row cell keeps.Base (workspace_at ws p).current (workspace_at ws at)) (cell
    ∷ []) lt (λ q apart. cell_elsewhere (workspace_at ws at).current cell _ q apart)

parent_resolved : (ws : List Workspace) (at p : ℕ) (cell : CellId) (keep : Keep) (k : ℕ) → parent_of (after_resolve ws at p cell keep) k ≡ parent_of ws k
parent_resolved ws at p cell keeps.Parent k = parent_set ws at (keep_row cell keeps.Parent (workspace_at ws p).current (workspace_at ws at)) refl refl k
parent_resolved ws at p cell keeps.Child k = parent_set ws at (keep_row cell keeps.Child (workspace_at ws p).current (workspace_at ws at)) refl refl k
parent_resolved ws at p cell keeps.Base k = parent_set ws at (keep_row cell keeps.Base (workspace_at ws p).current (workspace_at ws at)) refl refl k

pub lean_resolved : (live : Content) (ls ms : List Delta) (at p : ℕ) (cell : CellId) (keep : Keep) → IsRooted (wholes live ls) → at < length ls → length ms
    ≡ length ls → wholes live ms ≡ after_resolve (wholes live ls) at p cell keep
    → StayOwnButNear at (cell ∷ []) ls ms → IsLean live ls → IsLeanBut at (cell ∷ []) live ms
lean_resolved live ls ms at p cell keep r lt long is stay =
    let ws = wholes live ls in
    lean_but live live ls ms at (cell ∷ []) r lt long
    (λ k. ap (λ (us : List Workspace). parent_of us k) is ∙ parent_resolved ws at p cell keep k)
    (subst (RowsStay at (cell ∷ []) ws) (sym is) (rows_resolved ws at p cell keep (within_wholes live ls at lt))) stay

-- a savepoint's content --------------------------------------------------------------------------------

own_absent : (row : Option Row) (d : Differences) (q : CellId) → finite.get d q ≡ None → IsOwnOver row (finite.get d q)
own_absent row d q none = subst (IsOwnOver row) (sym none) refl

marks_taken : (row : Option Row) (q : CellId) (n : ℕ) (ms : List StoredMark) → AreOwnOver row q ms → AreOwnOver row q (take n ms)
marks_taken row q zero ms own = tt
marks_taken row q (suc n) [] own = tt
marks_taken row q (suc n) (m ∷ ms) own = (own.0, marks_taken row q n ms own.1)

pub but_rolled : (ls : List Delta) (at : ℕ) (d : Differences) (n : ℕ) (cells : List CellId) → at < length ls → ((q : CellId) → is_among cells q ≡ false
    → finite.get d q ≡ None)
    → StayOwnBut at cells ls (delta_changed ls at (λ l. record l { current = d; marks = take n l.marks }))
but_rolled ls at d n cells lt none = but_set ls at _ cells lt (λ q apart. record {
  base = refl;
  current = λ row own. own_absent row d q (none q apart);
  saved =
      λ row own. marks_taken row q n (delta_at ls at).marks own;
})

module _ (live : Content) (ls : List Delta) (at : ℕ) (r : IsRooted (wholes live ls)) (some : 0 < at) (lt : at < length ls) (i : ℕ) (cells : List CellId) where
  abbrev mark : StoredMark
  mark = stored_at (delta_at ls at).marks i

  abbrev one : Workspace
  one = workspace_at (wholes live ls) at

  rows_rolled : is_saved (mark_at (workspace_at (wholes live ls) at).marks i) ≡ true → ((q : CellId) → is_among cells q ≡ false
      → (finite.get (saved_differences mark) q ≡ None) × (finite.get (delta_at ls at).current q ≡ None))
      → RowsStay at cells (wholes live ls) (after_roll_to (wholes live ls) at i)
  rows_rolled saved none = rows_set (wholes live ls) at (roll_to i one) cells (within_wholes live ls at lt) (λ q apart.
      let marks = marks-wholes live ls at some lt in
      let both = none q apart in
      ap (λ (ns : List Mark). row_at (saved_content (mark_at ns i)) q) marks
      ∙ ap (λ (m : Content). row_at m q) (saved_there one.base (delta_at ls at).marks i (ap (λ (ns : List Mark). is_saved (mark_at ns i)) (sym marks) ∙ saved))
      ∙ row-seen_over one.base (saved_differences mark) q ∙ ap (λ o. unwrap_or o (row_at one.base q)) both.0
      ∙ sym (row-current live ls at some lt q ∙ ap (λ o. unwrap_or o (row_at one.base q)) both.1))

  pub lean_rolled : (ms : List Delta) → is_saved (mark_at (workspace_at (wholes live ls) at).marks i) ≡ true
      → ((q : CellId) → is_among cells q ≡ false → (finite.get (saved_differences (stored_at (delta_at ls at).marks i)) q ≡ None)
      × (finite.get (delta_at ls at).current q ≡ None))
      → length ms ≡ length ls → wholes live ms ≡ after_roll_to (wholes live ls) at i → StayOwnButNear at cells ls ms → IsLean live ls
      → IsLeanBut at cells live ms
  lean_rolled ms saved none long is stay =
      let ws = wholes live ls in
      lean_but live live ls ms at cells r lt long
      (λ k. ap (λ (us : List Workspace). parent_of us k) is ∙ parent_set ws at (roll_to i one) refl refl k)
      (subst (RowsStay at cells ws) (sym is) (rows_rolled saved none)) stay

-- a base that starts anew --------------------------------------------------------------------------

marks_of_children : (row : Option Row) (q : CellId) (ms : List StoredMark) → AreOwnOver row q (filter is_stored_child ms)
marks_of_children row q [] = tt
marks_of_children row q (kinds.Saved name d ∷ ms) = marks_of_children row q ms
marks_of_children row q (kinds.Child name ∷ ms) = (own_none row q, marks_of_children row q ms)

pub but_mark_moved : (ls : List Delta) (p : ℕ) (child : Name) → p < length ls → StayOwnBut p [] ls (mark_moved ls p child)
but_mark_moved ls zero child lt = but_itself zero [] ls
but_mark_moved ls (suc p) child lt = but_marks ls (suc p) [] _ lt (λ q apart base own.
    marks_more base q (stored_without_mark_of child (delta_at ls (suc p)).marks) (kinds.Child child) (marks_left (λ m. not (is_stored_mark_of child m)) base q
    (delta_at ls (suc p)).marks own) (own_none base q))

-- no differences elsewhere
pub near_none : (at p : ℕ) (cells : List CellId) (ls ms ns : List Delta) → StayOwnButNear at cells ls ms → StayOwnBut p [] ms ns → StayOwnButNear at cells ls ns
near_none at p cells ls ms ns a b k q other under = own_both q (delta_at ls k) (delta_at ms k) (delta_at ns k) (a k q other under) (b k q (λ same. refl))

near_set : (at : ℕ) (cells : List CellId) (ls gs : List Delta) (m : Delta) → at < length gs → StayOwnButNear at cells ls gs
    → ((q : CellId) → is_among cells q ≡ false → StaysOwnAt q (delta_at ls at) m) → StayOwnButNear at cells ls (slice_set gs at m)
near_set at cells ls gs m lt stay one k q other under = ⊎_elim
    (λ (e : k ≡ at). subst (λ j. StaysOwnAt q (delta_at ls j) (delta_at (slice_set gs at m) j)) (sym e)
    (subst (StaysOwnAt q (delta_at ls at)) (sym (get_or-set_same gs at m no_delta lt)) (one q (other e))))
    (λ (n : k ≢ at). subst (StaysOwnAt q (delta_at ls k)) (sym (get_or-set_other gs at k m no_delta n)) (stay k q other under))
    (cases_eq k at)

pub near_restarted : (at : ℕ) (cells : List CellId) (ls gs : List Delta) (d : Differences) (rows : RowsByCell) → at < length gs → StayOwnButNear at cells ls gs
    → d
    ≡ put_each no_differences rows
    → ((q : CellId) → is_among cells q ≡ false → (is_among (cells_in rows) q ≡ false) × (finite.get (delta_at ls at).base q ≡ None))
    → StayOwnButNear at cells ls (delta_changed gs at (restarted_with d))
near_restarted at cells ls gs d rows lt stay is none = near_set at cells ls gs _ lt stay (λ q apart.
    let both = none q apart in
    record {
      base = finite.get-empty cell_cmp q ∙ sym both.1;
      current = λ row own. own_absent row d q (ap (λ (x : Differences). finite.get x q) is ∙ put_each_elsewhere rows no_differences q both.0
          ∙ finite.get-empty cell_cmp q);
      saved = λ row own. marks_of_children row q (delta_at gs at).marks;
    })

marked_current : (ws : List Workspace) (p : ℕ) (f : List Mark → List Mark) (i : ℕ) → (workspace_at (change_marks ws p f) i).current
    ≡ (workspace_at ws i).current
marked_current ws zero f i = refl
marked_current ws (suc p) f i = current_stays ws (suc p) (with_marks f (workspace_at ws (suc p))) refl i

length-marked : (ws : List Workspace) (p : ℕ) (f : List Mark → List Mark) → length (change_marks ws p f) ≡ length ws
length-marked ws zero f = refl
length-marked ws (suc p) f = length-set ws (suc p) _

module _ (live : Content) (ls : List Delta) (at p : ℕ) (r : IsRooted (wholes live ls)) (some : 0 < at) (lt : at < length ls)
    (parent : parent_of (wholes live ls) at ≡ Some p) (up : p < at) (cells : List CellId)
    (none : (q : CellId) → is_among cells q ≡ false → (is_among (cells_in (rows_after (own_changes (workspace_at (wholes live ls) at)))) q ≡ false)
    × ((finite.get (delta_at ls at).base q ≡ None) × (finite.get (delta_at ls at).current q ≡ None))) where
  abbrev was : Workspace
  was = workspace_at (wholes live ls) at

  abbrev moving : List Mark → List Mark
  moving = mark_last was.name

  abbrev moved : List Workspace
  moved = change_marks (wholes live ls) p moving

  abbrev content : Content
  content = (workspace_at (wholes live ls) p).current

  rows_refreshed : RowsStay at cells (wholes live ls) (after_refresh (wholes live ls) at p)
  rows_refreshed i q apart =
      let ws = wholes live ls in
      let same : workspace_at moved at ≡ was = below_stays ws at p moving up in
      let lt_moved : at < length moved = subst (λ n. at < n) (sym (length-marked ws p moving)) (within_wholes live ls at lt) in
      rows_set moved at (refresh content (workspace_at moved at)) cells lt_moved
      (λ c c_apart.
      let all = none c c_apart in
      ap (λ (w : Workspace). row_at (refresh content w).current c) same
      ∙ over_elsewhere (rows_after (own_changes was)) content c all.0
      ∙ sym (ap (λ (w : Workspace). row_at w.current c) same ∙ row-current live ls at some lt c ∙ ap (λ o. unwrap_or o (row_at was.base c)) all.1.1
      ∙ row-base live ls at some lt p parent up c ∙ ap (λ o. unwrap_or o (row_at content c)) all.1.0))
      i q apart
      ∙ ap (λ (m : Content). row_at m q) (marked_current ws p moving i)

  pub lean_refreshed : (ms : List Delta) → length ms ≡ length ls → wholes live ms ≡ after_refresh (wholes live ls) at p → StayOwnButNear at cells ls ms
      → IsLean live ls → IsLeanBut at cells live ms
  lean_refreshed ms long is stay =
      let ws = wholes live ls in
      lean_but live live ls ms at cells r lt long
      (λ k. ap (λ (us : List Workspace). parent_of us k) is ∙ parent_set moved at (refresh content (workspace_at moved at)) refl refl k
      ∙ below_parent ws p moving k)
      (subst (RowsStay at cells ws) (sym is) rows_refreshed) stay
