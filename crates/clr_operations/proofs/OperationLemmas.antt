-- What each change of a delta does to the whole workspaces.
use Rattle.std.proofs.Common.{◌≡◌, ℕ, suc, zero, ◌<◌, Bool, true, false, cond, not, List, [], ◌∷◌, ◌++◌, length, map, take, drop, filter, Some, refl, ap}
use Rattle.std.proofs.Common.{sym, subst, ◌∙◌, slice_set}
use Rattle.std.proofs.lemmas.List.{append-nil, map-append}
use Rattle.std.specs.declared.option.Option.{Option}
use Rattle.std.specs.FinMap as finite
use Rattle.std.specs.List.{list_any}
use Rattle.std.specs.Prelude.{remove}
use Rattle.indexmap.proofs.SetLemmas.{map-remove}
use Rattle.clr_rows.specs.declared.cells.CellId.{CellId}
use Rattle.clr_rows.specs.declared.rows.Row.{Row}
use Rattle.clr_rows.specs.Contents.{Content, Changes, row_at, set_cell, over, rows_after, taken_over}
use Rattle.clr_rows.proofs.ChangeLemmas.{taken_over-own}
use Rattle.clr_deltas.specs.Differences.{Differences, RowsByCell, no_differences, seen_over, put_each, cells_in, HasDifference, HasDifferences}
use Rattle.clr_deltas.proofs.DifferenceLemmas.{seen_over-none, seen_over-fresh, seen_over-insert, seen_over-put_each, seen_over-remove, seen_outside}
use Rattle.clr_deltas.proofs.DifferenceLemmas.{over_outside, hidden, set_outside}
use Rattle.clr_workspaces.specs.Marks.{Name, Mark, Saved, ChildMark, mark_at, is_child_mark, is_saved, is_mark_of, saved_content, is_held, without_saved}
use Rattle.clr_workspaces.specs.Marks.{without_mark_of, mark_last}
use Rattle.clr_workspaces.specs.Workspaces.{Workspace, workspace_at, parent_of}
use Rattle.clr_deltas.specs.Deltas.{Delta, delta_at, delta_changed, whole_of, whole_mark, wholes, top, above_at, IsUnder, stored_at, saved_differences}
use Rattle.clr_deltas.specs.Deltas.{is_stored_child, is_stored_mark_of, stored_without_mark_of, EachMarkStores}
use Rattle.clr_deltas.specs.declared.stored_marks.StoredMark.{StoredMark}
use Rattle.clr_deltas.specs.declared.stored_marks.StoredMark.TheVariants as stored
use Rattle.clr_deltas.proofs.Meaning.{wholes-live}
use Rattle.clr_deltas.proofs.Places.{moved_live}
use Rattle.clr_contents.specs.SeenRows.{ChildrenStore}
use Rattle.clr_operations.specs.Moves.{put_into, row_moved}
use Rattle.clr_workspaces.specs.Operations.{change_workspace, with_marks, with_current, with_kept, roll_all, own_changes, with_base_merged, after_mark}
use Rattle.clr_workspaces.specs.Operations.{after_unmark, after_roll_to, after_roll_all, set_kept, after_write, after_merge, after_resolve}
use Rattle.clr_workspaces.specs.Roots.{IsRooted}
use Rattle.clr_workspaces.specs.declared.rebases.Keep.TheVariants as keeps
use Rattle.clr_workspaces.proofs.RootLemmas.{later_stays}
use Rattle.clr_contents.proofs.ReadLemmas.{above_parent, current-wholes}
use Rattle.clr_contents.proofs.MarkLemmas.{saved_there}
use Rattle.clr_contents.proofs.MoveLemmas.{becomes, becomes_still}
use Rattle.clr_contents.proofs.SeenRowLemmas.{rows_agree}

-- marks ------------------------------------------------------------------------------------------

of_child : (child : Name) (b : Content) (m : StoredMark) → is_mark_of child (whole_mark b m) ≡ is_stored_mark_of child m
of_child child b (stored.Saved name d) = refl
of_child child b (stored.Child name) = refl

-- child marks are the same over any base
pub children_kept : (a b : Content) (ms : List StoredMark) → map (whole_mark a) (filter is_stored_child ms) ≡ without_saved (map (whole_mark b) ms)
children_kept a b [] = refl
children_kept a b (stored.Saved name d ∷ ms) = children_kept a b ms
children_kept a b (stored.Child name ∷ ms) = ap (λ ns. ChildMark name ∷ ns) (children_kept a b ms)

pub child_dropped : (child : Name) (b : Content) (ms : List StoredMark) → map (whole_mark b) (stored_without_mark_of child ms)
    ≡ without_mark_of child (map (whole_mark b) ms)
child_dropped child b [] = refl
child_dropped child b (m ∷ ms) =
    by (child_dropped child b ms) (is_stored_mark_of child m)
    ∙ ap (λ (t : Bool). cond (not t) (whole_mark b m ∷ without_mark_of child (map (whole_mark b) ms)) (without_mark_of child (map (whole_mark b) ms)))
    (sym (of_child child b m))
  where
    by : map (whole_mark b) (stored_without_mark_of child ms) ≡ without_mark_of child (map (whole_mark b) ms)
        → (t : Bool) → map (whole_mark b) (cond (not t) (m ∷ stored_without_mark_of child ms) (stored_without_mark_of child ms))
        ≡ cond (not t) (whole_mark b m ∷ without_mark_of child (map (whole_mark b) ms)) (without_mark_of child (map (whole_mark b) ms))
    by rest true = rest
    by rest false = ap (λ ns. whole_mark b m ∷ ns) rest

pub map_take : {A B : Type 0} (f : A → B) (n : ℕ) (xs : List A) → map f (take n xs) ≡ take n (map f xs)
map_take f zero xs = refl
map_take f (suc n) [] = refl
map_take f (suc n) (x ∷ xs) = ap (λ ys. f x ∷ ys) (map_take f n xs)

no_children : (ms : List Mark) → list_any is_child_mark ms ≡ false → without_saved ms ≡ []
no_children [] e = refl
no_children (Saved name content ∷ ms) e = no_children ms e
no_children (ChildMark name ∷ ms) e = absurd (cc)

-- the marks up to a savepoint, where no child's comes later
cut_marks : (ms : List Mark) (i : ℕ) → is_held ms i ≡ false → take (suc i) ms ≡ take (suc i) ms ++ without_saved (drop (suc i) ms)
cut_marks ms i e = sym (append-nil (take (suc i) ms)) ∙ ap (λ (ns : List Mark). take (suc i) ms ++ ns) (sym (no_children (drop (suc i) ms) e))

-- savepoints with a difference don't see the base change there
marks_hidden : (b : Content) (k : CellId) (v : Option Row) (ms : List StoredMark) → EachMarkStores ms k → map (whole_mark (set_cell b k v)) ms
    ≡ map (whole_mark b) ms
marks_hidden b k v [] held = refl
marks_hidden b k v (stored.Saved name d ∷ ms) held = λ i. Saved name (hidden b (set_cell b k v) d (set_outside d b k v held.0) i)
    ∷ marks_hidden b k v ms held.1 i
marks_hidden b k v (stored.Child name ∷ ms) held = ap (λ ns. ChildMark name ∷ ns) (marks_hidden b k v ms held.1)

-- one whole delta ----------------------------------------------------------------------------------

module _ (above : Content) (l : Delta) where
  abbrev b : Content
  b = seen_over above l.base

  whole_kept : (kept : Bool) → whole_of above (record l { kept = kept }) ≡ with_kept kept (whole_of above l)
  unfolding whole_of
  whole_kept kept = refl

  whole_pushed : (m : StoredMark) → whole_of above (record l { marks = l.marks ++ m ∷ [] })
      ≡ (let w = whole_of above l in record w { marks = w.marks ++ whole_mark w.base m ∷ [] })
  unfolding whole_of
  whole_pushed m = λ i. record {
    name = l.name;
    parent = l.parent;
    base = b;
    current = seen_over b l.current;
    marks = map-append (whole_mark b) l.marks (m
        ∷ []) i;
    kept = l.kept;
  }

  whole_removed : (at : ℕ) → whole_of above (record l { marks = remove l.marks at }) ≡ with_marks (λ ms. remove ms at) (whole_of above l)
  unfolding whole_of
  whole_removed at = λ i. record {
    name = l.name;
    parent = l.parent;
    base = b;
    current = seen_over b l.current;
    marks = map-remove (whole_mark b) l.marks at i;
    kept = l.kept;
  }

  whole_dropped : (child : Name) → whole_of above (record l { marks = stored_without_mark_of child l.marks })
      ≡ with_marks (without_mark_of child) (whole_of above l)
  unfolding whole_of
  whole_dropped child = λ i. record {
    name = l.name;
    parent = l.parent;
    base = b;
    current = seen_over b l.current;
    marks = child_dropped child b l.marks i;
    kept = l.kept;
  }

  whole_last : (child : Name) → whole_of above (record l { marks = stored_without_mark_of child l.marks ++ stored.Child child ∷ [] })
      ≡ with_marks (mark_last child) (whole_of above l)
  unfolding whole_of
  whole_last child =
      let marks = map-append (whole_mark b) (stored_without_mark_of child l.marks) (stored.Child child ∷ [])
      ∙ ap (λ (ms : List Mark). ms ++ ChildMark child ∷ []) (child_dropped child b l.marks) in
      λ i. record { name = l.name; parent = l.parent; base = b; current = seen_over b l.current; marks = marks i; kept = l.kept }

  whole_rolled_all : whole_of above (record l { current = no_differences; marks = filter is_stored_child l.marks }) ≡ roll_all (whole_of above l)
  unfolding whole_of
  whole_rolled_all = λ i. record {
    name = l.name;
    parent = l.parent;
    base = b;
    current = seen_over-none b i;
    marks = children_kept b b l.marks i;
    kept =
        l.kept;
  }

  whole_rolled_to : (d : Differences) (n : ℕ) → whole_of above (record l { current = d; marks = take n l.marks })
      ≡ (let w = whole_of above l in record w { current = seen_over w.base d; marks = take n w.marks })
  unfolding whole_of
  whole_rolled_to d n = λ i. record {
    name = l.name;
    parent = l.parent;
    base = b;
    current = seen_over b d;
    marks = map_take (whole_mark b) n l.marks i;
    kept =
        l.kept;
  }

  whole_put : (rows : RowsByCell) → whole_of above (record l { current = put_each l.current rows })
      ≡ (let w = whole_of above l in record w { current = over w.current rows })
  unfolding whole_of
  whole_put rows = ap (λ (c : Content).
      let w : Workspace = record { name = l.name; parent = l.parent; base = b; current = c; marks = map (whole_mark b) l.marks; kept = l.kept } in w)
      (seen_over-put_each b rows l.current)

  whole_taken_over : (rows : RowsByCell) → whole_of above
      (record l { base = put_each l.base rows; current = no_differences; marks = filter is_stored_child l.marks })
      ≡ (let w = whole_of above l in record w { base = over w.base rows; current = over w.base rows; marks = without_saved w.marks })
  unfolding whole_of
  whole_taken_over rows =
      let base = seen_over-put_each above rows l.base in
      let a = seen_over above (put_each l.base rows) in
      let current = seen_over-none a ∙ base in
      λ i. record { name = l.name; parent = l.parent; base = base i; current = current i; marks = children_kept a b l.marks i; kept = l.kept }

  whole_restarted : (rows : RowsByCell)
      → whole_of above (record l { base = no_differences; current = put_each no_differences rows; marks = filter is_stored_child l.marks })
      ≡ (let w = whole_of above l in record w { base = above; current = over above rows; marks = without_saved w.marks })
  unfolding whole_of
  whole_restarted rows =
      let a = seen_over above no_differences in
      let base = seen_over-none above in
      let current = seen_over-fresh a rows ∙ ap (λ m. over m rows) base in
      λ i. record { name = l.name; parent = l.parent; base = base i; current = current i; marks = children_kept a b l.marks i; kept = l.kept }

  whole_base_taken : (k : CellId) → HasDifference l.current k → EachMarkStores l.marks k → whole_of above (record l { base = finite.remove l.base k })
      ≡ (let w = whole_of above l in record w { base = set_cell w.base k (row_at above k) })
  unfolding whole_of
  whole_base_taken k difference held =
      let v = row_at above k in
      let base = seen_over-remove above l.base k in
      let current = ap (λ (m : Content). seen_over m l.current) base ∙ hidden b (set_cell b k v) l.current (set_outside l.current b k v difference) in
      let marks = ap (λ (m : Content). map (whole_mark m) l.marks) base ∙ marks_hidden b k v l.marks held in
      λ i. record { name = l.name; parent = l.parent; base = base i; current = current i; marks = marks i; kept = l.kept }

  whole_row_moved : (k : CellId) (v : Option Row) → HasDifference l.current k → EachMarkStores l.marks k
      → whole_of above (record l { base = finite.remove l.base k; current = finite.insert l.current k v })
      ≡ (let w = whole_of above l in record w { base = set_cell w.base k (row_at above k); current = set_cell w.current k v })
  unfolding whole_of
  whole_row_moved k v difference held =
      let r = row_at above k in
      let base = seen_over-remove above l.base k in
      let current = seen_over-insert (seen_over above (finite.remove l.base k)) l.current k v
      ∙ ap (λ (m : Content). set_cell m k v) (ap (λ (m : Content). seen_over m l.current) base
      ∙ hidden b (set_cell b k r) l.current (set_outside l.current b k r difference)) in
      let marks = ap (λ (m : Content). map (whole_mark m) l.marks) base ∙ marks_hidden b k r l.marks held in
      λ i. record { name = l.name; parent = l.parent; base = base i; current = current i; marks = marks i; kept = l.kept }

-- all workspaces -----------------------------------------------------------------------------------

module _ (live : Content) (ls : List Delta) (at : ℕ) (r : IsRooted (wholes live ls)) (some : 0 < at) (lt : at < length ls) where
  abbrev ws : List Workspace
  ws = wholes live ls

  abbrev here : Workspace
  here = workspace_at (wholes live ls) at

  abbrev l_at : Delta
  l_at = delta_at ls at

  abbrev above : Content
  above = above_at live ls at

  pub kept_set : (kept : Bool) → wholes live (delta_changed ls at (λ l. record l { kept = kept })) ≡ set_kept (wholes live ls) at kept
  kept_set kept = becomes_still live ls at r some lt _ (with_kept kept) refl refl (whole_kept above l_at kept) refl

  pub mark_pushed : (m : StoredMark) → wholes live (delta_changed ls at (λ l. record l { marks = l.marks ++ m ∷ [] }))
      ≡ change_workspace (wholes live ls) at (λ w. record w { marks = w.marks ++ whole_mark w.base m ∷ [] })
  mark_pushed m = becomes_still live ls at r some lt _ (λ w. record w { marks = w.marks ++ whole_mark w.base m ∷ [] }) refl refl (whole_pushed above l_at m)
      refl

  pub mark_made : (name : Name) → wholes live (delta_changed ls at (λ l. record l { marks = l.marks ++ stored.Saved name (delta_at ls at).current ∷ [] }))
      ≡ after_mark (wholes live ls) at name
  mark_made name =
      mark_pushed (stored.Saved name l_at.current)
      ∙ ap (λ (c : Content). slice_set (wholes live ls) at (record here { marks = here.marks ++ Saved name c ∷ [] })) (sym (current-wholes live ls at some lt))

  pub mark_removed : (i : ℕ) → wholes live (delta_changed ls at (λ l. record l { marks = remove l.marks i })) ≡ after_unmark (wholes live ls) at i
  mark_removed i = becomes_still live ls at r some lt _ (with_marks (λ ms. remove ms i)) refl refl (whole_removed above l_at i) refl

  pub mark_dropped : (child : Name) → wholes live (delta_changed ls at (λ l. record l { marks = stored_without_mark_of child l.marks }))
      ≡ change_workspace (wholes live ls) at (with_marks (without_mark_of child))
  mark_dropped child = becomes_still live ls at r some lt _ (with_marks (without_mark_of child)) refl refl (whole_dropped above l_at child) refl

  pub mark_lasts : (child : Name)
      → wholes live (delta_changed ls at (λ l. record l { marks = stored_without_mark_of child l.marks ++ stored.Child child ∷ [] }))
      ≡ change_workspace (wholes live ls) at (with_marks (mark_last child))
  mark_lasts child = becomes_still live ls at r some lt _ (with_marks (mark_last child)) refl refl (whole_last above l_at child) refl

  pub all_rolled : ((k : ℕ) → 0 < k → k < length ls → IsUnder (delta_at ls at).name (delta_at ls k) → ⊥)
      → wholes live (delta_changed ls at (λ l. record l { current = no_differences; marks = filter is_stored_child l.marks }))
      ≡ after_roll_all (wholes live ls) at
  all_rolled none = becomes live ls at r some lt _ roll_all refl refl (whole_rolled_all above l_at) (λ k k_some k_lt under q missing. absurd
      (none k k_some k_lt under))

  -- other differences over the base, and fewer marks
  pub rolled : (d old : Differences) (n : ℕ) → (workspace_at (wholes live ls) at).current ≡ seen_over (workspace_at (wholes live ls) at).base old
      → ChildrenStore ls (delta_at ls at).name (finite.keys d) → ChildrenStore ls (delta_at ls at).name (finite.keys old)
      → wholes live (delta_changed ls at (λ l. record l { current = d; marks = take n l.marks }))
      ≡ change_workspace (wholes live ls) at (λ w. record w { current = seen_over w.base d; marks = take n w.marks })
  rolled d old n was held_new held_old =
      becomes live ls at r some lt _ (λ w. record w { current = seen_over w.base d; marks = take n w.marks }) refl refl (whole_rolled_to above l_at d n)
      (λ k k_some k_lt under q none.
      seen_outside (delta_at ls k).base here.base d (held_new k k_some k_lt under) q none
      ∙ sym (ap (λ (c : Content). row_at c q) was ∙ seen_outside (delta_at ls k).base here.base old (held_old k k_some k_lt under) q none))

  pub put : (rows : RowsByCell) → ChildrenStore ls (delta_at ls at).name (cells_in rows)
      → wholes live (delta_changed ls at (λ l. record l { current = put_each l.current rows })) ≡ put_into (wholes live ls) at rows
  put rows held = becomes live ls at r some lt _ (λ w. with_current (over w.current rows) w) refl refl (whole_put above l_at rows)
      (rows_agree ls l_at.name here.current rows held)

  -- the base takes rows over that make it the current content
  pub based : (rows : RowsByCell) → over (workspace_at (wholes live ls) at).base rows ≡ (workspace_at (wholes live ls) at).current
      → wholes live (delta_changed ls at (λ l. record l { base = put_each l.base rows; current = no_differences; marks = filter is_stored_child l.marks }))
      ≡ change_workspace (wholes live ls) at (λ w. record w { base = over w.base rows; marks = without_saved w.marks })
  based rows own =
      becomes_still live ls at r some lt _ (λ w. record w { base = over w.base rows; current = over w.base rows; marks = without_saved w.marks }) refl refl
      (whole_taken_over above l_at rows) own
      ∙ ap (λ (c : Content). slice_set (wholes live ls) at (record here { base = over here.base rows; current = c; marks = without_saved here.marks })) own

  module _ (p : ℕ) (parent : parent_of (wholes live ls) at ≡ Some p) (up : p < at) where
    abbrev over_it : Content
    over_it = (workspace_at (wholes live ls) p).current

    -- a base that starts anew from the parent's content
    pub restarted : (rows : RowsByCell) (base old : Differences)
        → (workspace_at (wholes live ls) at).base ≡ seen_over (workspace_at (wholes live ls) p).current base → (workspace_at (wholes live ls) at).current
        ≡ seen_over (workspace_at (wholes live ls) at).base old
        → ChildrenStore ls (delta_at ls at).name (cells_in rows) → ChildrenStore ls (delta_at ls at).name (finite.keys base)
        → ChildrenStore ls (delta_at ls at).name (finite.keys old)
        → wholes live (delta_changed ls at (λ l. record l {
          base = no_differences;
          current = put_each no_differences rows;
          marks = filter is_stored_child
              l.marks;
        }))
        ≡ change_workspace (wholes live ls) at (λ w. let c = (workspace_at (wholes live ls) p).current in record w {
          base = c;
          current = over c rows;
          marks =
              without_saved w.marks;
        })
    restarted rows base old was_base was_current held_rows is_stored_in_base held_old =
        becomes live ls at r some lt _ (λ w. record w { base = over_it; current = over over_it rows; marks = without_saved w.marks }) refl refl
        (whole_restarted above l_at rows
        ∙ ap (λ (m : Content). let w = whole_of above l_at in record w { base = m; current = over m rows; marks = without_saved w.marks })
        (above_parent live ls at p parent up))
        (λ k k_some k_lt under q none.
        over_outside (delta_at ls k).base rows over_it (held_rows k k_some k_lt under) q none
        ∙ sym (ap (λ (m : Content). row_at m q) was_current ∙ seen_outside (delta_at ls k).base here.base old (held_old k k_some k_lt under) q none
        ∙ ap (λ (m : Content). row_at m q) was_base ∙ seen_outside (delta_at ls k).base over_it base (is_stored_in_base k k_some k_lt under) q none))

    pub base_taken : (k : CellId) → HasDifference (delta_at ls at).current k → EachMarkStores (delta_at ls at).marks k
        → wholes live (delta_changed ls at (λ l. record l { base = finite.remove l.base k })) ≡ after_resolve (wholes live ls) at p k keeps.Child
    base_taken k difference held =
        becomes_still live ls at r some lt _ (λ w. record w { base = set_cell w.base k (row_at over_it k) }) refl refl
        (whole_base_taken above l_at k difference held ∙ ap (λ (m : Content). let w = whole_of above l_at in record w { base = set_cell w.base k (row_at m k) })
        (above_parent live ls at p parent up)) refl

    pub row_set : (k : CellId) (v : Option Row) → ChildrenStore ls (delta_at ls at).name (k ∷ []) → HasDifference (delta_at ls at).current k
        → EachMarkStores (delta_at ls at).marks k
        → wholes live (delta_changed ls at (λ l. record l { base = finite.remove l.base k; current = finite.insert l.current k v }))
        ≡ row_moved (wholes live ls) at p k v
    row_set k v children difference held =
        becomes live ls at r some lt _ (λ w. record w { base = set_cell w.base k (row_at over_it k); current = set_cell w.current k v }) refl refl
        (whole_row_moved above l_at k v difference held
        ∙ ap (λ (m : Content). let w = whole_of above l_at in record w { base = set_cell w.base k (row_at m k); current = set_cell w.current k v })
        (above_parent live ls at p parent up))
        (λ j j_some j_lt under q none. set_outside (delta_at ls j).base here.current k v (children j j_some j_lt under).0 q none)

-- differences at the cells of two lists
differences_both : (d : Differences) (first others : List CellId) → HasDifferences d (first ++ others) → HasDifferences d first × HasDifferences d others
differences_both d [] others held = (tt, held)
differences_both d (cell ∷ first) others held = let rest = differences_both d first others held.1 in ((held.0, rest.0), rest.1)

pub children_both : (ls : List Delta) (name : Name) (first others : List CellId) → ChildrenStore ls name (first ++ others) → ChildrenStore ls name first
    × ChildrenStore ls name others
children_both ls name first others held = (
  λ k some lt under. (differences_both (delta_at ls k).base first others (held k some lt under)).0,
  λ k some lt under.
      (differences_both (delta_at ls k).base first others (held k some lt under)).1,
)

-- rows put into LIVE
top_put : (live : Content) (l : Delta) (rows : RowsByCell) → top (over live rows) l ≡ (let w = top live l in record w { current = over w.current rows })
unfolding top
top_put live l rows = refl

pub live_put : (live : Content) (ls : List Delta) (rows : RowsByCell) → 0 < length ls → ChildrenStore ls (delta_at ls 0).name (cells_in rows)
    → wholes (over live rows) ls ≡ put_into (wholes live ls) 0 rows
live_put live ls rows lt held =
    moved_live live (over live rows) ls lt (rows_agree ls (delta_at ls 0).name live rows held)
    ∙ ap (slice_set (wholes live ls) 0) (top_put live (delta_at ls 0) rows
    ∙ ap (λ (w : Workspace). record w { current = over w.current rows }) (sym (wholes-live live ls lt)))

-- MERGE: the parent's rows were put, and the base takes the changes over
pub merged_is : (live : Content) (ls : List Delta) (ws : List Workspace) (at p : ℕ) (changed : Changes) → IsRooted (wholes live ls) → 0 < at → at < length ls
    → p < at
    → wholes live ls ≡ put_into ws p (rows_after changed) → changed ≡ own_changes (workspace_at ws at)
    → wholes live (delta_changed ls at (λ l. record l {
      base = put_each l.base (rows_after changed);
      current = no_differences;
      marks = filter is_stored_child
          l.marks;
    })) ≡ after_merge ws at p
merged_is live ls ws at p changed r some lt up put is =
    let w = workspace_at ws at in
    let rows = rows_after changed in
    let same : workspace_at (wholes live ls) at ≡ w = ap (λ (vs : List Workspace). workspace_at vs at) put ∙ later_stays ws at p _ up in
    let own : over w.base rows ≡ w.current = ap (λ (c : Changes). taken_over w.base c) is ∙ taken_over-own w.base w.current in
    based live ls at r some lt rows (subst (λ (v : Workspace). over v.base rows ≡ v.current) (sym same) own)
    ∙ (λ i. slice_set (put i) at (let v = same i in record v { base = over v.base rows; marks = without_saved v.marks }))
    ∙ ap (λ (c : Changes). slice_set (put_into ws p (rows_after c)) at (record w { base = over w.base (rows_after c); marks = without_saved w.marks })) is
    ∙ ap (λ (v : Workspace). slice_set (after_write ws p (own_changes w)) at (with_base_merged v)) (sym (later_stays ws at p _ up))

-- ROLLTO: the savepoint's content, and no later savepoints
pub rolled_is : (ws : List Workspace) (at i : ℕ) (ms : List StoredMark) → (workspace_at ws at).marks ≡ map (whole_mark (workspace_at ws at).base) ms
    → is_saved (mark_at (workspace_at ws at).marks i) ≡ true → is_held (workspace_at ws at).marks i ≡ false
    → change_workspace ws at (λ w. record w { current = seen_over w.base (saved_differences (stored_at ms i)); marks = take (suc i) w.marks })
    ≡ after_roll_to ws at i
rolled_is ws at i ms marks saved free =
    let w = workspace_at ws at in
    let there = saved_there w.base ms i (ap (λ (ns : List Mark). is_saved (mark_at ns i)) (sym marks) ∙ saved) in
    let content = sym (ap (λ (ns : List Mark). saved_content (mark_at ns i)) marks ∙ there) in
    λ k. slice_set ws at (record w { current = content k; marks = cut_marks w.marks i free k })
