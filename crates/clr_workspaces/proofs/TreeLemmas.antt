-- Workspaces stay sound under each operation.
use Rattle.std.proofs.Common.{◌≡◌, ℕ, suc, zero, ◌+◌, ◌<◌, ◌≤◌, ◌≢◌, ⊎_elim, Bool, true, false, cond, ◌&&◌, List, [], ◌∷◌, ◌++◌, length, Some, None, refl, ap}
use Rattle.std.proofs.Common.{sym, ◌∙◌, subst, arith, remove}
use Rattle.std.proofs.lemmas.Bool.{cases_eq, false≢true, and_parts}
use Rattle.std.proofs.Math.Bool.{and-false}
use Rattle.std.proofs.lemmas.Option.{same_Some, none-some}
use Rattle.std.proofs.lemmas.List.{length-set, length-append, get_or-set_same, get_or-set_other}
use Rattle.std.proofs.lemmas.List.Edits.{length-remove}
use Rattle.std.specs.Str.{bytes_eq}
use Rattle.std.specs.Cmp.Lexicographic.{bytes_decides}
use Rattle.clr_rows.specs.Contents.{Content}
use Rattle.clr_rows.specs.Names.{is_good_name}
use Rattle.clr_workspaces.specs.Marks.{Name, Mark, ChildMark, Saved, is_mark_of, is_saved, mark_at, mark_count, saved_names, without_saved, without_mark_of}
use Rattle.clr_workspaces.specs.Marks.{mark_last}
use Rattle.clr_workspaces.specs.Workspaces.{Workspace, no_workspace, live_workspace, workspace_at, find, parent_of, is_child_named, child_count, depth_within}
use Rattle.clr_workspaces.specs.Workspaces.{depth_of}
use Rattle.clr_workspaces.proofs.FindLemmas.{find_set, find_more, find_named}
use Rattle.clr_workspaces.proofs.FindLemmas.{not_from}
use Rattle.clr_workspaces.specs.Operations.{change_workspace, with_marks, with_mark_of, with_kept, with_current, change_marks, new_leaf, save, roll_to}
use Rattle.clr_workspaces.specs.Operations.{own_changes}
use Rattle.clr_workspaces.specs.Operations.{at_position, after_create, after_write, after_resolve, after_rebase, after_rebase_under, after_remove_under}
use Rattle.clr_workspaces.specs.declared.rebases.Keep.{Keep}
use Rattle.clr_workspaces.specs.declared.rebases.Keep.TheVariants as keeps
use Rattle.clr_workspaces.specs.declared.rebases.Rebase.{Rebase}
use Rattle.clr_workspaces.specs.declared.rebases.Rebase.TheVariants.{Refresh, Merge, OneRow}
use Rattle.clr_rows.specs.declared.cells.CellId.{CellId}
use Rattle.clr_workspaces.specs.Soundness.{are_good_savepoints, IsSound}
use Rattle.clr_workspaces.specs.Roots.{IsRooted}
use Rattle.clr_workspaces.specs.declared.limits.TheConstants.{MOST_WORKSPACES, MOST_LEVELS}
use Rattle.clr_workspaces.proofs.RootLemmas.{rooted_set, rooted_more, parent_set, stays_at, at_old, at_last, placed}
use Rattle.clr_workspaces.proofs.RootLemmas.{split}
use Rattle.clr_workspaces.proofs.DepthLemmas.{depth_step, depth_zero, depth_same, depth_more}
use Rattle.clr_workspaces.proofs.NameLemmas.{names_dropped, names_marked, names_last, good_none, good_removed, good_cut}
use Rattle.clr_workspaces.proofs.CountLemmas.{count-tally, count-append, count-last, count-set, count-remove, tally-none, tally-one}
use Rattle.clr_workspaces.proofs.SoundLemmas.{count-without_saved, count-cut, count-unmarked, count-dropped, IsLive, each_set, sound_set}
use Rattle.clr_workspaces.proofs.RootLemmas.{below_parent, below_rooted}
use Rattle.clr_workspaces.proofs.LeafLemmas.{opened, closed_at, opened-closed, opened-first, opened-later, opened-same, opened-apart, was_at, was_in}
use Rattle.clr_workspaces.proofs.LeafLemmas.{parent_removed, rooted_removed}

-- names that are different -------------------------------------------------------------------------

differ : (a b : Name) → (a ≡ b → ⊥) → bytes_eq a b ≡ false
differ a b other = not_from (bytes_eq a b) (λ e. other ((bytes_decides a b).0 e))

itself : (a : Name) → bytes_eq a a ≡ true
itself a = (bytes_decides a a).1 refl

empty_is_bad : is_good_name [] ≡ true → ⊥
unfolding is_good_name
empty_is_bad h = false≢true h

-- a child is counted once among those of its parent
pub one_child : (ws : List Workspace) (at p : ℕ) → IsRooted ws → at < length ws → parent_of ws at ≡ Some p →
    child_count ws (workspace_at ws p).name (workspace_at ws at).name ≡ 1
one_child ws at p r lt parent =
    let child = (workspace_at ws at).name in
    let test = is_child_named (workspace_at ws p).name child in
    let named : (workspace_at ws at).parent ≡ (workspace_at ws p).name = find_named ws (workspace_at ws at).parent p parent in
    let here : test (workspace_at ws at) ≡ true = rw (named, itself (workspace_at ws p).name, itself child) refl in
    count-tally test ws
    ∙ tally-one test ws no_workspace at lt here
    (λ i i_lt passes.
    let same : child ≡ (workspace_at ws i).name = (bytes_decides child (workspace_at ws i).name).0
    (and_parts (bytes_eq (workspace_at ws p).name (workspace_at ws i).parent) (bytes_eq child (workspace_at ws i).name) passes).1 in
    same_Some i at (sym (r.own i i_lt) ∙ ap (find ws) (sym same) ∙ r.own at lt))

-- operations on one workspace ------------------------------------------------------------------------

module _ (ws : List Workspace) (at : ℕ) (s : IsSound ws) (lt : at < length ws) where
  abbrev here : Workspace
  here = workspace_at ws at

  live_here : at ≡ 0 → IsLive here
  live_here same = subst (λ k. IsLive (workspace_at ws k)) (sym same) (s.base, s.bare, s.held)

  pub sound_current : (content : Content) → IsSound (change_workspace ws at (with_current content))
  sound_current content = sound_set ws at _ s lt refl refl (λ same. let live = live_here same in (live.0, live.1, live.2)) (s.saved at lt) (λ n. refl)

  module _ (some : 0 < at) where
    pub sound_kept : (kept : Bool) → IsSound (change_workspace ws at (with_kept kept))
    sound_kept kept = sound_set ws at _ s lt refl refl (λ same. absurd (omega (arith, same, some))) (s.saved at lt) (λ n. refl)

    pub sound_saved : (name : Name) → are_good_savepoints (saved_names (here.marks ++ Saved name here.current ∷ [])) ≡ true →
        IsSound (change_workspace ws at (save name))
    sound_saved name good = sound_set ws at _ s lt refl refl (λ same. absurd (omega (arith, same, some))) good
        (λ n. count-append (is_mark_of n) here.marks (Saved name here.current ∷ []) ∙ zero_more (mark_count here.marks n))
      where
        zero_more : (k : ℕ) → k + 0 ≡ k
        zero_more k = omega arith

    pub sound_unmarked : (i : ℕ) → is_saved (mark_at here.marks i) ≡ true → IsSound (change_workspace ws at (with_marks (λ ms. remove ms i)))
    sound_unmarked i saved = sound_set ws at _ s lt refl refl (λ same. absurd (omega (arith, same, some))) (good_removed here.marks i (s.saved at lt))
        (λ n. count-unmarked n here.marks i saved)

    pub sound_rolled_to : (i : ℕ) → IsSound (change_workspace ws at (roll_to i))
    sound_rolled_to i = sound_set ws at _ s lt refl refl (λ same. absurd (omega (arith, same, some))) (good_cut here.marks (suc i) (s.saved at lt))
        (λ n. count-cut n here.marks (suc i))

    -- any base and current content, without savepoints
    pub sound_unsaved : (base current : Content)
        → IsSound (change_workspace ws at (λ w. record w { base = base; current = current; marks = without_saved w.marks }))
    sound_unsaved base current = sound_set ws at _ s lt refl refl (λ same. absurd (omega (arith, same, some))) (good_none here.marks)
        (λ n. count-without_saved n here.marks)

    pub sound_contents : (base current : Content) → IsSound (change_workspace ws at (λ w. record w { base = base; current = current }))
    sound_contents base current = sound_set ws at _ s lt refl refl (λ same. absurd (omega (arith, same, some))) (s.saved at lt) (λ n. refl)

-- the mark of a child moved to the end
pub sound_last : (ws : List Workspace) (at p : ℕ) → IsSound ws → at < length ws → parent_of ws at ≡ Some p → p < at →
    IsSound (change_marks ws p (mark_last (workspace_at ws at).name))
sound_last ws at zero s lt parent up = s
sound_last ws at (suc q) s lt parent up =
    let p = suc q in
    let child = (workspace_at ws at).name in
    let ms = (workspace_at ws p).marks in
    let p_lt : p < length ws = omega (arith, up, lt) in
    let once : mark_count ms child ≡ 1 = s.marked p (omega arith) p_lt child ∙ one_child ws at p s.rooted lt parent in
    sound_set ws p _ s p_lt refl refl (λ same. absurd (omega (arith, same))) (ap are_good_savepoints (names_last child ms) ∙ s.saved p p_lt)
    (λ n. count-append (is_mark_of n) (without_mark_of child ms) (ChildMark child ∷ [])
    ∙ ap (λ k. k + mark_count (ChildMark child ∷ []) n) (count-dropped n child ms) ∙ by n (bytes_eq n child) refl once)
  where
    by : (n : Name) (b : Bool) → bytes_eq n (workspace_at ws at).name ≡ b → mark_count (workspace_at ws (suc q)).marks (workspace_at ws at).name ≡ 1
        → cond (bytes_eq n (workspace_at ws at).name) 0 (mark_count (workspace_at ws (suc q)).marks n) + mark_count (ChildMark (workspace_at ws at).name ∷ []) n
        ≡ mark_count (workspace_at ws (suc q)).marks n
    by n true e once =
        let same : n ≡ (workspace_at ws at).name = (bytes_decides n (workspace_at ws at).name).0 e in
        rw (e, ap (mark_count (workspace_at ws (suc q)).marks) same ∙ once) refl
    by n false e once = rw e (omega arith)

-- a base that moves
pub sound_rebased : (ws : List Workspace) (at : ℕ) → IsSound ws → at < length ws → 0 < at → (how : Rebase) → IsSound (after_rebase ws at how)
sound_rebased ws at s lt some how =
    let q = s.rooted.under at some lt in
    subst IsSound (ap (λ o. at_position ws o (after_rebase_under ws at how)) (sym q.1)) (by how q.0 q.1 q.2)
  where
    below_long : (ws : List Workspace) (p : ℕ) (f : List Mark → List Mark) → length (change_marks ws p f) ≡ length ws
    below_long ws zero f = refl
    below_long ws (suc q) f = length-set ws (suc q) _

    kept : (cell : CellId) (keep : Keep) (p : ℕ) → IsSound (after_resolve ws at p cell keep)
    kept cell keeps.Parent p = sound_contents ws at s lt some _ _
    kept cell keeps.Child p = sound_contents ws at s lt some _ (workspace_at ws at).current
    kept cell keeps.Base p = sound_contents ws at s lt some _ _

    by : (how : Rebase) (p : ℕ) → parent_of ws at ≡ Some p → p < at → IsSound (after_rebase_under ws at how p)
    by Refresh p parent up =
        let vs = change_marks ws p (mark_last (workspace_at ws at).name) in
        sound_unsaved vs at (sound_last ws at p s lt parent up) (subst (λ n. at < n) (sym (below_long ws p (mark_last (workspace_at ws at).name))) lt) some _ _
    by Merge p parent up =
        let vs = after_write ws p (own_changes (workspace_at ws at)) in
        sound_unsaved vs at (sound_current ws p s (omega (arith, up, lt)) _) (subst (λ n. at < n) (sym (length-set ws p _)) lt) some _
        (workspace_at vs at).current
    by (OneRow cell keep) p parent up = kept cell keep p

-- a new leaf -----------------------------------------------------------------------------------------

module _ (ws : List Workspace) (name : Name) (p : ℕ) (s : IsSound ws) (lt : p < length ws) (absent : find ws name ≡ None) (good : is_good_name name ≡ true)
    (room : length ws < MOST_WORKSPACES) (shallow : depth_of ws p < MOST_LEVELS) where
  abbrev leaf : Workspace
  leaf = new_leaf name (workspace_at ws p).name (workspace_at ws p).current

  abbrev vs : List Workspace
  vs = change_marks ws p (with_mark_of name)

  abbrev us : List Workspace
  us = vs ++ leaf ∷ []

  -- the marks of the parent have one more
  below_length : length vs ≡ length ws
  below_length = by p
    where
      by : (q : ℕ) → length (change_marks ws q (with_mark_of name)) ≡ length ws
      by zero = refl
      by (suc q) = length-set ws (suc q) _

  below_find : (n : Name) → find vs n ≡ find ws n
  below_find n = by p
    where
      by : (q : ℕ) → find (change_marks ws q (with_mark_of name)) n ≡ find ws n
      by zero = refl
      by (suc q) = find_set ws (suc q) _ n refl

  rooted_below : IsRooted vs
  rooted_below = below_rooted ws p (with_mark_of name) s.rooted

  found : find vs leaf.parent ≡ Some p
  found = below_find leaf.parent ∙ s.rooted.own p lt

  rooted_new : IsRooted us
  rooted_new = rooted_more vs leaf p (below_find name ∙ absent) good found rooted_below

  depth_old : (i : ℕ) → i < length vs → depth_of us i ≤ MOST_LEVELS
  depth_old i i_lt =
      let was = s.shallow i (subst (λ n. i < n) below_length i_lt) in
      let same = depth_more vs leaf i i rooted_below rooted_new i_lt ∙ depth_same ws vs i i (λ k. below_parent ws p (with_mark_of name) k) in
      omega (arith, was, same)

  p_in : p < length vs
  p_in = subst (λ n. p < n) (sym below_length) lt

  p_us : depth_of us p ≡ depth_of ws p
  p_us = depth_more vs leaf p p rooted_below rooted_new p_in ∙ depth_same ws vs p p (λ k. below_parent ws p (with_mark_of name) k)

  last_in : length vs < length us
  last_in = let more = length-append vs (leaf ∷ []) in omega (arith, more)

  last_parent : parent_of us (length vs) ≡ Some p
  last_parent = ap (λ (w : Workspace). find us w.parent) (at_last vs leaf p (below_find name ∙ absent) good found rooted_below)
      ∙ find_more vs leaf leaf.parent p found

  depth_new : depth_of us (length vs) ≤ MOST_LEVELS
  depth_new = let step = depth_step us (length vs) p rooted_new last_in last_parent p_in in let same = p_us in omega (arith, step, same, shallow)

  at_vs : (i : ℕ) → i < length vs → workspace_at us i ≡ workspace_at vs i
  at_vs i i_lt = at_old vs leaf p (below_find name ∙ absent) good found rooted_below i i_lt

  -- what a workspace among the old ones has: it is as it was, but for the mark under its parent
  marks_of : (i : ℕ) → i < length ws → 0 < i → (n : Name) → mark_count (workspace_at vs i).marks n ≡ mark_count (workspace_at ws i).marks n + cond
      (bytes_eq (workspace_at ws i).name (workspace_at ws p).name && bytes_eq n name) 1 0
  marks_of i i_lt some n = ⊎_elim
      (λ (same : i ≡ p).
      let one : workspace_at vs i ≡ with_marks (with_mark_of name) (workspace_at ws p) = ap (workspace_at vs) same ∙ here p lt (subst (λ k. 0 < k) same some) in
      let ms = (workspace_at ws p).marks in
      ap (λ (w : Workspace). mark_count w.marks n) one ∙ count-last (is_mark_of n) ms (ChildMark name)
      ∙ (λ j. mark_count (workspace_at ws (sym same j)).marks n + cond (itself_and (sym (itself (workspace_at ws p).name)) (bytes_eq n name) j) 1 0)
      ∙ ap (λ (m : Name). mark_count (workspace_at ws i).marks n + cond (bytes_eq m (workspace_at ws p).name && bytes_eq n name) 1 0)
      (ap (λ k. (workspace_at ws k).name) (sym same)))
      (λ (other : i ≢ p).
      let apart : bytes_eq (workspace_at ws i).name (workspace_at ws p).name ≡ false =
      differ _ _ (λ e. other (same_Some i p (sym (s.rooted.own i i_lt) ∙ ap (find ws) e ∙ s.rooted.own p lt))) in
      ap (λ (w : Workspace). mark_count w.marks n) (there p other) ∙ rw apart (zero_more (mark_count (workspace_at ws i).marks n)))
      (cases_eq i p)
    where
      zero_more : (k : ℕ) → k ≡ k + 0
      zero_more k = omega arith

      itself_and : {a : Bool} → true ≡ a → (b : Bool) → b ≡ (a && b)
      itself_and e b = ap (λ a. a && b) e

      here : (q : ℕ) → q < length ws → 0 < q → workspace_at (change_marks ws q (with_mark_of name)) q ≡ with_marks (with_mark_of name) (workspace_at ws q)
      here zero q_lt q_some = absurd (omega arith)
      here (suc q) q_lt q_some = get_or-set_same ws (suc q) _ no_workspace q_lt

      there : (q : ℕ) → i ≢ q → workspace_at (change_marks ws q (with_mark_of name)) i ≡ workspace_at ws i
      there zero other = refl
      there (suc q) other = get_or-set_other ws (suc q) i _ no_workspace other

  children_of_us : (i : ℕ) → i < length ws → (n : Name) → child_count us (workspace_at ws i).name n ≡ child_count ws (workspace_at ws i).name n + cond
      (bytes_eq (workspace_at ws i).name (workspace_at ws p).name && bytes_eq n name) 1 0
  children_of_us i i_lt n =
      let m = (workspace_at ws i).name in
      count-last (is_child_named m n) vs leaf ∙ ap (λ k. k + cond (is_child_named m n leaf) 1 0) (by p)
    where
      by : (q : ℕ) → child_count (change_marks ws q (with_mark_of name)) (workspace_at ws i).name n ≡ child_count ws (workspace_at ws i).name n
      by zero = refl
      by (suc q) = count-set (is_child_named (workspace_at ws i).name n) ws (suc q) _ no_workspace refl

  -- names and parents among the old ones are as they were
  name_vs : (i : ℕ) → (workspace_at vs i).name ≡ (workspace_at ws i).name
  name_vs i = by p
    where
      by : (q : ℕ) → (workspace_at (change_marks ws q (with_mark_of name)) i).name ≡ (workspace_at ws i).name
      by zero = refl
      by (suc q) = stays_at (λ v. v.name) ws (suc q) _ refl i

  saved_vs : (i : ℕ) → saved_names (workspace_at vs i).marks ≡ saved_names (workspace_at ws i).marks
  saved_vs i = by p lt
    where
      by : (q : ℕ) → q < length ws → saved_names (workspace_at (change_marks ws q (with_mark_of name)) i).marks ≡ saved_names (workspace_at ws i).marks
      by zero q_lt = refl
      by (suc q) q_lt = ⊎_elim
          (λ (same : i ≡ suc q).
          let new = workspace_at (change_marks ws (suc q) (with_mark_of name)) in
          ap (λ k. saved_names (new k).marks) same ∙ ap (λ (w : Workspace). saved_names w.marks) (get_or-set_same ws (suc q) _ no_workspace q_lt)
          ∙ names_marked name (workspace_at ws (suc q)).marks
          ∙ ap (λ k. saved_names (workspace_at ws k).marks) (sym same))
          (λ (other : i ≢ suc q). ap (λ (w : Workspace). saved_names w.marks) (get_or-set_other ws (suc q) i _ no_workspace other))
          (cases_eq i (suc q))

  live_vs : IsLive (workspace_at vs 0)
  live_vs = by p
    where
      by : (q : ℕ) → IsLive (workspace_at (change_marks ws q (with_mark_of name)) 0)
      by zero = (s.base, s.bare, s.held)
      by (suc q) = let zero_other : 0 ≢ suc q = omega arith in subst IsLive (sym (get_or-set_other ws (suc q) 0 _ no_workspace zero_other))
          (s.base, s.bare, s.held)

  -- the new name is no parent
  leaf_counted : (n : Name) → child_count us name n ≡ 0
  leaf_counted n =
      count-tally (is_child_named name n) us
      ∙ tally-none (is_child_named name n) us no_workspace (placed vs leaf
      (λ i i_lt. ap (λ (w : Workspace). is_child_named name n w) (at_vs i i_lt)
      ∙ none (workspace_at vs i).parent (workspace_at vs i).name n (no_parent_named i i_lt))
      (ap (λ (w : Workspace). is_child_named name n w) (at_last vs leaf p (below_find name ∙ absent) good found rooted_below)
      ∙ none leaf.parent name n (λ e. none-some p (sym absent ∙ ap (find ws) e ∙ s.rooted.own p lt))))
    where
      none : (parent m n : Name) → (name ≡ parent → ⊥) → (bytes_eq name parent && bytes_eq n m) ≡ false
      none parent m n other = rw (differ name parent other) refl

      no_parent_named : (i : ℕ) → i < length vs → name ≡ (workspace_at vs i).parent → ⊥
      no_parent_named i i_lt e = ⊎_elim
          (λ (first : i ≡ 0).
          let empty : name ≡ [] = e ∙ ap (λ k. (workspace_at vs k).parent) first ∙ rooted_below.top in
          empty_is_bad (ap is_good_name (sym empty) ∙ good))
          (λ (some : 0 < i). let q = rooted_below.under i some i_lt in none-some q.0 (sym (below_find name ∙ absent) ∙ ap (find vs) e ∙ q.1))
          (split i)

  pub sound_created : IsSound (after_create ws name p)
  sound_created =
      let more : length us ≡ length ws + 1 = length-append vs (leaf ∷ []) ∙ ap (λ k. k + 1) below_length in
      let last = at_last vs leaf p (below_find name ∙ absent) good found rooted_below in
      let first = at_vs 0 rooted_below.filled in
      let live = live_vs in
      record {
        rooted = rooted_new;
        few = omega (arith, more, room);
        shallow = placed vs leaf depth_old depth_new;
        base = ap (λ (w : Workspace). w.base) first ∙ live.0;
        bare = ap (λ (w : Workspace). w.marks) first ∙ live.1;
        held = ap (λ (w : Workspace). w.kept) first ∙ live.2;
        saved = placed vs leaf
            (λ i i_lt. ap (λ (w : Workspace). are_good_savepoints (saved_names w.marks)) (at_vs i i_lt) ∙ ap are_good_savepoints (saved_vs i)
            ∙ s.saved i (subst (λ n. i < n) below_length i_lt))
            (ap (λ (w : Workspace). are_good_savepoints (saved_names w.marks)) last);
        marked = λ i some i_lt n. placed {P = λ i. 0 < i → mark_count (workspace_at us i).marks n ≡ child_count us (workspace_at us i).name n} vs leaf
            (λ i i_lt some.
            let was = subst (λ n. i < n) below_length i_lt in
            ap (λ (w : Workspace). mark_count w.marks n) (at_vs i i_lt) ∙ marks_of i was some n
            ∙ ap (λ k. k + cond (bytes_eq (workspace_at ws i).name (workspace_at ws p).name && bytes_eq n name) 1 0) (s.marked i some was n)
            ∙ sym (children_of_us i was n)
            ∙ ap (λ (m : Name). child_count us m n) (sym (ap (λ (w : Workspace). w.name) (at_vs i i_lt) ∙ name_vs i)))
            (λ some. ap (λ (w : Workspace). mark_count w.marks n) last ∙ sym (leaf_counted n) ∙ ap (λ (w : Workspace). child_count us w.name n) (sym last))
            i i_lt some;
      }

-- a leaf goes ----------------------------------------------------------------------------------------

module _ (ws : List Workspace) (at p : ℕ) (s : IsSound ws) (some : 0 < at) (lt : at < length ws) (free : (k : ℕ) → 0 < k → k < length ws →
    bytes_eq (workspace_at ws at).name (workspace_at ws k).parent ≡ true → ⊥) (parent : parent_of ws at ≡ Some p) (up : p < at) where
  abbrev gone : List Workspace
  gone = remove ws at

  abbrev child : Name
  child = (workspace_at ws at).name

  abbrev dropped : Workspace
  dropped = with_marks (without_mark_of child) (workspace_at gone p)

  abbrev left : List Workspace
  left = change_workspace gone p (with_marks (without_mark_of child))

  rooted_gone : IsRooted gone
  rooted_gone = rooted_removed ws at s.rooted some lt free

  was : (i : ℕ) → workspace_at gone i ≡ workspace_at ws (opened at i)
  was i = was_at ws at s.rooted some lt free i

  less : length gone + 1 ≡ length ws
  less = length-remove ws at lt

  p_gone : p < length gone
  p_gone = let l = less in omega (arith, l, up, lt)

  p_was : workspace_at gone p ≡ workspace_at ws p
  p_was = was p ∙ ap (workspace_at ws) (opened-same at p up)

  depth_gone : (m i : ℕ) → i < m → i < length gone → depth_of gone i ≡ depth_of ws (opened at i)
  depth_gone zero i i_m i_lt = absurd (omega arith)
  depth_gone (suc m) i i_m i_lt = ⊎_elim
      (λ (first : i ≡ 0). ap (depth_of gone) first ∙ depth_zero gone rooted_gone
      ∙ sym (ap (λ k. depth_of ws (opened at k)) first ∙ ap (depth_of ws) (opened-first at some) ∙ depth_zero ws s.rooted))
      (λ (later : 0 < i).
      let q = parent_removed ws at s.rooted some lt free i later i_lt in
      depth_step gone i (closed_at at q.0) rooted_gone i_lt q.4 q.5
      ∙ ap (λ d. d + 1) (depth_gone m (closed_at at q.0) (omega (arith, q.5, i_m)) (omega (arith, q.5, i_lt)) ∙ ap (depth_of ws) (opened-closed at q.0 q.3))
      ∙ sym (depth_step ws (opened at i) q.0 s.rooted (was_in ws at s.rooted some lt free i i_lt) q.1 q.2))
      (split i)

  children_gone : (m n : Name) → child_count ws m n ≡ child_count gone m n + cond (bytes_eq m (workspace_at ws at).parent && bytes_eq n child) 1 0
  children_gone m n = count-remove (is_child_named m n) ws at no_workspace lt

  children_left : (m n : Name) → child_count left m n ≡ child_count gone m n
  children_left m n = count-set (is_child_named m n) gone p dropped no_workspace refl

  named : (workspace_at ws at).parent ≡ (workspace_at ws p).name
  named = find_named ws (workspace_at ws at).parent p parent

  -- the parent's marks are those of the children that are left
  marks_p : 0 < p → (n : Name) → mark_count (without_mark_of child (workspace_at ws p).marks) n ≡ child_count gone (workspace_at ws p).name n
  marks_p p_some n =
      let p_lt : p < length ws = omega (arith, up, lt) in
      let counted = s.marked p p_some p_lt n ∙ children_gone (workspace_at ws p).name n in
      count-dropped n child (workspace_at ws p).marks ∙ by (bytes_eq n child) refl counted (one_child ws at p s.rooted lt parent)
    where
      by : (b : Bool) → bytes_eq n child ≡ b
          → mark_count (workspace_at ws p).marks n ≡ child_count gone (workspace_at ws p).name n + cond
          (bytes_eq (workspace_at ws p).name (workspace_at ws at).parent && bytes_eq n child) 1 0
          → child_count ws (workspace_at ws p).name child ≡ 1
          → cond (bytes_eq n child) 0 (mark_count (workspace_at ws p).marks n) ≡ child_count gone (workspace_at ws p).name n
      by true e counted once =
          let same : n ≡ child = (bytes_decides n child).0 e in
          let all : child_count ws (workspace_at ws p).name n ≡ 1 = ap (child_count ws (workspace_at ws p).name) same ∙ once in
          let split_off = sym all ∙ children_gone (workspace_at ws p).name n in
          let here : (bytes_eq (workspace_at ws p).name (workspace_at ws at).parent && bytes_eq n child) ≡ true =
          rw (named, itself (workspace_at ws p).name, e) refl in
          let rest : 1 ≡ child_count gone (workspace_at ws p).name n + 1 = split_off ∙ ap (λ b. child_count gone (workspace_at ws p).name n + cond b 1 0)
          here in
          ap (λ b. cond b 0 (mark_count (workspace_at ws p).marks n)) e ∙ omega (arith, rest)
      by false e counted once =
          ap (λ b. cond b 0 (mark_count (workspace_at ws p).marks n)) e ∙ counted
          ∙ ap (λ b. child_count gone (workspace_at ws p).name n + cond (bytes_eq (workspace_at ws p).name (workspace_at ws at).parent && b) 1 0) e
          ∙ ap (λ b. child_count gone (workspace_at ws p).name n + cond b 1 0) (and-false (bytes_eq (workspace_at ws p).name (workspace_at ws at).parent))
          ∙ zero_more (child_count gone (workspace_at ws p).name n)
        where
          zero_more : (k : ℕ) → k + 0 ≡ k
          zero_more k = omega arith

  -- the marks of all workspaces but the parent are as they were
  marks_other : (j : ℕ) → 0 < j → j < length ws → j ≢ p → (n : Name) → mark_count (workspace_at ws j).marks n ≡ child_count gone (workspace_at ws j).name n
  marks_other j j_some j_lt other n =
      let p_lt : p < length ws = omega (arith, up, lt) in
      let apart : bytes_eq (workspace_at ws j).name (workspace_at ws at).parent ≡ false =
      differ _ _ (λ e. other (same_Some j p (sym (s.rooted.own j j_lt) ∙ ap (find ws) (e ∙ named) ∙ s.rooted.own p p_lt))) in
      s.marked j j_some j_lt n ∙ children_gone (workspace_at ws j).name n
      ∙ ap (λ b. child_count gone (workspace_at ws j).name n + cond (b && bytes_eq n child) 1 0) apart
      ∙ zero_more (child_count gone (workspace_at ws j).name n)
    where
      zero_more : (k : ℕ) → k + 0 ≡ k
      zero_more k = omega arith

  live_gone : IsLive (workspace_at gone 0)
  live_gone = subst IsLive (sym (was 0 ∙ ap (workspace_at ws) (opened-first at some))) (s.base, s.bare, s.held)

  live_dropped : p ≡ 0 → IsLive dropped
  live_dropped first =
      let live = live_gone in
      let here = ap (workspace_at gone) first in (
        ap (λ (w : Workspace). w.base) here ∙ live.0,
        ap (λ (w : Workspace). without_mark_of child w.marks) here ∙ ap (without_mark_of child) live.1,
        ap (λ (w : Workspace). w.kept) here ∙ live.2,
      )

  pub sound_removed : IsSound (after_remove_under ws at p)
  sound_removed =
      let in_gone : (i : ℕ) → i < length left → i < length gone = λ i i_lt. subst (λ n. i < n) (length-set gone p dropped) i_lt in
      let top = each_set IsLive gone p dropped 0 p_gone (λ same. live_dropped (sym same)) (λ other. live_gone) in
      record {
        rooted = rooted_set gone p dropped refl refl rooted_gone;
        few = let few = s.few in let l = less in let same = length-set gone p dropped in omega (arith, few, l, same);
        shallow = λ i i_lt.
            let same = depth_same gone left i i (parent_set gone p dropped refl refl) ∙ depth_gone (suc i) i (omega arith) (in_gone i i_lt) in
            let was_shallow = s.shallow (opened at i) (was_in ws at s.rooted some lt free i (in_gone i i_lt)) in
            omega (arith, same, was_shallow);
        base = top.0;
        bare = top.1;
        held = top.2;
        saved = λ i i_lt. each_set (λ v. are_good_savepoints (saved_names v.marks) ≡ true) gone p dropped i p_gone
            (λ same. ap are_good_savepoints (names_dropped child (workspace_at gone p).marks)
            ∙ ap (λ (w : Workspace). are_good_savepoints (saved_names w.marks)) p_was ∙ s.saved p (omega (arith, up, lt)))
            (λ other. ap (λ (w : Workspace). are_good_savepoints (saved_names w.marks)) (was i)
            ∙ s.saved (opened at i) (was_in ws at s.rooted some lt free i (in_gone i i_lt)));
        marked = λ i later i_lt n. each_set (λ v. mark_count v.marks n ≡ child_count left v.name n) gone p dropped i p_gone
            (λ same.
            ap (λ (w : Workspace). mark_count (without_mark_of child w.marks) n) p_was ∙ marks_p (subst (λ k. 0 < k) same later) n
            ∙ sym (children_left (workspace_at ws p).name n) ∙ ap (λ (w : Workspace). child_count left w.name n) (sym p_was))
            (λ other.
            let j = opened at i in
            ap (λ (w : Workspace). mark_count w.marks n) (was i)
            ∙ marks_other j (opened-later at i later) (was_in ws at s.rooted some lt free i (in_gone i i_lt)) (opened-apart at p i up other) n
            ∙ sym (children_left (workspace_at ws j).name n) ∙ ap (λ (w : Workspace). child_count left w.name n) (sym (was i)));
      }

-- LIVE alone -----------------------------------------------------------------------------------------

pub root_sound : (live : Content) → IsSound (live_workspace live ∷ [])
unfolding is_good_name depth_within
root_sound live = record {
  rooted = record {
    filled = omega arith;
    live = refl;
    top = refl;
    good = λ i lt. let first : i ≡ 0 = omega arith in rw first refl;
    own = λ i lt. let first : i ≡ 0 = omega arith in rw first refl;
    under = λ i later lt. absurd (omega arith);
  };
  few = omega arith;
  shallow = λ i lt. let first : i ≡ 0 = omega arith in rw first (omega arith);
  base = refl;
  bare = refl;
  held = refl;
  saved = λ i lt. let first : i ≡ 0 = omega arith in rw first refl;
  marked = λ i later lt. absurd (omega arith);
}
