-- What keeps a tree sound.
use Rattle.std.proofs.Common.{◌≡◌, ℕ, suc, zero, ◌+◌, ◌<◌, ◌≢◌, ⊎_elim, Bool, true, false, cond, not, ◌&&◌, List, [], ◌∷◌, ◌++◌, length, take, drop, refl, ap}
use Rattle.std.proofs.Common.{sym, ◌∙◌, subst, arith, slice_set, remove}
use Rattle.std.specs.Str.{bytes_eq}
use Rattle.std.specs.Cmp.Lexicographic.{bytes_decides}
use Rattle.std.proofs.lemmas.Bool.{cases_eq}
use Rattle.std.proofs.lemmas.List.{length-set, get_or-set_same, get_or-set_other}
use Rattle.clr_rows.specs.Contents.{no_rows}
use Rattle.clr_workspaces.specs.Marks.{Name, Mark, Saved, ChildMark, is_saved, is_mark_of, mark_at, mark_count, saved_names, without_saved, without_mark_of}
use Rattle.clr_workspaces.specs.Workspaces.{Workspace, no_workspace, workspace_at, is_child_named, child_count}
use Rattle.clr_workspaces.specs.Soundness.{are_good_savepoints, IsSound}
use Rattle.clr_workspaces.proofs.CountLemmas.{tally, count-tally, count-append, count-set}
use Rattle.clr_workspaces.proofs.RootLemmas.{rooted_set, parent_set}
use Rattle.clr_workspaces.proofs.DepthLemmas.{depth_same}

-- marks --------------------------------------------------------------------------------------------

module _ (n : Name) where
  -- savepoints don't count
  pub count-without_saved : (ms : List Mark) → mark_count (without_saved ms) n ≡ mark_count ms n
  count-without_saved ms = count-tally (is_mark_of n) (without_saved ms) ∙ by ms ∙ sym (count-tally (is_mark_of n) ms)
    where
      by : (ms : List Mark) → tally (is_mark_of n) (without_saved ms) ≡ tally (is_mark_of n) ms
      by [] = refl
      by (Saved name content ∷ ms) = by ms
      by (ChildMark name ∷ ms) = ap (λ k. cond (bytes_eq n name) (suc k) k) (by ms)

  pub count-cut : (ms : List Mark) (i : ℕ) → mark_count (take i ms ++ without_saved (drop i ms)) n ≡ mark_count ms n
  count-cut ms i =
      count-append (is_mark_of n) (take i ms) (without_saved (drop i ms)) ∙ ap (λ k. mark_count (take i ms) n + k) (count-without_saved (drop i ms))
      ∙ sym (count-append (is_mark_of n) (take i ms) (drop i ms)) ∙ ap (λ (xs : List Mark). mark_count xs n) (whole i ms)
    where
      whole : (i : ℕ) (ms : List Mark) → take i ms ++ drop i ms ≡ ms
      whole zero ms = refl
      whole (suc i) [] = refl
      whole (suc i) (m ∷ ms) = ap (λ xs. m ∷ xs) (whole i ms)

  -- a savepoint that goes didn't count
  pub count-unmarked : (ms : List Mark) (i : ℕ) → is_saved (mark_at ms i) ≡ true → mark_count (remove ms i) n ≡ mark_count ms n
  count-unmarked ms i saved = count-tally (is_mark_of n) (remove ms i) ∙ by ms i saved ∙ sym (count-tally (is_mark_of n) ms)
    where
      by : (ms : List Mark) (i : ℕ) → is_saved (mark_at ms i) ≡ true → tally (is_mark_of n) (remove ms i) ≡ tally (is_mark_of n) ms
      by [] i saved = absurd (cc)
      by (Saved name content ∷ ms) zero saved = refl
      by (ChildMark name ∷ ms) zero saved = absurd (cc)
      by (m ∷ ms) (suc i) saved = ap (λ k. cond (is_mark_of n m) (suc k) k) (by ms i saved)

  -- the marks of a child dropped
  same_child : (child name : Name) → bytes_eq child name ≡ true → bytes_eq n name ≡ bytes_eq n child
  same_child child name e = ap (bytes_eq n) (sym ((bytes_decides child name).0 e))

  other_child : (child name : Name) → bytes_eq n child ≡ true → bytes_eq child name ≡ false → bytes_eq n name ≡ false
  other_child child name e d = ap (λ m. bytes_eq m name) ((bytes_decides n child).0 e) ∙ d

  tally-child : (child : Name) (ms : List Mark) → bytes_eq n child ≡ true → tally (is_mark_of n) (without_mark_of child ms) ≡ 0
  tally-child child [] e = refl
  tally-child child (Saved name content ∷ ms) e = tally-child child ms e
  tally-child child (ChildMark name ∷ ms) e = by (bytes_eq child name) refl (tally-child child ms e)
    where
      by : (c : Bool) → bytes_eq child name ≡ c → tally (is_mark_of n) (without_mark_of child ms) ≡ 0 →
          tally (is_mark_of n) (cond (not c) (ChildMark name ∷ without_mark_of child ms) (without_mark_of child ms)) ≡ 0
      by true d rest = rest
      by false d rest = ap (λ t. cond t (suc (tally (is_mark_of n) (without_mark_of child ms))) (tally (is_mark_of n) (without_mark_of child ms)))
          (other_child child name e d) ∙ rest

  tally-others : (child : Name) (ms : List Mark) → bytes_eq n child ≡ false → tally (is_mark_of n) (without_mark_of child ms) ≡ tally (is_mark_of n) ms
  tally-others child [] e = refl
  tally-others child (Saved name content ∷ ms) e = tally-others child ms e
  tally-others child (ChildMark name ∷ ms) e = by (bytes_eq child name) refl (tally-others child ms e)
    where
      by : (c : Bool) → bytes_eq child name ≡ c → tally (is_mark_of n) (without_mark_of child ms) ≡ tally (is_mark_of n) ms
          → tally (is_mark_of n) (cond (not c) (ChildMark name ∷ without_mark_of child ms) (without_mark_of child ms)) ≡ cond (bytes_eq n name)
          (suc (tally (is_mark_of n) ms)) (tally (is_mark_of n) ms)
      by true d rest = rest ∙ sym (ap (λ t. cond t (suc (tally (is_mark_of n) ms)) (tally (is_mark_of n) ms)) (same_child child name d ∙ e))
      by false d rest = ap (λ k. cond (bytes_eq n name) (suc k) k) rest

  pub count-dropped : (child : Name) (ms : List Mark) → mark_count (without_mark_of child ms) n ≡ cond (bytes_eq n child) 0 (mark_count ms n)
  count-dropped child ms = by (bytes_eq n child) refl
    where
      by : (b : Bool) → bytes_eq n child ≡ b → mark_count (without_mark_of child ms) n ≡ cond b 0 (mark_count ms n)
      by true e = count-tally (is_mark_of n) (without_mark_of child ms) ∙ tally-child child ms e
      by false e = count-tally (is_mark_of n) (without_mark_of child ms) ∙ tally-others child ms e ∙ sym (count-tally (is_mark_of n) ms)

-- one workspace replaced ---------------------------------------------------------------------------

-- what holds of the new one, and of each other, holds at each position
pub each_set : (P : Workspace → Type 0) (ws : List Workspace) (at : ℕ) (w : Workspace) (i : ℕ) → at < length ws → (i ≡ at → P w) →
    (i ≢ at → P (workspace_at ws i)) → P (workspace_at (slice_set ws at w) i)
each_set P ws at w i lt here there = ⊎_elim
    (λ (same : i ≡ at). subst P (sym (ap (workspace_at (slice_set ws at w)) same ∙ get_or-set_same ws at w no_workspace lt)) (here same))
    (λ (other : i ≢ at). subst P (sym (get_or-set_other ws at i w no_workspace other)) (there other))
    (cases_eq i at)

-- what LIVE has besides its content
abbrev pub IsLive : Workspace → Type 0
IsLive w = (w.base ≡ no_rows) × (w.marks ≡ []) × (w.kept ≡ true)

module _ (ws : List Workspace) (at : ℕ) (w : Workspace) (s : IsSound ws) (lt : at < length ws) (name : w.name ≡ (workspace_at ws at).name)
    (parent : w.parent ≡ (workspace_at ws at).parent) where
  abbrev new : List Workspace
  new = slice_set ws at w

  children_set : (p n : Name) → child_count (slice_set ws at w) p n ≡ child_count ws p n
  children_set p n = count-set (is_child_named p n) ws at w no_workspace (λ i. bytes_eq p (parent i) && bytes_eq n (name i))

  pub sound_set : (at ≡ 0 → IsLive w) → are_good_savepoints (saved_names w.marks) ≡ true →
      ((n : Name) → mark_count w.marks n ≡ mark_count (workspace_at ws at).marks n) → IsSound (slice_set ws at w)
  sound_set live saved marks =
      let before : (i : ℕ) → i < length new → i < length ws = λ i i_lt. subst (λ n. i < n) (length-set ws at w) i_lt in
      let top = each_set IsLive ws at w 0 lt (λ same. live (sym same)) (λ other. (s.base, s.bare, s.held)) in
      record {
        rooted = rooted_set ws at w name parent s.rooted;
        few = let few = s.few in let same = length-set ws at w in omega (arith, few, same);
        shallow = λ i i_lt. let was = s.shallow i (before i i_lt) in let same = depth_same ws new i i (parent_set ws at w name parent) in
            omega (arith, was, same);
        base = top.0;
        bare = top.1;
        held = top.2;
        saved = λ i i_lt. each_set (λ v. are_good_savepoints (saved_names v.marks) ≡ true) ws at w i lt (λ same. saved) (λ other. s.saved i (before i i_lt));
        marked = λ i some i_lt n. each_set (λ v. mark_count v.marks n ≡ child_count new v.name n) ws at w i lt
            (λ same. marks n ∙ s.marked at (subst (λ k. 0 < k) same some) lt n ∙ ap (λ m. child_count ws m n) (sym name) ∙ sym (children_set w.name n))
            (λ other. s.marked i some (before i i_lt) n ∙ sym (children_set (workspace_at ws i).name n));
      }
