-- A leaf has no children, and goes.
use Rattle.std.proofs.Common.{◌≡◌, ℕ, suc, zero, ◌+◌, ◌<◌, ◌≤◌, Bool, true, false, cond, List, [], ◌∷◌, length, map, Some, refl, ap, sym, subst, ◌∙◌}
use Rattle.std.proofs.Common.{arith, remove}
use Rattle.std.proofs.lemmas.List.Edits.{length-remove}
use Rattle.std.specs.Prelude.{count_by, fold}
use Rattle.std.specs.Str.{bytes_eq}
use Rattle.clr_rows.specs.Contents.{Content}
use Rattle.clr_workspaces.specs.Marks.{Name, without_mark_of}
use Rattle.clr_workspaces.specs.Workspaces.{Workspace, workspace_at, parent_of, children_of}
use Rattle.clr_deltas.specs.Deltas.{Delta, delta_at, delta_changed, top, wholes, IsUnder, stored_without_mark_of}
use Rattle.clr_deltas.proofs.Meaning.{length-wholes, name-wholes, parent-wholes, parents-wholes}
use Rattle.clr_deltas.proofs.Places.{leaf_removed}
use Rattle.clr_workspaces.specs.Operations.{change_workspace, with_marks, at_position, after_remove, after_remove_under}
use Rattle.clr_workspaces.specs.Roots.{IsRooted}
use Rattle.clr_workspaces.proofs.LeafLemmas.{rooted_removed}
use Rattle.clr_contents.proofs.ReadLemmas.{within_wholes}
use Rattle.clr_operations.proofs.OperationLemmas.{mark_dropped}

-- a leaf has no children ---------------------------------------------------------------------------

module _ {A : Type 0} (g : A → Name) (name : Name) where
  counted : (xs : List A) (n : ℕ) → fold (λ a x. a + cond (bytes_eq name (g x)) 1 0) n xs ≡ fold (λ a y. a + cond (bytes_eq name y) 1 0) n (map g xs)
  counted [] n = refl
  counted (x ∷ xs) n = counted xs (n + cond (bytes_eq name (g x)) 1 0)

pub children-wholes : (live : Content) (ls : List Delta) (name : Name) → count_by (λ (l : Delta). bytes_eq name l.parent) ls ≡ children_of (wholes live ls) name
children-wholes live ls name =
    counted (λ (l : Delta). l.parent) name ls 0 ∙ ap (λ (ps : List Name). fold (λ a y. a + cond (bytes_eq name y) 1 0) 0 ps) (sym (parents-wholes live ls))
    ∙ sym (counted (λ (w : Workspace). w.parent) name (wholes live ls) 0)

fold_grows : (name : Name) (ls : List Delta) (n : ℕ) → n ≤ fold (λ a (l : Delta). a + cond (bytes_eq name l.parent) 1 0) n ls
fold_grows name [] n = omega arith
fold_grows name (l ∷ ls) n = let more = fold_grows name ls (n + cond (bytes_eq name l.parent) 1 0) in omega (arith, more)

none_counted : (name : Name) (ls : List Delta) → fold (λ a (l : Delta). a + cond (bytes_eq name l.parent) 1 0) 0 ls ≡ 0 → (k : ℕ) → k < length ls
    → IsUnder name (delta_at ls k) → ⊥
none_counted name [] none k lt under = absurd (omega arith)
none_counted name (l ∷ ls) none zero lt under =
    let one : fold (λ a (m : Delta). a + cond (bytes_eq name m.parent) 1 0) 1 ls ≡ 0 =
    ap (λ (b : Bool). fold (λ a (m : Delta). a + cond (bytes_eq name m.parent) 1 0) (0 + cond b 1 0) ls) (sym under) ∙ none in
    let more = fold_grows name ls 1 in
    absurd (omega (arith, one, more))
none_counted name (l ∷ ls) none (suc k) lt under = none_counted name ls (by (bytes_eq name l.parent) none) k (omega arith) under
  where
    by : (b : Bool) → fold (λ a (m : Delta). a + cond (bytes_eq name m.parent) 1 0) (0 + cond b 1 0) ls ≡ 0
        → fold (λ a (m : Delta). a + cond (bytes_eq name m.parent) 1 0) 0 ls ≡ 0
    by true e = let more = fold_grows name ls 1 in absurd (omega (arith, e, more))
    by false e = e

pub no_child : (live : Content) (ls : List Delta) (at : ℕ) → children_of (wholes live ls) (workspace_at (wholes live ls) at).name ≡ 0 → (k : ℕ) → 0 < k
    → k < length ls → IsUnder (delta_at ls at).name (delta_at ls k) → ⊥
no_child live ls at none k some lt under =
    none_counted (delta_at ls at).name ls (children-wholes live ls (delta_at ls at).name ∙ ap (children_of (wholes live ls)) (sym (name-wholes live ls at))
    ∙ none) k lt under

-- REMOVE -------------------------------------------------------------------------------------------

-- LIVE has no marks
live_dropped : (live : Content) (ls : List Delta) (child : Name)
    → wholes live (delta_changed ls 0 (λ l. record l { marks = stored_without_mark_of child l.marks }))
    ≡ change_workspace (wholes live ls) 0 (with_marks (without_mark_of child))
unfolding wholes top
live_dropped live [] child = refl
live_dropped live (l ∷ ls) child = refl

pub any_dropped : (live : Content) (ls : List Delta) (p : ℕ) (child : Name) → IsRooted (wholes live ls) → p < length ls
    → wholes live (delta_changed ls p (λ l. record l { marks = stored_without_mark_of child l.marks }))
    ≡ change_workspace (wholes live ls) p (with_marks (without_mark_of child))
any_dropped live ls zero child r lt = live_dropped live ls child
any_dropped live ls (suc p) child r lt = mark_dropped live ls (suc p) r (omega arith) lt child

-- no workspace has a leaf as its parent, among whole workspaces
pub no_child_whole : (live : Content) (ls : List Delta) (at : ℕ) → children_of (wholes live ls) (workspace_at (wholes live ls) at).name ≡ 0
    → (k : ℕ) → 0 < k → k < length (wholes live ls) → bytes_eq (workspace_at (wholes live ls) at).name (workspace_at (wholes live ls) k).parent ≡ true → ⊥
no_child_whole live ls at none k some lt under =
    no_child live ls at none k some (subst (λ n. k < n) (length-wholes live ls) lt) (sym (λ i. bytes_eq (name-wholes live ls at i) (parent-wholes live ls k i))
    ∙ under)

module _ (live : Content) (ls : List Delta) (at p : ℕ) (r : IsRooted (wholes live ls)) (some : 0 < at) (lt : at < length ls)
    (none : children_of (wholes live ls) (workspace_at (wholes live ls) at).name ≡ 0) (up : p < at) where
  pub gone : wholes live (remove ls at) ≡ remove (wholes live ls) at
  gone = leaf_removed live ls at some lt (no_child live ls at none)

  pub parent_left : p < length (remove ls at)
  parent_left = let less = length-remove ls at lt in omega (arith, less, up, lt)

  pub removed_is : parent_of (wholes live ls) at ≡ Some p
      → wholes live (delta_changed (remove ls at) p (λ l. record l { marks = stored_without_mark_of (workspace_at (wholes live ls) at).name l.marks }))
      ≡ after_remove (wholes live ls) at
  removed_is parent =
      let child = (workspace_at (wholes live ls) at).name in
      let rooted : IsRooted (wholes live (remove ls at)) =
      subst IsRooted (sym gone) (rooted_removed (wholes live ls) at r some (within_wholes live ls at lt) (no_child_whole live ls at none)) in
      any_dropped live (remove ls at) p child rooted parent_left
      ∙ ap (λ (vs : List Workspace). change_workspace vs p (with_marks (without_mark_of child))) gone
      ∙ ap (λ o. at_position (wholes live ls) o (after_remove_under (wholes live ls) at)) (sym parent)
