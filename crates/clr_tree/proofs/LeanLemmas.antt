-- Where no difference is neutral, a delta has just what it needs.
use Rattle.std.proofs.Common.{◌≡◌, ℕ, ◌+◌, ◌<◌, List, [], ◌∷◌, length, map, refl, ap, sym, subst, ◌∙◌}
use Rattle.std.specs.declared.option.Option.{Option}
use Rattle.std.specs.FinMap as finite
use Rattle.clr_rows.specs.declared.cells.CellId.{CellId}
use Rattle.clr_rows.specs.declared.rows.Row.{Row}
use Rattle.clr_rows.specs.Contents.{Content, row_at}
use Rattle.clr_deltas.specs.Differences.{differences_from, IsOwnOver}
use Rattle.clr_deltas.proofs.SweepLemmas.{own_differences, swept_own}
use Rattle.clr_deltas.specs.Differing.{mark_from}
use Rattle.clr_workspaces.specs.Workspaces.{Workspace, workspace_at}
use Rattle.clr_deltas.specs.Deltas.{Delta, delta_at, stored_in, whole_mark, wholes, stored_in_mark, AreOwnOver}
use Rattle.clr_deltas.specs.declared.stored_marks.StoredMark.{StoredMark}
use Rattle.clr_deltas.specs.declared.stored_marks.StoredMark.TheVariants as kinds
use Rattle.clr_deltas.proofs.Meaning.{name-wholes, parent-wholes}
use Rattle.clr_workspaces.specs.Roots.{IsRooted}
use Rattle.clr_contents.proofs.ReadLemmas.{current-wholes, kept-wholes, marks-wholes}
use Rattle.clr_contents.proofs.SweepLemmas.{base_is}
use Rattle.clr_contents.specs.Lean.{IsLeanOver}
use Rattle.clr_tree.specs.Trees.{needed, needed_delta, needed_of_marks, stored_of_marks}
use Rattle.clr_contents.specs.Lean.{content_of_parent, swept_marks}
use Rattle.clr_contents.proofs.LeanLemmas.{base_row}
use Rattle.clr_tree.proofs.SweepLemmas.{count_swept, count_saved}

marks_as_swept : (base : Content) (ms : List StoredMark) → ((q : CellId) → AreOwnOver (row_at base q) q ms) → swept_marks base ms ≡ ms
marks_as_swept base [] own = refl
marks_as_swept base (kinds.Saved name d ∷ ms) own = λ i. kinds.Saved name (swept_own base d (λ q. (own q).0) i) ∷ marks_as_swept base ms (λ q. (own q).1) i
marks_as_swept base (kinds.Child name ∷ ms) own = ap (λ (ns : List StoredMark). kinds.Child name ∷ ns) (marks_as_swept base ms (λ q. (own q).1))

-- where no difference is neutral, marks are what their contents differ in from the base
marks_differing : (base : Content) (ms : List StoredMark) → ((q : CellId) → AreOwnOver (row_at base q) q ms) → ms
    ≡ map (mark_from base) (map (whole_mark base) ms)
marks_differing base [] own = refl
marks_differing base (kinds.Saved name d ∷ ms) own = λ i. kinds.Saved name (own_differences base d (λ q. (own q).0) i)
    ∷ marks_differing base ms (λ q. (own q).1) i
marks_differing base (kinds.Child name ∷ ms) own = ap (λ (ns : List StoredMark). kinds.Child name ∷ ns) (marks_differing base ms (λ q. (own q).1))

module _ (live : Content) (ls : List Delta) (k : ℕ) (r : IsRooted (wholes live ls)) (some : 0 < k) (lt : k < length ls) where
  abbrev ws : List Workspace
  ws = wholes live ls

  abbrev l : Delta
  l = delta_at ls k

  abbrev above : Content
  above = content_of_parent ws k

  abbrev base : Content
  base = (workspace_at ws k).base

  module _ (lean : IsLeanOver (wholes live ls) k (delta_at ls k)) where
    current_own : (q : CellId) → IsOwnOver (row_at base q) (finite.get l.current q)
    current_own q = subst (λ (v : Option Row). IsOwnOver v (finite.get l.current q)) (sym (base_row live ls k r some lt l.base refl q)) (lean q).current

    saved_own : (q : CellId) → AreOwnOver (row_at base q) q l.marks
    saved_own q = subst (λ (v : Option Row). AreOwnOver v q l.marks) (sym (base_row live ls k r some lt l.base refl q)) (lean q).saved

    pub lean_count : stored_in (delta_at ls k) ≡ needed (wholes live ls) k
    lean_count =
        let same = swept_own above l.base (λ q. (lean q).base) in
        let alike = swept_own base l.current current_own in
        sym (λ i. length (finite.keys (same i)) + length (finite.keys (alike i))) ∙ count_swept live ls k r some lt

    pub lean_saved : stored_of_marks (delta_at ls k) ≡ needed_of_marks (wholes live ls) k
    lean_saved = ap (λ (ms : List StoredMark). map stored_in_mark ms) (sym (marks_as_swept base l.marks saved_own)) ∙ count_saved live ls k r some lt

    -- the law of deltas without neutral differences: each is what its whole workspace differs in
    pub lean_delta : delta_at ls k ≡ needed_delta (wholes live ls) k
    lean_delta =
        let name = sym (name-wholes live ls k) in
        let parent = sym (parent-wholes live ls k) in
        let from_base = own_differences above l.base (λ q. (lean q).base) ∙ ap (differences_from above) (sym (base_is live ls k r some lt)) in
        let from_current = own_differences base l.current current_own ∙ ap (differences_from base) (sym (current-wholes live ls k some lt)) in
        let marks = marks_differing base l.marks saved_own ∙ ap (map (mark_from base)) (sym (marks-wholes live ls k some lt)) in
        let kept = sym (kept-wholes live ls k some lt) in
        λ i. record { name = name i; parent = parent i; base = from_base i; current = from_current i; marks = marks i; kept = kept i }
