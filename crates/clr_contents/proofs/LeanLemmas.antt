-- Deltas without neutral differences after a sweep.
use Rattle.std.proofs.Common.{◌≡◌, ◌≢◌, ℕ, ◌<◌, Bool, true, false, List, [], ◌∷◌, length, map, unwrap_or, refl, ap, sym, subst, ◌∙◌}
use Rattle.std.specs.declared.option.Option.{Option}
use Rattle.std.specs.FinMap as finite
use Rattle.clr_rows.specs.declared.cells.CellId.{CellId}
use Rattle.clr_rows.specs.declared.rows.Row.{Row}
use Rattle.clr_rows.specs.Cells.{cell_cmp}
use Rattle.clr_rows.specs.Contents.{Content, row_at}
use Rattle.clr_deltas.specs.Differences.{Differences, no_differences, seen_over, without_neutral, swept_at, is_among, IsOwnOver}
use Rattle.clr_deltas.proofs.DifferenceLemmas.{row-seen_over}
use Rattle.clr_deltas.proofs.SweepLemmas.{seen-swept, seen-swept_at, own_swept, own_made, own_stays}
use Rattle.clr_workspaces.specs.Marks.{Saved, ChildMark}
use Rattle.clr_workspaces.specs.Workspaces.{Workspace, workspace_at}
use Rattle.clr_deltas.specs.Deltas.{Delta, delta_at, whole_mark, wholes, AreOwnOver, IsUnder}
use Rattle.clr_deltas.specs.declared.stored_marks.StoredMark.{StoredMark}
use Rattle.clr_deltas.specs.declared.stored_marks.StoredMark.TheVariants as kinds
use Rattle.clr_workspaces.specs.Roots.{IsRooted}
use Rattle.clr_contents.specs.Lean.{content_of_parent, row_above, swept_marks, swept_marks_at, IsLeanAt, IsLeanBeside, IsLeanOver}
use Rattle.clr_contents.proofs.ReadLemmas.{under_its_parent}
use Rattle.clr_contents.proofs.SweepLemmas.{base_is}

-- marks --------------------------------------------------------------------------------------------

pub own_none : (row : Option Row) (q : CellId) → IsOwnOver row (finite.get no_differences q)
own_none row q = subst (IsOwnOver row) (sym (finite.get-empty cell_cmp q)) refl

marks_swept : (base : Content) (ms : List StoredMark) (q : CellId) → AreOwnOver (row_at base q) q (swept_marks base ms)
marks_swept base [] q = tt
marks_swept base (kinds.Saved name d ∷ ms) q = (own_swept base d q, marks_swept base ms q)
marks_swept base (kinds.Child name ∷ ms) q = (own_none (row_at base q) q, marks_swept base ms q)

marks_made : (base : Content) (cells : List CellId) (ms : List StoredMark) (q : CellId) → is_among cells q ≡ true
    → AreOwnOver (row_at base q) q (swept_marks_at base cells ms)
marks_made base cells [] q among = tt
marks_made base cells (kinds.Saved name d ∷ ms) q among = (own_made base cells d q among, marks_made base cells ms q among)
marks_made base cells (kinds.Child name ∷ ms) q among = (own_none (row_at base q) q, marks_made base cells ms q among)

marks_stay : (base : Content) (cells : List CellId) (ms : List StoredMark) (q : CellId) (row : Option Row) → AreOwnOver row q ms
    → AreOwnOver row q (swept_marks_at base cells ms)
marks_stay base cells [] q row own = tt
marks_stay base cells (kinds.Saved name d ∷ ms) q row own = (own_stays base cells d q row own.0, marks_stay base cells ms q row own.1)
marks_stay base cells (kinds.Child name ∷ ms) q row own = (own.0, marks_stay base cells ms q row own.1)

pub seen-swept_marks_at : (cells : List CellId) (b : Content) (ms : List StoredMark) → map (whole_mark b) (swept_marks_at b cells ms) ≡ map (whole_mark b) ms
seen-swept_marks_at cells b [] = refl
seen-swept_marks_at cells b (kinds.Saved name d ∷ ms) = λ i. Saved name (seen-swept_at b cells d i) ∷ seen-swept_marks_at cells b ms i
seen-swept_marks_at cells b (kinds.Child name ∷ ms) = ap (λ ns. ChildMark name ∷ ns) (seen-swept_marks_at cells b ms)

-- one delta swept ----------------------------------------------------------------------------------

module _ (live : Content) (ls : List Delta) (k : ℕ) (r : IsRooted (wholes live ls)) (some : 0 < k) (lt : k < length ls) where
  abbrev ws : List Workspace
  ws = wholes live ls

  abbrev l : Delta
  l = delta_at ls k

  abbrev above : Content
  above = content_of_parent ws k

  abbrev base : Content
  base = (workspace_at ws k).base

  -- the row of the base, from differences that mean the same
  pub base_row : (d : Differences) → seen_over (content_of_parent (wholes live ls) k) d ≡ seen_over (content_of_parent (wholes live ls) k) (delta_at ls k).base
      → (q : CellId)
      → row_at (workspace_at (wholes live ls) k).base q ≡ unwrap_or (finite.get d q) (row_above (wholes live ls) k q)
  base_row d same q = ap (λ (m : Content). row_at m q) (base_is live ls k r some lt ∙ sym same) ∙ row-seen_over above d q

  pub lean_swept : IsLeanOver (wholes live ls) k (record (delta_at ls k) {
    base = without_neutral (content_of_parent (wholes live ls) k) (delta_at ls k).base;
    current = without_neutral (workspace_at (wholes live ls) k).base (delta_at ls k).current;
    marks = swept_marks (workspace_at (wholes live ls) k).base
        (delta_at ls k).marks;
  })
  lean_swept q =
      let row = base_row (without_neutral above l.base) (seen-swept above l.base) q in
      record {
        base = own_swept above l.base q;
        current = subst (λ (v : Option Row). IsOwnOver v (finite.get (without_neutral base l.current) q)) row (own_swept base l.current q);
        saved = subst (λ (v : Option Row). AreOwnOver v q (swept_marks base l.marks)) row (marks_swept base l.marks q);
      }

  module _ (cells : List CellId) where
    abbrev left : Delta
    left = record l { base = swept_at above cells l.base; current = swept_at base cells l.current; marks = swept_marks_at base cells l.marks }

    lean_made : (q : CellId) → is_among cells q ≡ true → IsLeanAt (row_above (wholes live ls) k q) left q
    lean_made q among =
        let row = base_row (swept_at above cells l.base) (seen-swept_at above cells l.base) q in
        record {
          base = own_made above cells l.base q among;
          current = subst (λ (v : Option Row). IsOwnOver v (finite.get (swept_at base cells l.current) q)) row (own_made base cells l.current q among);
          saved = subst (λ (v : Option Row). AreOwnOver v q (swept_marks_at base cells l.marks)) row (marks_made base cells l.marks q among);
        }

    lean_kept : (q : CellId) → IsLeanAt (row_above (wholes live ls) k q) (delta_at ls k) q → IsLeanAt (row_above (wholes live ls) k q) left q
    lean_kept q was =
        let row = sym (base_row l.base refl q) ∙ base_row (swept_at above cells l.base) (seen-swept_at above cells l.base) q in
        record {
          base = own_stays above cells l.base q (row_above ws k q) was.base;
          current = subst (λ (v : Option Row). IsOwnOver v (finite.get (swept_at base cells l.current) q)) row (own_stays base cells l.current q _ was.current);
          saved = subst (λ (v : Option Row). AreOwnOver v q (swept_marks_at base cells l.marks)) row (marks_stay base cells l.marks q _ was.saved);
        }

    pub lean_swept_at : (at : ℕ) → IsLeanBeside (wholes live ls) at cells k (delta_at ls k)
        → IsLeanOver (wholes live ls) k (record (delta_at ls k) {
          base = swept_at (content_of_parent (wholes live ls) k) cells (delta_at ls k).base;
          current =
              swept_at (workspace_at (wholes live ls) k).base cells (delta_at ls k).current;
          marks = swept_marks_at (workspace_at (wholes live ls) k).base cells
              (delta_at ls k).marks;
        })
    lean_swept_at at beside q = by (is_among cells q) refl
      where
        by : (b : Bool) → is_among cells q ≡ b → IsLeanAt (row_above (wholes live ls) k q) left q
        by true e = lean_made q e
        by false e = lean_kept q (beside q (record { other = λ _. e; under = λ _. e }))

  -- a delta that is neither near
  pub lean_apart : (at : ℕ) (cells : List CellId) → k ≢ at → (IsUnder (delta_at ls at).name (delta_at ls k) → ⊥)
      → IsLeanBeside (wholes live ls) at cells k (delta_at ls k) → IsLeanOver (wholes live ls) k (delta_at ls k)
  lean_apart at cells other stranger beside q =
      beside q (record { other = λ e. absurd (other e); under = λ e. absurd (stranger (under_its_parent live ls k at e)) })
