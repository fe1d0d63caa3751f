-- How many differences a sweep leaves.
use Rattle.std.proofs.Common.{◌≡◌, ℕ, suc, zero, ◌+◌, ◌<◌, List, [], ◌∷◌, length, map, refl, ap, sym, ◌∙◌, arith}
use Rattle.std.specs.Prelude.{slice_index_or}
use Rattle.std.specs.FinMap as finite
use Rattle.clr_rows.specs.Cells.{cell_cmp}
use Rattle.clr_rows.specs.Contents.{Content}
use Rattle.clr_rows.proofs.CellOrder.{cell_cmp_total, cell_cmp_exact}
use Rattle.clr_rows.proofs.SortedMaps.{from_sorted-empty}
use Rattle.clr_deltas.specs.Differences.{Differences, RowsByCell, no_differences, without_neutral}
use Rattle.clr_deltas.proofs.SweepLemmas.{count-swept}
use Rattle.clr_workspaces.specs.Marks.{Mark}
use Rattle.clr_workspaces.specs.Workspaces.{Workspace, workspace_at}
use Rattle.clr_deltas.specs.Deltas.{Delta, delta_at, whole_mark, wholes, stored_in_mark}
use Rattle.clr_deltas.specs.declared.stored_marks.StoredMark.{StoredMark}
use Rattle.clr_deltas.specs.declared.stored_marks.StoredMark.TheVariants as kinds
use Rattle.clr_contents.specs.Lean.{content_of_parent, swept_marks}
use Rattle.clr_workspaces.specs.Roots.{IsRooted}
use Rattle.clr_contents.proofs.ReadLemmas.{current-wholes, marks-wholes}
use Rattle.clr_contents.proofs.SweepLemmas.{base_is}
use Rattle.clr_tree.specs.Trees.{change_count, needed, needed_of_mark, needed_of_marks, stored_of_marks}

none_stored : length (finite.keys no_differences) ≡ 0
none_stored =
    ap (λ (d : Differences). length (finite.keys d)) (sym (from_sorted-empty cell_cmp_total cell_cmp_exact))
    ∙ ap (λ (es : RowsByCell). length (map (λ e. e.0) es)) (finite.entries-from_sorted cell_cmp [] tt)

count-swept_marks : (b : Content) (ms : List StoredMark) → map stored_in_mark (swept_marks b ms) ≡ map (needed_of_mark b) (map (whole_mark b) ms)
count-swept_marks b [] = refl
count-swept_marks b (kinds.Saved name d ∷ ms) = λ i. count-swept b d i ∷ count-swept_marks b ms i
count-swept_marks b (kinds.Child name ∷ ms) = λ i. none_stored i ∷ count-swept_marks b ms i

module _ (live : Content) (ls : List Delta) (at : ℕ) (r : IsRooted (wholes live ls)) (some : 0 < at) (lt : at < length ls) where
  abbrev ws : List Workspace
  ws = wholes live ls

  abbrev stored : Delta
  stored = delta_at ls at

  abbrev above : Content
  above = content_of_parent ws at

  pub count_swept : length (finite.keys (without_neutral (content_of_parent (wholes live ls) at) (delta_at ls at).base)) + length
      (finite.keys (without_neutral (workspace_at (wholes live ls) at).base (delta_at ls at).current)) ≡ needed (wholes live ls) at
  count_swept =
      let w = workspace_at ws at in
      let base = count-swept above stored.base ∙ ap (change_count above) (sym (base_is live ls at r some lt)) in
      let current = count-swept w.base stored.current ∙ ap (change_count w.base) (sym (current-wholes live ls at some lt)) in
      λ i. base i + current i

  pub count_saved : stored_of_marks (record (delta_at ls at) { marks = swept_marks (workspace_at (wholes live ls) at).base (delta_at ls at).marks })
      ≡ needed_of_marks (wholes live ls) at
  count_saved =
      let base = (workspace_at ws at).base in
      count-swept_marks base stored.marks ∙ ap (λ (ms : List Mark). map (needed_of_mark base) ms) (sym (marks-wholes live ls at some lt))

-- what is told of a position
pub told_at : {A : Type 0} (f : Delta → A) (none : A) (ls : List Delta) (at : ℕ) → at < length ls → slice_index_or (map f ls) at none ≡ f (delta_at ls at)
told_at f none [] at lt = absurd (omega arith)
told_at f none (l ∷ ls) zero lt = refl
told_at f none (l ∷ ls) (suc at) lt = told_at f none ls at (omega arith)
