-- The changes of a workspace are found among the differences of its current content.
use Rattle.std.proofs.Common.{◌≡◌, Bool, true, false, not, cond, [], ◌∷◌, Some, None, unwrap_or, refl, ap, sym, ◌∙◌}
use Rattle.std.specs.declared.option.Option.{Option}
use Rattle.std.specs.FinMap as finite
use Rattle.std.specs.FinMap.Entries.{find}
use Rattle.std.specs.Ordering.{eq_by_cmp}
use Rattle.clr_rows.specs.declared.cells.CellId.{CellId}
use Rattle.clr_rows.specs.declared.rows.Row.{Row}
use Rattle.clr_rows.specs.declared.cells.Change.{Change}
use Rattle.clr_rows.specs.Cells.{cell_cmp}
use Rattle.clr_rows.specs.Contents.{Content, Changes, row_at, changes}
use Rattle.clr_rows.proofs.SameLemmas.{same_itself}
use Rattle.clr_rows.proofs.ChangeLemmas.{same_changes, get-changes, apart_from_sorted, AreApart}
use Rattle.clr_rows.proofs.RowLemmas.{tied_cells}
use Rattle.clr_change.specs.ChangeSets.{set_change, change_from}
use Rattle.clr_change.proofs.SetLemmas.{get-set_change}
use Rattle.clr_deltas.specs.Differences.{Differences, RowsByCell, seen_over}
use Rattle.clr_deltas.proofs.DifferenceLemmas.{row-seen_over}
use Rattle.clr_contents.specs.SeenRows.{set_each}

-- the change at a cell where there is a difference, over what stood there
abbrev at_difference : Content → CellId → Option Change → Option (Option Row) → Option Change
at_difference base q old None = old
at_difference base q old (Some row) = change_from (row_at base q) row

get-set_each : (base : Content) (es : RowsByCell) (changed : Changes) (q : CellId) → AreApart es → finite.get (set_each base changed es) q
    ≡ at_difference base q (finite.get changed q) (find cell_cmp q es)
unfolding set_each
get-set_each base [] changed q apart = refl
get-set_each base (e ∷ es) changed q apart =
    get-set_each base es (set_change changed e.0 (row_at base e.0) e.1) q apart.1
    ∙ ap (λ (o : Option Change). at_difference base q o (find cell_cmp q es)) (get-set_change changed e.0 (row_at base e.0) e.1 q)
    ∙ by (eq_by_cmp cell_cmp q e.0) refl
  where
    by : (b : Bool) → eq_by_cmp cell_cmp q e.0 ≡ b
        → at_difference base q (cond b (change_from (row_at base e.0) e.1) (finite.get changed q)) (find cell_cmp q es)
        ≡ at_difference base q (finite.get changed q) (cond b (Some e.1) (find cell_cmp q es))
    by true t =
        let same : q ≡ e.0 = tied_cells q e.0 t in
        ap (at_difference base q (change_from (row_at base e.0) e.1)) (ap (λ c. find cell_cmp c es) same ∙ apart.0)
        ∙ ap (λ c. change_from (row_at base c) e.1) (sym same)
    by false t = refl

pub no_change : (a : Option Row) → None ≡ change_from a a
no_change a = sym (ap (λ (b : Bool). let change : Change = record { before = a; after = a } in cond (not b) (Some change) None) (same_itself a))

pub changes_found : (base : Content) (d : Differences) → set_each base finite.empty (finite.entries d) ≡ changes base (seen_over base d)
changes_found base d = same_changes _ _ (λ q.
    get-set_each base (finite.entries d) finite.empty q (apart_from_sorted _ (finite.entries_sorted d))
    ∙ (λ i. at_difference base q (finite.get-empty {X = Change} cell_cmp q i) (sym (finite.get-entries d q) i))
    ∙ by q (finite.get d q)
    ∙ ap (change_from (row_at base q)) (sym (row-seen_over base d q))
    ∙ sym (get-changes base (seen_over base d) q))
  where
    by : (q : CellId) (o : Option (Option Row)) → at_difference base q None o ≡ change_from (row_at base q) (unwrap_or o (row_at base q))
    by q None = no_change (row_at base q)
    by q (Some row) = refl
