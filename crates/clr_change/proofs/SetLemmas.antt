-- The changes of a set after one of them is set, and after those of all cells of a content are.
use Rattle.std.proofs.Common.{◌≡◌, Bool, true, false, cond, not, List, ◌∷◌, is_some, Option, Some, None, refl, sym, ap, ◌∙◌}
use Rattle.std.specs.FinMap as finite
use Rattle.std.specs.Ordering.{eq_by_cmp}
use Rattle.clr_rows.specs.declared.cells.CellId.{CellId}
use Rattle.clr_rows.specs.declared.cells.Change.{Change}
use Rattle.clr_rows.specs.declared.rows.Row.{Row}
use Rattle.clr_rows.specs.Cells.{cell_cmp}
use Rattle.clr_rows.specs.Contents.{Content, Changes, row_at, changes}
use Rattle.clr_rows.specs.Same.{same}
use Rattle.clr_rows.proofs.ChangeLemmas.{get-changes, same_changes}
use Rattle.clr_rows.proofs.CellOrder.{cell_cmp_total}
use Rattle.clr_rows.proofs.RowLemmas.{tied_cells}
use Rattle.clr_change.specs.ChangeSets.{change_from, set_change, AreNoted}

-- a change is a difference
abbrev pub is_different : CellId → Change → Type 0
is_different cell change = same change.before change.after ≡ false

pub get-set_change : (changed : Changes) (cell : CellId) (before after : Option Row) (q : CellId)
    → finite.get (set_change changed cell before after) q ≡ cond (eq_by_cmp cell_cmp q cell) (change_from before after) (finite.get changed q)
get-set_change changed cell before after q =
    let change : Change = record { before = before; after = after } in
    elim (same before after) as (λ b. finite.get (cond b (finite.remove changed cell) (finite.insert changed cell change)) q
    ≡ cond (eq_by_cmp cell_cmp q cell) (cond (not b) (Some change) None) (finite.get changed q)) [
      | true ↦ finite.get-remove cell_cmp_total changed cell q
      | false ↦ finite.get-insert cell_cmp_total changed cell change q
    ]

-- the change at a cell, where it is to be set
abbrev pub noted_where : Content → Content → CellId → Bool → Option Change → Option Change
noted_where base current q here old = cond here (change_from (row_at base q) (row_at current q)) old

either : {A : Type 0} (b : Bool) (x : A) → cond b x x ≡ x
either true x = refl
either false x = refl

-- the change of one cell set, and then those of a list
pub noted_more : (base current : Content) (old : Changes) (e : CellId × Row) (es : List (CellId × Row)) (q : CellId)
    → noted_where base current q (is_some (finite.find cell_cmp q es)) (finite.get (set_change old e.0 (row_at base e.0) (row_at current e.0)) q)
    ≡ noted_where base current q (is_some (finite.find cell_cmp q (e ∷ es))) (finite.get old q)
noted_more base current old e es q =
    let rest = is_some (finite.find cell_cmp q es) in
    ap (noted_where base current q rest) (get-set_change old e.0 (row_at base e.0) (row_at current e.0) q)
    ∙ elim (eq_by_cmp cell_cmp q e.0) as (λ t. eq_by_cmp cell_cmp q e.0 ≡ t
    → noted_where base current q rest (cond t (change_from (row_at base e.0) (row_at current e.0)) (finite.get old q))
    ≡ noted_where base current q (is_some (cond t (Some e.1) (finite.find cell_cmp q es))) (finite.get old q)) [
      | true ↦ λ tie. ap (λ (c : CellId). noted_where base current q rest (change_from (row_at base c) (row_at current c))) (sym (tied_cells q e.0 tie))
          ∙ either rest (change_from (row_at base q) (row_at current q))
      | false ↦ λ tie. refl
    ] refl

-- rows that are both missing don't differ
noted_both : (a b : Option Row) → cond (is_some b) (change_from a b) (cond (is_some a) (change_from a b) None) ≡ change_from a b
unfolding same
noted_both None None = refl
noted_both None (Some b) = refl
noted_both (Some a) None = refl
noted_both (Some a) (Some b) = refl

-- the changes of the cells of both contents are what changes
pub all_noted : (base current : Content) (one both : Changes) → AreNoted base current base finite.empty one → AreNoted base current current one both → both
    ≡ changes base current
all_noted base current one both first second = same_changes _ _ (λ q.
    second q ∙ ap (noted_where base current q (is_some (row_at current q))) (first q
    ∙ ap (noted_where base current q (is_some (row_at base q))) (finite.get-empty cell_cmp q))
    ∙ noted_both (row_at base q) (row_at current q) ∙ sym (get-changes base current q))
