-- The next cell behind a given one, in a tree of rows.
use Rattle.std.proofs.Common.{◌≡◌, ◌∙◌, true, List, [], ◌∷◌, Option, Some, None, is_some, refl, sym, ap, subst}
use Rattle.std.specs.Prelude.{slice_get}
use Rattle.std.proofs.lemmas.Bool.{true≢false}
use Rattle.std.specs.BTreeMap.{BTreeMap, get}
use Rattle.std.specs.BTreeMap.Range.{IsFromStart, IsRangeOf}
use Rattle.std.specs.FinMap as finite
use Rattle.std.specs.Range.Bound.{IsForward}
use Rattle.std.specs.declared.ops.Bound.{Bound}
use Rattle.std.specs.declared.ops.Bound.TheVariants.{Included, Excluded, Unbounded}
use Rattle.clr_rows.specs.declared.cells.CellId.{CellId}
use Rattle.clr_rows.specs.Cells.{cell_cmp}
use Rattle.clr_finders.specs.NextCells.{IsBehind, IsNextOf}
use Rattle.clr_finders.specs.CellBounds.{bound_behind}
use Rattle.clr_finders.specs.RowMaps.{RowOrNone, settled_of}
use Rattle.clr_finders.proofs.MapLemmas.{some_there}

-- ---- where a range begins

pub from_bound : (after : Option CellId) (q : CellId) → IsFromStart cell_cmp (bound_behind after) q → IsBehind after q
from_bound None q h = tt
from_bound (Some p) q h = h

pub to_bound : (after : Option CellId) (q : CellId) → IsBehind after q → IsFromStart cell_cmp (bound_behind after) q
to_bound None q h = tt
to_bound (Some p) q h = h

-- ---- the first cell of a range

abbrev pub cell_at : Option (CellId × RowOrNone) → Option CellId
cell_at None = None
cell_at (Some e) = Some e.0

some_not_none : {X : Type 0} (o : Option X) → is_some o ≡ true → o ≡ None → ⊥
some_not_none o some none = true≢false (sym some ∙ ap is_some none)

first_cell : (after : Option CellId) (m : BTreeMap CellId RowOrNone) (r : List (CellId × RowOrNone)) → IsRangeOf cell_cmp (bound_behind after) Unbounded m r
    → IsNextOf (λ q. is_some (finite.get (settled_of m.entries) q) ≡ true) after (cell_at (slice_get r 0))
first_cell after m [] w = record {
  behind = tt;
  reached = λ q some behind. some_not_none (get cell_cmp m q) (some_there m.entries q some)
      (w.5 refl q (to_bound after q behind, tt));
}
first_cell after m (e ∷ r) w = record {
  behind = from_bound after e.0 w.1.0.0;
  reached = λ q some behind. w.2 q (to_bound after q behind, tt)
      (some_there m.entries q some);
}

pub first_cell_at : (after : Option CellId) (lo : Bound CellId) (m : BTreeMap CellId RowOrNone) (r : List (CellId × RowOrNone)) → lo ≡ bound_behind after
    → IsRangeOf cell_cmp lo Unbounded m r
    → IsNextOf (λ q. is_some (finite.get (settled_of m.entries) q) ≡ true) after (cell_at (slice_get r 0))
first_cell_at after lo m r is w = first_cell after m r (subst (λ b. IsRangeOf cell_cmp b Unbounded m r) is w)
