use Rattle.std.proofs.Common.{nat_eq, ℕ, ◌≡◌, [], ◌∙◌, ap, None}
use Rattle.std.specs.HashMap.{get}
use Rattle.std.specs.FinSet as set
use Rattle.clr_rows.specs.Cells.{cell_cmp}
use Rattle.std.specs.Map.{lookup}
use Rattle.clr_grid.specs.CellSets.{Cells}
use Rattle.clr_grid.specs.Filing.{HoldCells, ByNumber}
use Rattle.clr_grid.proofs.FilingLemmas.{none_in}
use Rattle.clr_grid.proofs.side_index.SideIndex.new.Goals as goal

none : (by_spot : ByNumber) → by_spot.entries ≡ [] → (x : ℕ) → get nat_eq by_spot x ≡ None
none by_spot is x = ap (lookup (nat_eq x)) is

pub returns-clause-none : goal.returns-clause-none
returns-clause-none c = none_in (record { by_spot = c.new.result; wide = c.new-2.result })
    (λ q. ap (λ (m : Cells). set.contains m q) c.new-2.ensures ∙ set.contains-empty cell_cmp q)
    (none c.new.result c.new.ensures.empty)

pub returns-clause-lean : goal.returns-clause-lean
unfolding HoldCells
returns-clause-lean c x e = absurd (cc (none c.new.result c.new.ensures.empty x, e))
