-- Passes over rows of a whole root, held against a cut, and what is counted of them.
use Rattle.std.specs.Prelude.{◌≡◌, ℕ, List, [], ◌∷◌, ◌++◌, ⊤, map}
use Rattle.std.specs.List.{IsDistinct}
use Rattle.std.specs.Ordering.{eq_by_cmp}
use Rattle.clr_rows.specs.Cells.{cell_cmp}
use Rattle.clr_rows.specs.Held.{Held}
use Rattle.clr_needs.specs.Settings.{Setting}
use Rattle.clr_reach.specs.declared.aims.Aim.{Aim}
use Rattle.clr_cut_rows.specs.declared.standings.Standing.{Standing}
use Rattle.clr_cut_rows.specs.Standings.{IsStanding}
use Rattle.clr_cut_passes.specs.declared.counts.PassCounts.{PassCounts}
use Rattle.clr_cut_passes.specs.Counts.{counts_of}

-- how each of the rows stands to the cut, in their order
abbrev pub AreStandings : Aim → Setting ℕ → List Held → List Standing → Type 0
AreStandings aim c [] [] = ⊤
AreStandings aim c [] (x ∷ xs) = ⊥
AreStandings aim c (s ∷ list) [] = ⊥
AreStandings aim c (s ∷ list) (x ∷ xs) = IsStanding aim c s x × AreStandings aim c list xs

-- the counts of a pass over the rows
abbrev pub AreCountsOf : Aim → Setting ℕ → List Held → PassCounts → Type 0
AreCountsOf aim c list counts = (standings : List Standing) × AreStandings aim c list standings × (counts ≡ counts_of standings)

-- whatever rows the pass went over, it has gone over one row more
abbrev pub CountsOneMoreRow : Aim → Setting ℕ → PassCounts → Held → PassCounts → Type 0
CountsOneMoreRow aim c old s new = (list : List Held) → AreCountsOf aim c list old → AreCountsOf aim c (list ++ s ∷ []) new

-- no two of the rows are of one cell
abbrev pub AreOfOwnCells : List Held → Type 0
AreOfOwnCells list = IsDistinct (eq_by_cmp cell_cmp) (map (λ s. s.0) list)
