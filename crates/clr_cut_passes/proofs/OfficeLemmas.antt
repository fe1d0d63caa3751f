-- Passes over parts of the rows, and over all rows of the whole's root, against the office that is cut out of it.
use Rattle.std.proofs.Common.{◌∙◌, ◌<◌, ℕ, Bool, List, [], ◌∷◌, ◌++◌, subst}
use Rattle.std.specs.FinMap as finite
use Rattle.clr_rows.specs.declared.cells.CellId.{CellId}
use Rattle.clr_rows.specs.Held.{Held}
use Rattle.clr_needs.specs.Settings.{Setting}
use Rattle.clr_row_versions.specs.Versions.{FitsSetting}
use Rattle.clr_steps.specs.Offices.{Office}
use Rattle.clr_steps.specs.Quiet.{MergeSet, root_content}
use Rattle.clr_clearance.specs.MergeSets.{change_sets, setting_by_position}
use Rattle.clr_cuts.specs.Passes.{AreRowsOf}
use Rattle.clr_cuts.specs.Reach.{HasReach}
use Rattle.clr_cuts.proofs.ReachLaws.{reached_is_cut}
use Rattle.clr_office_cuts.specs.OfficeCuts.{IsOfficeCut, IsOfficeOfCells, root_rows}
use Rattle.clr_office_cuts.proofs.CellLemmas.{cells_cut}
use Rattle.clr_office_cuts.proofs.PassLemmas.{same_over}
use Rattle.clr_reach.specs.declared.aims.Aim.{Aim}
use Rattle.clr_cut_rows.specs.declared.standings.Standing.{Standing}
use Rattle.clr_cut_rows.specs.Laws.{AreAllRight}
use Rattle.clr_cut_rows.specs.Standings.{IsStanding}
use Rattle.clr_cut_rows.proofs.StandingLemmas.{all_right}
use Rattle.clr_cut_passes.specs.declared.counts.PassCounts.{PassCounts}
use Rattle.clr_cut_passes.specs.Counts.{CountsOneMore, IsClean, greatest, together}
use Rattle.clr_cut_passes.specs.Passes.{AreCountsOf, AreOfOwnCells, AreStandings}
use Rattle.clr_cut_passes.proofs.CleanLemmas.{clean_told}
use Rattle.clr_cut_passes.proofs.CountLemmas.{together_counted}

-- parts --------------------------------------------------------------------------------------------

module _ (aim : Aim) (c : Setting ℕ) where
  stand_behind : (one other : List Held) (xs ys : List Standing) → AreStandings aim c one xs → AreStandings aim c other ys
      → AreStandings aim c (one ++ other) (xs ++ ys)
  stand_behind [] other [] ys first second = second
  stand_behind [] other (x ∷ xs) ys first second = absurd first
  stand_behind (s ∷ one) other [] ys first second = absurd first
  stand_behind (s ∷ one) other (x ∷ xs) ys first second = (first.0, stand_behind one other xs ys first.1 second)

  pub parts : (one other : List Held) (a b : PassCounts) → AreCountsOf aim c one a → AreCountsOf aim c other b → AreCountsOf aim c (one ++ other) (together a b)
  parts one other a b (xs, first, is) (ys, second, is_too) =
      (xs ++ ys, stand_behind one other xs ys first second, (λ i. together (is i) (is_too i)) ∙ together_counted xs ys)

  -- one row more
  pub one_taken : (s : Held) (x : Standing) (old new : PassCounts) → IsStanding aim c s x → CountsOneMore old x new → (list : List Held)
      → AreCountsOf aim c list old → AreCountsOf aim c (list ++ s ∷ []) new
  one_taken s x old new stands more list (xs, are, is) = (xs ++ x ∷ [], stand_behind list (s ∷ []) xs (x ∷ []) are (stands, tt), more xs is)

-- offices ------------------------------------------------------------------------------------------

pub office_cut : (aim : Aim) (cells : CellId → Bool) (whole cut : Office) (merge_set : MergeSet) (list : List Held)
    → IsOfficeOfCells cells whole cut merge_set
    → FitsSetting (setting_by_position cut merge_set)
    → AreRowsOf (root_rows whole merge_set) list
    → AreAllRight aim (setting_by_position cut merge_set) list
    → IsOfficeCut whole cut merge_set
office_cut aim cells whole cut merge_set list of_cells fits rows right =
    let root = root_rows whole merge_set in
    cells_cut cells whole cut merge_set of_cells (reached_is_cut (setting_by_position whole merge_set) (root_rows cut merge_set)
    (subst (λ (s : Setting ℕ). HasReach s (root_rows cut merge_set)) (same_over cells whole cut merge_set of_cells list rows root)
    (all_right aim (setting_by_position cut merge_set) fits root list rows right).reach))

pub clean_office : (aim : Aim) (cells : CellId → Bool) (whole cut : Office) (merge_set : MergeSet) (list : List Held) (counts : PassCounts)
    → IsOfficeOfCells cells whole cut merge_set
    → FitsSetting (setting_by_position cut merge_set)
    → AreRowsOf (root_rows whole merge_set) list
    → AreOfOwnCells list
    → finite.len (root_content cut merge_set) < greatest
    → AreCountsOf aim (setting_by_position cut merge_set) list counts
    → IsClean counts (finite.len (root_content cut merge_set))
    → IsOfficeCut whole cut merge_set
clean_office aim cells whole cut merge_set list counts of_cells fits rows apart less are clean =
    office_cut aim cells whole cut merge_set list of_cells fits rows
    ((clean_told aim cut.book (root_content cut merge_set) (change_sets cut merge_set) list counts less apart are).0 clean)
