-- What cut offices promise, by definitions alone.
use Rattle.std.specs.Prelude.{◌≡◌, ◌↔◌, ℕ, Bool, true, List, []}
use Rattle.clr_rows.specs.declared.cells.CellId.{CellId}
use Rattle.clr_rows.specs.Held.{Held}
use Rattle.clr_rules.specs.Needs.{View}
use Rattle.clr_needs.specs.Covers.{Entry}
use Rattle.clr_steps.specs.Offices.{Office}
use Rattle.clr_steps.specs.Quiet.{MergeSet}
use Rattle.clr_clearance.specs.declared.verdicts.Verdict.{Verdict}
use Rattle.clr_clearance.specs.declared.verdicts.Verdict.TheVariants as verdict
use Rattle.clr_clearance.specs.Headline.{Headline}
use Rattle.clr_clearance.specs.MergeSets.{Covers, setting_by_position}
use Rattle.clr_clearance.specs.Plans.{IsBlocked, IsCleared, IsUnfit, is_order_refused, members_at}
use Rattle.clr_clearance.specs.Safety.{Safe}
use Rattle.clr_clearance.specs.Verdicts.{IsVerdict}
use Rattle.clr_cuts.specs.Cuts.{AreSomeOf, IsCut}
use Rattle.clr_cuts.specs.Passes.{AreRowsOf, IsPass, TakesReach, lacked}
use Rattle.clr_office_cuts.specs.OfficeCuts.{IsOfficeCut, IsOfficeOfCells, root_rows}

-- a merge set has the same verdicts and the same plans in both
pub record IsSameOffice (whole cut : Office) (merge_set : MergeSet) : Type 0 where
  pub verdicts : (entries : List Entry) (v : Verdict) → IsVerdict cut merge_set entries v ↔ IsVerdict whole merge_set entries v
  pub unfit : (v : Verdict) → IsUnfit cut merge_set v ↔ IsUnfit whole merge_set v
  pub cleared : (entries : List Entry) → IsCleared cut merge_set entries ↔ IsCleared whole merge_set entries
  pub blocked : (order : List ℕ) (cause : Verdict) → IsBlocked cut merge_set order cause ↔ IsBlocked whole merge_set order cause

abbrev pub OfficeCutLaw : Type 0
OfficeCutLaw = (whole cut : Office) (merge_set : MergeSet) → IsOfficeCut whole cut merge_set → IsSameOffice whole cut merge_set

-- what is promised over the cut holds for the whole, of which nothing is asked: where the verdict over the cut is clear, the merge set is safe in the
-- whole, and so in every list of quiet commands there; what clears the cut's plan covers it in the whole; and the order of a blocked plan is refused there
pub record PromisesForWhole (whole cut : Office) (merge_set : MergeSet) : Type 0 where
  pub headline : (entries : List Entry) → IsVerdict cut merge_set entries verdict.Clear → Headline whole merge_set
  pub safe : (entries : List Entry) → IsVerdict cut merge_set entries verdict.Clear → Safe whole merge_set
  pub cleared : (entries : List Entry) → IsCleared cut merge_set entries → Covers whole merge_set entries
  pub refused : (order : List ℕ) (cause : Verdict) → IsBlocked cut merge_set order cause → is_order_refused whole (members_at merge_set order) ≡ true

abbrev pub PromiseLaw : Type 0
PromiseLaw = (whole cut : Office) (merge_set : MergeSet) → IsOfficeCut whole cut merge_set → PromisesForWhole whole cut merge_set

-- an office with the rows of some cells alone is cut out of the whole for a merge set, where the rows of its root are a cut
abbrev pub CellsLaw : Type 0
CellsLaw = (cells : CellId → Bool) (whole cut : Office) (merge_set : MergeSet)
    → IsOfficeOfCells cells whole cut merge_set
    → IsCut (setting_by_position whole merge_set) (root_rows cut merge_set)
    → IsOfficeCut whole cut merge_set

-- an office of some cells is cut out of the whole where a pass over all rows of the whole's root, by a test that takes each row in reach of the office's
-- root, answers none
abbrev pub PassLaw : Type 0
PassLaw = (cells : CellId → Bool) (whole cut : Office) (merge_set : MergeSet) (test : Held → Bool) (list : List Held)
    → IsOfficeOfCells cells whole cut merge_set
    → AreRowsOf (root_rows whole merge_set) list
    → AreSomeOf (root_rows cut merge_set) (root_rows whole merge_set)
    → TakesReach (setting_by_position cut merge_set) (root_rows cut merge_set) test
    → lacked (setting_by_position cut merge_set) (root_rows cut merge_set) test list ≡ []
    → IsOfficeCut whole cut merge_set

-- and so is one whose root has what three passes over all these rows lead to, from any of them
abbrev pub ThreePassesLaw : Type 0
ThreePassesLaw = (cells : CellId → Bool) (whole cut : Office) (merge_set : MergeSet) (list : List Held) (start first second : View)
    → IsOfficeOfCells cells whole cut merge_set
    → AreRowsOf (root_rows whole merge_set) list
    → AreSomeOf start (root_rows whole merge_set)
    → IsPass (setting_by_position cut merge_set) list start first
    → IsPass (setting_by_position cut merge_set) list first second
    → IsPass (setting_by_position cut merge_set) list second (root_rows cut merge_set)
    → IsOfficeCut whole cut merge_set
