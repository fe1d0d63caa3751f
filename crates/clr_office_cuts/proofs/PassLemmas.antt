-- Passes over the rows of the whole's root cut an office out. They speak of the setting of that office, which is the whole's but for its root.
use Rattle.std.proofs.Common.{◌≡◌, ℕ, Bool, List, [], subst}
use Rattle.clr_rows.specs.declared.cells.CellId.{CellId}
use Rattle.clr_rows.specs.Held.{Held}
use Rattle.clr_rules.specs.Needs.{View}
use Rattle.clr_needs.specs.Members.{setting}
use Rattle.clr_needs.specs.Settings.{Setting}
use Rattle.clr_steps.specs.Offices.{Office}
use Rattle.clr_steps.specs.Quiet.{MergeSet, root_content}
use Rattle.clr_steps.specs.Readings.{changes_in}
use Rattle.clr_clearance.specs.MergeSets.{change_sets, setting_by_position}
use Rattle.clr_cuts.specs.Cuts.{AreSomeOf, with_root}
use Rattle.clr_cuts.specs.Passes.{AreRowsOf, IsAfterPass, IsPass, TakesReach, lacked}
use Rattle.clr_cuts.proofs.PassLaws.{pass, three_passes}
use Rattle.clr_cuts.proofs.ReachLaws.{reached_is_cut}
use Rattle.clr_office_cuts.specs.OfficeCuts.{IsOfficeCut, IsOfficeOfCells, root_rows}
use Rattle.clr_office_cuts.proofs.CellLemmas.{cells_cut, same_member}
use Rattle.clr_office_cuts.proofs.OfficeLemmas.{same_map}

module _ (cells : CellId → Bool) (whole cut : Office) (merge_set : MergeSet) (of_cells : IsOfficeOfCells cells whole cut merge_set) (list : List Held)
    (are : AreRowsOf (root_rows whole merge_set) list) where
  abbrev c : Setting ℕ
  c = setting_by_position whole merge_set

  abbrev d : Setting ℕ
  d = setting_by_position cut merge_set

  abbrev rows : View
  rows = root_rows cut merge_set

  same_sets : change_sets cut merge_set ≡ change_sets whole merge_set
  same_sets = same_map (changes_in cut) (changes_in whole) merge_set.members
      (λ name is. (same_member cells whole cut merge_set of_cells name is).changes)

  -- over the same rows both settings are one
  pub same_over : (view : View) → with_root d view ≡ with_root c view
  same_over view = λ i. with_root (setting (of_cells.book i) (root_content whole merge_set) (same_sets i)) view

  pub none_cut : (test : Held → Bool) → AreSomeOf rows c.root → TakesReach d rows test → lacked d rows test list ≡ [] → IsOfficeCut whole cut merge_set
  none_cut test some takes none = cells_cut cells whole cut merge_set of_cells (reached_is_cut c rows (pass c rows test list are some
      (subst (λ (s : Setting ℕ). TakesReach s rows test) (same_over rows) takes)
      (subst (λ (s : Setting ℕ). lacked s rows test list ≡ []) (same_over rows) none)))

  as_whole : (one next : View) → IsPass d list one next → IsPass c list one next
  as_whole one next it = record {
    test = it.test;
    takes = subst (λ (s : Setting ℕ). TakesReach s one it.test) (same_over one) it.takes;
    after = subst (λ (s : Setting ℕ). IsAfterPass s one it.test list next) (same_over one) it.after;
  }

  pub three_cut : (start first second : View) → AreSomeOf start c.root → IsPass d list start first → IsPass d list first second → IsPass d list second rows
      → IsOfficeCut whole cut merge_set
  three_cut start first second some one two three = cells_cut cells whole cut merge_set of_cells (reached_is_cut c rows
      (three_passes c list are start first second rows some (as_whole start first one) (as_whole first second two) (as_whole second rows three)))
