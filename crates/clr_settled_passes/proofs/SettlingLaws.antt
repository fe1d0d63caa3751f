-- The first pass puts in the rows at changed cells, the second those near versions that may touch, and the third what may serve these.
use Rattle.std.proofs.Common.{◌≡◌, ◌∙◌, ◌⊎◌, ℕ, inl, inr, List, Option, Some, None, Contains, refl, sym}
use Rattle.clr_rows.specs.declared.cells.CellId.{CellId}
use Rattle.clr_rows.specs.declared.rows.Row.{Row}
use Rattle.clr_rows.specs.Held.{Held}
use Rattle.clr_rules.specs.Needs.{View}
use Rattle.clr_needs.specs.declared.needs.VersionId.{VersionId}
use Rattle.clr_needs.specs.Settings.{Setting, Lived, held_row, version}
use Rattle.clr_cuts.specs.Cuts.{HasCell, HasChanged, AreSomeOf, with_root}
use Rattle.clr_cuts.specs.Passes.{AreRowsOf}
use Rattle.clr_cuts.proofs.CutLaws.{changed_kept, named_kept, new_versions, same_versions, version_up}
use Rattle.clr_cuts.proofs.ReachLaws.{of_member_or_root}
use Rattle.clr_reach.specs.declared.aims.Aim.{Aim}
use Rattle.clr_reach.specs.declared.aims.Aim.TheVariants.{Plans, Groups}
use Rattle.clr_reach.specs.Found.{IsFoundUnder, IsNear, IsTouching, MayBeTouched, MayTouch}
use Rattle.clr_cut_rows.specs.declared.standings.Standing.TheVariants.{Has, Beyond}
use Rattle.clr_cut_rows.specs.Laws.{AreRight}
use Rattle.clr_cut_rows.specs.Standings.{Belongs, IsStanding}
use Rattle.clr_settled_passes.specs.Laws.{IsFoundPass}

module _ (aim : Aim) (c : Setting ℕ) where
  -- versions that touch ----------------------------------------------------------------------------

  -- where the rows have each cell that a member changes, they have the versions that may touch
  module _ (rows : View) (changed : HasChanged c rows) (v : VersionId) (l : Lived ℕ) (is : version c v ≡ Some l) where
    touching_there : (a : Aim) → IsTouching a v l → version (with_root c rows) v ≡ Some l
    touching_there Plans new = new_versions c rows v new ∙ is
    touching_there Groups (x, names) = same_versions c rows v (named_kept c rows changed v l x is names) ∙ is

    may_touch_there : (a : Aim) (number : ℕ) → MayTouch a c.rules number v l → version (with_root c rows) v ≡ Some l
    may_touch_there Plans number (inl (new, paired)) = new_versions c rows v new ∙ is
    may_touch_there Plans number (inr (gone, serves)) = same_versions c rows v (changed_kept c rows changed v l is gone) ∙ is
    may_touch_there Groups number ((x, names), may) = same_versions c rows v (named_kept c rows changed v l x is names) ∙ is

  abbrev IsNearTouching : View → ℕ → Held → Type 0
  IsNearTouching rows number s = IsNear (MayTouch aim c.rules number) (with_root c rows) number s

  -- so the same rows are near them
  near_there : (rows other : View) → AreSomeOf rows c.root → HasChanged c other → (number : ℕ) (s : Held) → IsNearTouching rows number s
      → IsNearTouching other number s
  near_there rows other part changed number s it = record {
    id = it.id;
    lived = it.lived;
    is = may_touch_there other changed it.id it.lived (version_up c rows part it.id it.lived it.is) aim number it.holds;
    holds = it.holds;
    shares = it.shares;
  }

  -- passes -----------------------------------------------------------------------------------------

  module _ (list : List Held) (are : AreRowsOf c.root list) where
    module _ (rows next : View) (part : AreSomeOf rows c.root) (pass : IsFoundPass aim c list rows next) where
      next_part : AreSomeOf next c.root
      next_part q r e = elim ((pass.after (q, r)).0 e) [ inl h ↦ part q r h | inr h ↦ (are (q, r)).0 h.0 ]

      -- a cell without a row in the root has none
      none_in : (q : CellId) → c.root q ≡ None → HasCell next c.root q
      none_in q none = by (next q) refl
        where
          by : (row : Option Row) → next q ≡ row → HasCell next c.root q
          by None e = e ∙ sym none
          by (Some r) e = e ∙ sym (next_part q r e)

      carried : (q : CellId) → HasCell rows c.root q → HasCell next c.root q
      carried q has = by (c.root q) refl
        where
          by : (row : Option Row) → c.root q ≡ row → HasCell next c.root q
          by None e = none_in q e
          by (Some r) e = (pass.after (q, r)).1 (inl (has ∙ e)) ∙ sym e

      -- a row of the root that belongs to the rows is there after the pass
      put_in : (q : CellId) (r : Row) → c.root q ≡ Some r → Belongs aim (with_root c rows) (q, r) → HasCell next c.root q
      put_in q r there belongs = by (rows q) refl
        where
          by : (row : Option Row) → rows q ≡ row → HasCell next c.root q
          by None e = (pass.after (q, r)).1 (inr ((are (q, r)).1 there, (e, belongs))) ∙ sym there
          by (Some k) e = carried q (e ∙ sym (part q k e))

      changed_in : HasChanged c next
      changed_in q x e = by (c.root q) refl
        where
          by : (row : Option Row) → c.root q ≡ row → HasCell next c.root q
          by None k = none_in q k
          by (Some r) k = put_in q r k (inl (x, e))

    module _ (start first second : View) (part : AreSomeOf start c.root) (changed : HasChanged c start)
        (one : IsFoundPass aim c list start first) (two : IsFoundPass aim c list first second) where
      part_first : AreSomeOf first c.root
      part_first = next_part start first part one

      part_second : AreSomeOf second c.root
      part_second = next_part first second part_first two

      changed_first : HasChanged c first
      changed_first = changed_in start first part one

      -- what is near versions that may touch is there after the first pass
      near_in : (number : ℕ) (s : Held) → c.root s.0 ≡ Some s.1 → IsNearTouching second number s → HasCell first c.root s.0
      near_in number s there near =
          put_in start first part one s.0 s.1 there (inr (number, inl (near_there second start part_second changed number s near)))

      -- so the versions that may be touched are the same after it
      module _ (number : ℕ) (v : VersionId) (l : Lived ℕ) (is : version (with_root c second) v ≡ Some l) where
        of_whole : version c v ≡ Some l
        of_whole = version_up c second part_second v l is

        there_before : MayBeTouched aim (with_root c second) number v l → version (with_root c first) v ≡ Some l
        there_before (inl touching) = touching_there first changed_first v l of_whole aim touching
        there_before (inr near) = same_versions c first v (elim (of_member_or_root c v l of_whole) [
          | inl (x, h) ↦ changed_first v.cell x h
          | inr h ↦ near_in number (held_row v l) h.there near
        ]) ∙ of_whole

        may_before : MayBeTouched aim (with_root c second) number v l → MayBeTouched aim (with_root c first) number v l
        may_before (inl touching) = inl touching
        may_before (inr near) = inr (near_there second first part_second changed_first number (held_row v l) near)

      -- and what is found after the second pass was found before it
      found_before : (number : ℕ) (s : Held) → IsFoundUnder aim (with_root c second) number s → IsFoundUnder aim (with_root c first) number s
      found_before number s (inl near) = inl (near_there second first part_second changed_first number s near)
      found_before number s (inr (may, near)) = inr (
        may,
        record {
          id = near.id;
          lived = near.lived;
          is = there_before number near.id near.lived near.is near.holds;
          holds = may_before number near.id near.lived near.is near.holds;
          shares = near.shares;
        },
      )

      belongs_before : (s : Held) → Belongs aim (with_root c second) s → Belongs aim (with_root c first) s
      belongs_before s (inl change) = inl change
      belongs_before s (inr (number, found)) = inr (number, found_before number s found)

      pub two_passes : AreRight aim (with_root c second) list
      two_passes s h = by (second s.0) refl
        where
          there : c.root s.0 ≡ Some s.1
          there = (are s).0 h

          has : Belongs aim (with_root c second) s → second s.0 ≡ Some s.1
          has belongs = put_in first second part_first two s.0 s.1 there (belongs_before s belongs) ∙ there

          by : (row : Option Row) → second s.0 ≡ row → IsStanding aim (with_root c second) s Has ⊎ IsStanding aim (with_root c second) s Beyond
          by None e = inr (e, λ belongs. let k = has belongs in cc)
          by (Some r) e = inl (e ∙ sym (part_second s.0 r e) ∙ there)

    pub three_passes : (start first second third : View) → AreSomeOf start c.root → IsFoundPass aim c list start first
        → IsFoundPass aim c list first second
        → IsFoundPass aim c list second third
        → AreRight aim (with_root c third) list
    three_passes start first second third part one two three =
        two_passes first second third (next_part start first part one) (changed_in start first part one) two three
