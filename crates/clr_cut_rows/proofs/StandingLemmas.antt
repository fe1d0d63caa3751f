-- Where rows of a root stand as they should, the cut has all of them that are in its reach.
use Rattle.std.proofs.Common.{◌≡◌, ◌∙◌, ◌⊎◌, ℕ, inl, inr, List, Option, Some, None, Contains, refl, sym, subst}
use Rattle.clr_rows.specs.declared.cells.CellId.{CellId}
use Rattle.clr_rows.specs.declared.rows.Row.{Row}
use Rattle.clr_rows.specs.Held.{Held}
use Rattle.clr_rules.specs.Needs.{View}
use Rattle.clr_needs.specs.Settings.{Setting, changer}
use Rattle.clr_row_versions.specs.Versions.{FitsSetting}
use Rattle.clr_cuts.specs.Cuts.{AreSomeOf, HasCell, HasChanged, with_root}
use Rattle.clr_cuts.specs.Passes.{AreRowsOf}
use Rattle.clr_cuts.specs.Reach.{IsInReach, IsTied}
use Rattle.clr_reach.specs.declared.aims.Aim.{Aim}
use Rattle.clr_reach.specs.declared.aims.Aim.TheVariants.{Plans, Groups}
use Rattle.clr_reach.specs.Found.{IsFound}
use Rattle.clr_reach.proofs.FoundLaws.{found_for_groups, reach_found}
use Rattle.clr_cut_rows.specs.declared.standings.Standing.TheVariants.{Has, Beyond}
use Rattle.clr_cut_rows.specs.Laws.{AreAllRight, AreRight, IsCutFor}
use Rattle.clr_cut_rows.specs.Standings.{Belongs, IsStanding}

module _ (aim : Aim) (c : Setting ℕ) where
  -- what a cut must have of its root: a row at a changed cell, one in reach, and for groups one that is tied
  abbrev Wanted : Held → Type 0
  Wanted s = ((x : ℕ) × (changer c s.0 ≡ Some x)) ⊎ (IsInReach c s ⊎ ((aim ≡ Groups) × IsTied c s))

  abbrev HasAllOf : View → Type 0
  HasAllOf root = (q : CellId) (r : Row) → root q ≡ Some r → Wanted (q, r) → HasCell c.root root q

  module _ (root : View) (of_root : AreSomeOf c.root root) (has : HasAllOf root) where
    changed : HasChanged (with_root c root) c.root
    changed q x is = by (root q) refl
      where
        none : (o : Option Row) → c.root q ≡ o → root q ≡ None → o ≡ None
        none None e there = refl
        none (Some r) e there = sym (of_root q r e) ∙ there

        by : (o : Option Row) → root q ≡ o → HasCell c.root root q
        by None e = none (c.root q) refl e ∙ sym e
        by (Some r) e = has q r e (inl (x, is))

    cut_for : IsCutFor aim c root
    cut_for = record {
      reach = record { of_root = of_root; changed = changed; reached = λ q r is it. has q r is (inr (inl it)) };
      tied = λ groups q r is it. has q r is (inr (inr (groups, it)));
    }

  module _ (fits : FitsSetting c) where
    reach_belongs : (s : Held) (a : Aim) → aim ≡ a → IsInReach c s → IsFound aim c s
    reach_belongs s Plans e it = subst (λ a. IsFound a c s) (sym e) (reach_found c fits s it)
    reach_belongs s Groups e it = subst (λ a. IsFound a c s) (sym e) (found_for_groups c fits s (inl it))

    belongs : (s : Held) → Wanted s → Belongs aim c s
    belongs s (inl change) = inl change
    belongs s (inr (inl it)) = inr (reach_belongs s aim refl it)
    belongs s (inr (inr (groups, it))) = inr (subst (λ a. IsFound a c s) (sym groups) (found_for_groups c fits s (inr (inl it))))

    -- the cut has a wanted row that stands as it should
    has_right : (root : View) (q : CellId) (r : Row) → root q ≡ Some r → IsStanding aim c (q, r) Has ⊎ IsStanding aim c (q, r) Beyond → Wanted (q, r)
        → HasCell c.root root q
    has_right root q r is (inl it) wanted = it ∙ sym is
    has_right root q r is (inr beyond) wanted = absurd (beyond.1 (belongs (q, r) wanted))

    pub all_right : (root : View) (list : List Held) → AreRowsOf root list → AreAllRight aim c list → IsCutFor aim c root
    all_right root list rows all = cut_for root (λ q r is. (rows (q, r)).0 (all.met (q, r) is))
        (λ q r is wanted. has_right root q r is (all.right (q, r) ((rows (q, r)).1 is)) wanted)

    module _ (root other : View) (news : List Held) (before : IsCutFor aim c root) (right : AreRight aim c news) where
      -- the cut has a wanted row that its root has
      had : (q : CellId) (r : Row) → root q ≡ Some r → Wanted (q, r) → HasCell c.root root q
      had q r is (inl (x, change)) = before.reach.changed q x change
      had q r is (inr (inl it)) = before.reach.reached q r is it
      had q r is (inr (inr (groups, it))) = before.tied groups q r is it

      pub still_right : AreSomeOf c.root other → ((s : Held) → other s.0 ≡ Some s.1 → (root s.0 ≡ Some s.1) ⊎ Contains news s) → IsCutFor aim c other
      still_right some either = cut_for other some (λ q r is wanted. by q r is wanted (either (q, r) is))
        where
          by : (q : CellId) (r : Row) → other q ≡ Some r → Wanted (q, r) → (root q ≡ Some r) ⊎ Contains news (q, r) → HasCell c.root other q
          by q r is wanted (inl old) = had q r old wanted ∙ old ∙ sym is
          by q r is wanted (inr new) = has_right other q r is (right (q, r) new) wanted
