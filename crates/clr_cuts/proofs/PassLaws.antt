-- A pass over the rows of a root that answers none shows a cut, and three passes make one.
use Rattle.std.proofs.Common.{◌≡◌, ◌∙◌, Bool, true, false, not, ◌&&◌, ◌||◌, List, [], ◌++◌, ◌⊎◌, inl, inr, refl, sym, ap, subst}
use Rattle.std.proofs.Common.{Option, Some, None, Contains, filter, is_some}
use Rattle.std.proofs.lemmas.Bool.{cases_Bool, false≢true, or_left, or_right}
use Rattle.std.proofs.lemmas.List.Elements.{filter-append}
use Rattle.clr_rows.specs.declared.cells.CellId.{CellId}
use Rattle.clr_rows.specs.declared.rows.Row.{Row}
use Rattle.clr_rows.specs.Held.{Held}
use Rattle.clr_rules.specs.Needs.{View}
use Rattle.clr_rules.proofs.Elements.{Among, among, among_kept, contained, kept_among}
use Rattle.clr_needs.specs.Needs.{IsTouchedBy}
use Rattle.clr_needs.specs.Settings.{Setting, changer}
use Rattle.clr_cuts.specs.Cuts.{HasCell, HasChanged, AreSomeOf, with_root}
use Rattle.clr_cuts.specs.Passes.{AreRowsOf, IsPass, TakesReach, is_lacked, lacked}
use Rattle.clr_cuts.specs.Reach.{HasReach, IsBesideSome, IsInReach, IsNew, IsServedBySome, IsTakenAway, ServesSome}
use Rattle.clr_cuts.proofs.CutLaws.{new_versions, possible_down, possible_up, touched_down, touched_up, version_up}
use Rattle.clr_cuts.proofs.ReachLaws.{HasOfTouched, beside_new, safe_cut, served_by_old}

-- where a filter leaves nothing, its test fails at each element
pub fails_at : {X : Type 0} (p : X → Bool) (xs : List X) → filter p xs ≡ [] → (x : X) → Contains xs x → p x ≡ false
fails_at p xs none x h = elim (cases_Bool (p x)) [
  | inl passes ↦ absurd (subst (Among x) none (kept_among p x xs (among x xs h) passes))
  | inr fails ↦ fails
]

-- one row ------------------------------------------------------------------------------------------

module _ {A : Type 0} (c : Setting A) (rows : View) (test : Held → Bool) where
  abbrev is_taken : Held → Bool
  is_taken s = is_some (changer c s.0) || test s

  -- a row that is taken is lacked, or the part has it
  pub taken_or_there : AreSomeOf rows c.root → (s : Held) → c.root s.0 ≡ Some s.1 → is_taken s ≡ true
      → (is_lacked c rows test s ≡ true) ⊎ HasCell rows c.root s.0
  taken_or_there part s there taken = by (rows s.0) refl
    where
      by : (row : Option Row) → rows s.0 ≡ row → (is_lacked c rows test s ≡ true) ⊎ HasCell rows c.root s.0
      by None e = inl (ap (λ o. not (is_some o) && is_taken s) e ∙ taken)
      by (Some r) e = inr (e ∙ sym (part s.0 r e))

  -- a cell without a row in the root has none in the part
  pub none_there : AreSomeOf rows c.root → (q : CellId) → c.root q ≡ None → HasCell rows c.root q
  none_there part q none = by (rows q) refl
    where
      by : (row : Option Row) → rows q ≡ row → HasCell rows c.root q
      by None e = e ∙ sym none
      by (Some r) e = e ∙ sym (part q r e)

  changer_taken : (q : CellId) (x : A) → changer c q ≡ Some x → (r : Row) → is_taken (q, r) ≡ true
  changer_taken q x e r = or_left (is_some (changer c q)) (test (q, r)) (ap is_some e)

  test_taken : (s : Held) → test s ≡ true → is_taken s ≡ true
  test_taken s h = or_right (is_some (changer c s.0)) (test s) h

  -- ---- a pass that answers none

  pub there_unless_lacked : AreSomeOf rows c.root → (s : Held) → c.root s.0 ≡ Some s.1 → is_lacked c rows test s ≡ false → is_taken s ≡ true
      → HasCell rows c.root s.0
  there_unless_lacked part s there told taken = elim (taken_or_there part s there taken) [ inl h ↦ absurd (false≢true (sym told ∙ h)) | inr h ↦ h ]

  abbrev pub NoneLacked : Type 0
  NoneLacked = (s : Held) → c.root s.0 ≡ Some s.1 → is_lacked c rows test s ≡ false

  changed_there : AreSomeOf rows c.root → NoneLacked → HasChanged c rows
  changed_there part told q x e = by (c.root q) refl
    where
      by : (row : Option Row) → c.root q ≡ row → HasCell rows c.root q
      by None k = none_there part q k
      by (Some r) k = there_unless_lacked part (q, r) k (told (q, r) k) (changer_taken q x e r)

  pub none_lacked : AreSomeOf rows c.root → NoneLacked → TakesReach c rows test → HasReach c rows
  none_lacked part told takes = record {
    of_root = part;
    changed = changed_there part told;
    reached = λ q r there reach. there_unless_lacked part (q, r) there (told (q, r) there) (test_taken (q, r) (takes (q, r) reach));
  }

  pub told_of_all : (list : List Held) → AreRowsOf c.root list → lacked c rows test list ≡ [] → NoneLacked
  told_of_all list are none s there = fails_at (is_lacked c rows test) list none s ((are s).1 there)

  pub pass : (list : List Held) → AreRowsOf c.root list → AreSomeOf rows c.root → TakesReach c rows test → lacked c rows test list ≡ [] → HasReach c rows
  pass list are part takes none = none_lacked part (told_of_all list are none) takes

  pub in_parts : (one other : List Held) → lacked c rows test (one ++ other) ≡ lacked c rows test one ++ lacked c rows test other
  in_parts one other = filter-append (is_lacked c rows test) one other

-- another root -------------------------------------------------------------------------------------

module _ {A : Type 0} (c : Setting A) (rows other : View) (test : Held → Bool) (news : List Held) (reach : HasReach c rows) (takes : TakesReach c rows test)
    (part : AreSomeOf rows other) (came : (s : Held) → other s.0 ≡ Some s.1 → (c.root s.0 ≡ Some s.1) ⊎ Contains news s)
    (none : lacked c rows test news ≡ []) where
  abbrev d : Setting A
  d = with_root c other

  as_before : (s : Held) → c.root s.0 ≡ Some s.1 → other s.0 ≡ Some s.1 → HasCell rows c.root s.0 → HasCell rows other s.0
  as_before s before there has = has ∙ before ∙ sym there

  as_new : (s : Held) → other s.0 ≡ Some s.1 → Contains news s → (is_some (changer c s.0) || test s) ≡ true → HasCell rows other s.0
  as_new s there h taken = there_unless_lacked d rows test part s there (fails_at (is_lacked c rows test) news none s h) taken

  changed_too : HasChanged d rows
  changed_too q x e = by (other q) refl
    where
      by : (row : Option Row) → other q ≡ row → HasCell rows other q
      by None k = none_there d rows test part q k
      by (Some r) k = elim (came (q, r) k) [
        | inl before ↦ as_before (q, r) before k (reach.changed q x e)
        | inr h ↦ as_new (q, r) k h (or_left (is_some (changer c q)) (test (q, r)) (ap is_some e))
      ]

  reached_too : (q : CellId) (r : Row) → other q ≡ Some r → IsInReach (with_root c rows) (q, r) → HasCell rows other q
  reached_too q r there it = elim (came (q, r) there) [
    | inl before ↦ as_before (q, r) before there (reach.reached q r before it)
    | inr h ↦ as_new (q, r) there h (or_right (is_some (changer c q)) (test (q, r)) (takes (q, r) it))
  ]

  pub changed_root : HasReach d rows
  changed_root = record { of_root = part; changed = changed_too; reached = reached_too }

-- three passes -------------------------------------------------------------------------------------

module _ {A : Type 0} (c : Setting A) (list : List Held) (are : AreRowsOf c.root list) where
  module _ (rows next : View) (part : AreSomeOf rows c.root) (pass : IsPass c list rows next) where
    stays : (q : CellId) (r : Row) → rows q ≡ Some r → next q ≡ Some r
    stays q r e = (pass.after (q, r)).1 (inl e)

    pub next_part : AreSomeOf next c.root
    next_part q r e = elim ((pass.after (q, r)).0 e) [
      | inl h ↦ part q r h
      | inr h ↦ (are (q, r)).0 (contained (q, r) list
          (among_kept (is_lacked c rows pass.test) (q, r) list (among (q, r) (lacked c rows pass.test list) h)).0)
    ]

    -- what the part has stays
    pub carried : (q : CellId) → HasCell rows c.root q → HasCell next c.root q
    carried q has = by (c.root q) refl
      where
        by : (row : Option Row) → c.root q ≡ row → HasCell next c.root q
        by None e = none_there c next pass.test next_part q e
        by (Some r) e = stays q r (has ∙ e) ∙ sym e

    -- a row of the root that is taken is there after the pass
    put_in : (q : CellId) (r : Row) → c.root q ≡ Some r → (is_some (changer c q) || pass.test (q, r)) ≡ true → HasCell next c.root q
    put_in q r there taken = elim (taken_or_there c rows pass.test part (q, r) there taken) [
      | inl h ↦ (pass.after (q, r)).1 (inr (contained (q, r) (lacked c rows pass.test list)
          (kept_among (is_lacked c rows pass.test) (q, r) list (among (q, r) list ((are (q, r)).1 there)) h))) ∙ sym there
      | inr h ↦ carried q h
    ]

    pub changed_in : HasChanged c next
    changed_in q x e = by (c.root q) refl
      where
        by : (row : Option Row) → c.root q ≡ row → HasCell next c.root q
        by None k = none_there c next pass.test next_part q k
        by (Some r) k = put_in q r k (changer_taken c rows pass.test q x e r)

    pub reach_in : (q : CellId) (r : Row) → c.root q ≡ Some r → IsInReach (with_root c rows) (q, r) → HasCell next c.root q
    reach_in q r there it = put_in q r there (test_taken c rows pass.test (q, r) (pass.takes (q, r) it))

  module _ (start first second third : View) (part : AreSomeOf start c.root)
      (one : IsPass c list start first) (two : IsPass c list first second) (three : IsPass c list second third) where
    part_first : AreSomeOf first c.root
    part_first = next_part start first part one

    part_second : AreSomeOf second c.root
    part_second = next_part first second part_first two

    part_third : AreSomeOf third c.root
    part_third = next_part second third part_second three

    abbrev e : Setting A
    e = with_root c third

    -- the first pass puts in what stands beside new rows, and the second what old rows serve that members change
    of_touched : HasOfTouched c second
    of_touched = record {
      of_root = part_second;
      changed = changed_in first second part_first two;
      beside = λ q r there it. carried first second part_first two q
          (reach_in start first part one q r there (inl (beside_new c start (q, r) it)));
      served = λ q r there it. reach_in first second part_first two q r there
          (inr (inl (served_by_old c first (changed_in start first part one) (q, r) it)));
    }

    new_of_whole : (s : Held) → IsBesideSome IsNew e s → IsBesideSome IsNew c s
    new_of_whole s it = record {
      id = it.id;
      lived = it.lived;
      is = sym (new_versions c third it.id it.holds) ∙ it.is;
      holds = it.holds;
      they_call = it.they_call;
    }

    old_of_whole : (s : Held) → IsServedBySome IsTakenAway e s → IsServedBySome IsTakenAway c s
    old_of_whole s it = record {
      id = it.id;
      lived = it.lived;
      is = version_up c third part_third it.id it.lived it.is;
      holds = it.holds;
      it_serves = it.it_serves;
    }

    -- a touched need has its subjects after the second pass, so the third puts in what serves it
    served_before : (s : Held) → ServesSome (IsTouchedBy e) e s → ServesSome (IsTouchedBy (with_root c second)) (with_root c second) s
    served_before s it =
        let possible = possible_up c third part_third it.need it.first it.second it.possible in
        let touched = touched_up c third part_third it.need it.first it.second it.holds in
        let has = (safe_cut c second of_touched).subjects it.need it.first it.second possible touched in
        record {
          need = it.need;
          first = it.first;
          second = it.second;
          possible = possible_down c second it.need it.first it.second has possible;
          holds = touched_down c second of_touched.changed it.need it.first it.second touched;
          it_serves = it.it_serves;
        }

    reached : (q : CellId) (r : Row) → c.root q ≡ Some r → IsInReach e (q, r) → HasCell third c.root q
    reached q r there (inl it) = carried second third part_second three q (of_touched.beside q r there (new_of_whole (q, r) it))
    reached q r there (inr (inl it)) = carried second third part_second three q (of_touched.served q r there (old_of_whole (q, r) it))
    reached q r there (inr (inr it)) = reach_in second third part_second three q r there (inr (inr (served_before (q, r) it)))

    pub three_passes : HasReach c third
    three_passes = record { of_root = part_third; changed = changed_in second third part_second three; reached = reached }
