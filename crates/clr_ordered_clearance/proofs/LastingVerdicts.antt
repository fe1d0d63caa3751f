-- A clear verdict lasts: after quiet commands in which merges come in turn it is clear on the members that stand, with the pairs of them.
use Rattle.std.proofs.Common.{◌≡◌, ◌∙◌, ℕ, Bool, true, false, ◌&&◌, ◌||◌, cond, List, [], ◌∷◌, filter, inl, inr, refl, sym, ap, subst, Option, Some, None}
use Rattle.std.proofs.Common.{is_some, slice_get}
use Rattle.std.specs.List.{list_any}
use Rattle.std.proofs.lemmas.Bool.{and_parts, false≢true, true≢false, or_cases, or_left, or_right}
use Rattle.clr_workspaces.specs.Marks.{Name}
use Rattle.clr_needs.specs.Settings.{has as has_by}
use Rattle.clr_steps.specs.Names.{same_name, has}
use Rattle.clr_steps.specs.Offices.{Office, workspace}
use Rattle.clr_steps.specs.Steps.{run}
use Rattle.clr_steps.proofs.FindLemmas.{same_is}
use Rattle.clr_clearance.specs.MergeSets.{setting_by_position}
use Rattle.clr_clearance.specs.Plans.{standing}
use Rattle.clr_clearance.proofs.ClearLemmas.{has_at}
use Rattle.clr_clearance.proofs.NameLemmas.{has_is}
use Rattle.clr_ordered_needs.specs.Covers.{AreCovered}
use Rattle.clr_ordered_needs.specs.Positions.{goes_before_if_any}
use Rattle.clr_ordered_needs.specs.Turns.{Order, is_earlier}
use Rattle.clr_ordered_clearance.specs.Laws.{standing_in_turn}
use Rattle.clr_ordered_clearance.specs.MergeSets.{AreListedInTurn, OrderedMergeSet, goes_before, position_goes_before}
use Rattle.clr_ordered_clearance.specs.VerdictLaws.{ClearLastsInTurnLaw, standing_pairs}
use Rattle.clr_ordered_clearance.proofs.LastingLemmas.{lasting_in_turn}
use Rattle.clr_ordered_clearance.proofs.VerdictLemmas.{clear_in_turn}

-- names that pass a test ------------------------------------------------------------------------------------------

module _ (p : Name → Bool) where
  kept : (names : List Name) (name : Name) → has names name ≡ true → p name ≡ true → has (filter p names) name ≡ true
  kept [] name h passes = h
  kept (n ∷ ns) name h passes = by (p n) refl (λ there. kept ns name there passes)
    where
      by : (b : Bool) → p n ≡ b → (has ns name ≡ true → has (filter p ns) name ≡ true) → has (cond b (n ∷ filter p ns) (filter p ns)) name ≡ true
      by true e more = elim (or_cases (same_name n name) (has ns name) h) [
        | inl same ↦ or_left (same_name n name) (has (filter p ns) name) same
        | inr other ↦ or_right (same_name n name) (has (filter p ns) name) (more other)
      ]
      by false e more = elim (or_cases (same_name n name) (has ns name) h) [
        | inl same ↦ absurd (true≢false (sym passes ∙ ap p (sym (same_is n name same)) ∙ e))
        | inr other ↦ more other
      ]

  passed : (names : List Name) (name : Name) → has (filter p names) name ≡ true → p name ≡ true
  passed [] name h = absurd (false≢true h)
  passed (n ∷ ns) name h = by (p n) refl h (passed ns name)
    where
      by : (b : Bool) → p n ≡ b → has (cond b (n ∷ filter p ns) (filter p ns)) name ≡ true → (has (filter p ns) name ≡ true → p name ≡ true) → p name ≡ true
      by true e g more = elim (or_cases (same_name n name) (has (filter p ns) name) g) [
        | inl same ↦ ap p (sym (same_is n name same)) ∙ e
        | inr other ↦ more other
      ]
      by false e g more = more g

  -- who stands before another in a list does so among those that pass
  still_earlier : (names : List Name) (m n : Name) → p m ≡ true → p n ≡ true → is_earlier same_name names m n ≡ true
      → is_earlier same_name (filter p names) m n ≡ true
  still_earlier [] m n passes too h = h
  still_earlier (x ∷ xs) m n passes too h = by (p x) refl (same_name x m) refl h (still_earlier xs m n passes too)
    where
      by : (b : Bool) → p x ≡ b → (same : Bool) → same_name x m ≡ same → cond same (has_by same_name xs n) (is_earlier same_name xs m n) ≡ true
          → (is_earlier same_name xs m n ≡ true → is_earlier same_name (filter p xs) m n ≡ true)
          → is_earlier same_name (cond b (x ∷ filter p xs) (filter p xs)) m n ≡ true
      by true e true f g more =
          ap (λ same. cond same (has_by same_name (filter p xs) n) (is_earlier same_name (filter p xs) m n)) f
          ∙ has_is (filter p xs) n ∙ kept xs n (sym (has_is xs n) ∙ g) too
      by true e false f g more =
          ap (λ same. cond same (has_by same_name (filter p xs) n) (is_earlier same_name (filter p xs) m n)) f ∙ more g
      by false e true f g more = absurd (true≢false (sym passes ∙ ap p (sym (same_is x m f)) ∙ e))
      by false e false f g more = more g

-- pairs of names that pass a test ---------------------------------------------------------------------------------

module _ (p : Name → Bool) (m n : Name) where
  abbrev both : (Name × Name) → Bool
  both q = p q.0 && p q.1

  abbrev says : (Name × Name) → Bool
  says q = same_name q.0 m && same_name q.1 n

  said_both : (q : Name × Name) → says q ≡ true → both q ≡ p m && p n
  said_both q h =
      let parts = and_parts (same_name q.0 m) (same_name q.1 n) h in
      λ i. p (same_is q.0 m parts.0 i) && p (same_is q.1 n parts.1 i)

  -- of those pairs one says so just where one of all does, and both names pass
  said_still : (pairs : List (Name × Name)) → p m && p n ≡ true → list_any says (filter both pairs) ≡ list_any says pairs
  said_still [] pass = refl
  said_still (q ∷ pairs) pass = by (both q) refl (said_still pairs pass)
    where
      by : (b : Bool) → both q ≡ b → list_any says (filter both pairs) ≡ list_any says pairs
          → list_any says (cond b (q ∷ filter both pairs) (filter both pairs)) ≡ says q || list_any says pairs
      by true e more = ap (λ b. says q || b) more
      by false e more = more ∙ silent (says q) refl
        where
          silent : (b : Bool) → says q ≡ b → list_any says pairs ≡ b || list_any says pairs
          silent true h = absurd (true≢false (sym (said_both q h ∙ pass) ∙ e))
          silent false h = refl

  said_first : (pairs : List (Name × Name)) → list_any says (filter both pairs) ≡ true → (p m && p n ≡ true) × (list_any says pairs ≡ true)
  said_first [] h = absurd (false≢true h)
  said_first (q ∷ pairs) h = by (both q) refl h (said_first pairs)
    where
      by : (b : Bool) → both q ≡ b → list_any says (cond b (q ∷ filter both pairs) (filter both pairs)) ≡ true
          → (list_any says (filter both pairs) ≡ true → (p m && p n ≡ true) × (list_any says pairs ≡ true))
          → (p m && p n ≡ true) × (says q || list_any says pairs ≡ true)
      by true e g more = elim (or_cases (says q) (list_any says (filter both pairs)) g) [
        | inl here ↦ (sym (said_both q here) ∙ e, or_left (says q) (list_any says pairs) here)
        | inr there ↦ (let rest = more there in (rest.0, or_right (says q) (list_any says pairs) rest.1))
      ]
      by false e g more = let rest = more g in (rest.0, or_right (says q) (list_any says pairs) rest.1)

-- the members that stand -------------------------------------------------------------------------------------------

module _ (now : Office) (ordered : OrderedMergeSet) where
  abbrev stands_now : Name → Bool
  stands_now name = is_some (workspace now name)

  abbrev standing_names : List Name
  standing_names = filter stands_now ordered.merge_set.members

  same_order : position_goes_before (standing_in_turn now ordered) ≡ position_goes_before (standing_pairs now ordered)
  same_order = λ i j k. by j k (slice_get standing_names j) refl (slice_get standing_names k) refl i
    where
      stands_at : (j : ℕ) (m : Name) → slice_get standing_names j ≡ Some m → stands_now m ≡ true
      stands_at j m e = passed stands_now ordered.merge_set.members m (has_at standing_names j m e)

      by : (j k : ℕ) (m : Option Name) → slice_get standing_names j ≡ m → (n : Option Name) → slice_get standing_names k ≡ n
          → goes_before_if_any (goes_before (standing_in_turn now ordered)) m n ≡ goes_before_if_any (goes_before (standing_pairs now ordered)) m n
      by j k None e n f = refl
      by j k (Some m) e None f = refl
      by j k (Some m) e (Some n) f =
          sym (said_still stands_now m n ordered.before (λ i. stands_at j m e i && stands_at k n f i))

  still_listed : AreListedInTurn ordered → AreListedInTurn (standing_pairs now ordered)
  still_listed listed m n goes =
      let said = said_first stands_now m n ordered.before goes in
      let stand = and_parts (stands_now m) (stands_now n) said.0 in
      still_earlier stands_now ordered.merge_set.members m n stand.0 stand.1 (listed m n said.1)

pub clear_lasts_in_turn : ClearLastsInTurnLaw
clear_lasts_in_turn o ordered entries commands lost clear quiet come =
    let (covers, listed) = (clear_in_turn o ordered entries).0 clear in
    let (more, later) = lasting_in_turn o ordered entries commands lost covers quiet come in
    let now = (run o commands lost).office in (
      more,
      (clear_in_turn now (standing_pairs now ordered) more).1 (
        record {
          mergeable = later.mergeable;
          covered = subst (λ (before : Order ℕ). AreCovered before (setting_by_position now (standing now ordered.merge_set)) more)
              (same_order now ordered) later.covered;
        },
        still_listed now ordered listed,
      ),
    )
