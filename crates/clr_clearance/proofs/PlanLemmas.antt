-- What plans promise: cleared ones cover, blocked ones are refused, and safe merge sets are never blocked.
use Rattle.std.proofs.Common.{◌≡◌, ℕ, Bool, true, false, ◌||◌, List, [], ◌∷◌, ◌++◌, inl, inr, refl, sym, ap, ◌∙◌, Option, Some, None, slice_get}
use Rattle.std.specs.Option.{option_map}
use Rattle.std.proofs.lemmas.Bool.{false≢true, true≢false, or_cases, or_left, or_right}
use Rattle.std.proofs.lemmas.Option.{slice_get-map}
use Rattle.clr_workspaces.specs.Marks.{Name}
use Rattle.clr_steps.specs.Names.{same_name, has}
use Rattle.clr_steps.specs.Offices.{Office}
use Rattle.clr_steps.specs.Quiet.{MergeSet, is_member, is_quiet}
use Rattle.clr_steps.specs.Steps.{run, step}
use Rattle.clr_steps.proofs.FindLemmas.{same_is, same_itself}
use Rattle.clr_clearance.specs.PlanLaws.{BlockedPlanLaw, ClearedIsSafeLaw, ClearedPlanLaw, SafeOrderLaw, SafePlanLaw}
use Rattle.clr_clearance.specs.Plans.{is_order_refused, merges, members_at, of_conflict, of_shared, of_unpicked}
use Rattle.clr_clearance.specs.Runs.{AreQuiet, office_before}
use Rattle.clr_clearance.specs.Safety.{Safe, is_clash}
use Rattle.clr_clearance.proofs.ClearLemmas.{has_at, mergeable_of}
use Rattle.clr_clearance.proofs.NameLemmas.{has_is, has_last}
use Rattle.clr_clearance.proofs.PickLemmas.{picked_cover}
use Rattle.clr_clearance.proofs.RefusedLemmas.{conflict_is_refused, merge_of, names_part, unpicked_is_refused}
use Rattle.clr_clearance.proofs.SafeLemmas.{safe_law}
use Rattle.clr_clearance.proofs.SharedLemmas.{shared_is_refused}

pub cleared_plan : ClearedPlanLaw
cleared_plan o merge_set entries cleared = record {
  mergeable = mergeable_of o merge_set cleared.free cleared.apart;
  covered = picked_cover _ entries
      cleared.picked;
}

pub cleared_safe : ClearedIsSafeLaw
cleared_safe o merge_set entries cleared = safe_law o merge_set entries (cleared_plan o merge_set entries cleared)

pub blocked_plan : BlockedPlanLaw
blocked_plan o merge_set order cause (of_conflict at cell count none found same e) = ap
    (λ positions. is_order_refused o (members_at merge_set positions)) same
    ∙ conflict_is_refused o merge_set at cell count found
blocked_plan o merge_set order cause (of_shared cell i j none shared same e) = ap (λ positions. is_order_refused o (members_at merge_set positions)) same
    ∙ shared_is_refused o merge_set cell i j none shared
blocked_plan o merge_set order cause (of_unpicked n none apart first blocks e) = unpicked_is_refused o merge_set n order
    (mergeable_of o merge_set none apart)
    first.touched first.none blocks

-- merges of members, one after another -------------------------------------------------------------------------

neither : (a b : Bool) → a ≡ false → b ≡ false → (a || b) ≡ false
neither a b e f = ap (λ x. x || b) e ∙ f

abbrev none_lost : ℕ → Bool
none_lost at = false

abbrev after_merges : Office → List Name → Office
after_merges o names = (run o (merges names) none_lost).office

one_more : (o : Office) (names : List Name) (n : Name) → after_merges o (names ++ n ∷ []) ≡ (step (after_merges o names) (merge_of n)).office
one_more o [] n = refl
one_more o (m ∷ ms) n = one_more (step o (merge_of m)).office ms n

AreMembers : MergeSet → List Name → Type 0
AreMembers merge_set names = (name : Name) → has names name ≡ true → is_member merge_set name ≡ true

merges_quiet : (o : Office) (merge_set : MergeSet) (names : List Name) → AreMembers merge_set names → AreQuiet o merge_set (merges names) none_lost
unfolding is_quiet AreMembers
merges_quiet o merge_set names members at c e = by (slice_get names at) refl (sym (slice_get-map merge_of names at) ∙ e)
  where
    by : (r : Option Name) → slice_get names at ≡ r → option_map merge_of r ≡ Some c → is_quiet (office_before o (merges names) none_lost at) merge_set c ≡ true
    by None f d = absurd (cc)
    by (Some n) f d = let one : merge_of n ≡ c = cc in ap (is_quiet (office_before o (merges names) none_lost at) merge_set) (sym one)
        ∙ or_left (is_member merge_set n) _ (members n (has_at names at n f))

-- no order of merges of members of a safe merge set is refused, also where some are merged already
safe_calm : (o : Office) (merge_set : MergeSet) (ns before : List Name) → Safe o merge_set → AreMembers merge_set before → AreMembers merge_set ns
    → is_order_refused (after_merges o before) ns ≡ false
unfolding AreMembers
safe_calm o merge_set [] before safe done members = refl
safe_calm o merge_set (n ∷ ns) before safe done members =
    let now = after_merges o before in
    let member = members n (or_left (same_name n n) (has ns n) (same_itself n)) in
    let first = ((safe (merges before) none_lost (merges_quiet o merge_set before done)).answers (merge_of n) member).no_clash in
    let rest = safe_calm o merge_set ns (before ++ n ∷ []) safe (with_last member) (λ k h. members k (or_right (same_name n k) (has ns k) h)) in
    neither (is_clash (step now (merge_of n)).reply) (is_order_refused (step now (merge_of n)).office ns) first (ap (λ p. is_order_refused p ns) (sym
    (one_more o before n))
    ∙ rest)
  where
    with_last : is_member merge_set n ≡ true → (k : Name) → has (before ++ n ∷ []) k ≡ true → is_member merge_set k ≡ true
    with_last member k h = elim (or_cases (has before k) (same_name n k) (sym (has_last before n k) ∙ h)) [
      | inl old ↦ done k old
      | inr same ↦ ap (is_member merge_set) (sym (same_is n k same)) ∙ member
    ]

pub safe_order : SafeOrderLaw
unfolding AreMembers
safe_order o merge_set names safe part = safe_calm o merge_set names [] safe (λ k h. absurd (false≢true h)) (λ k h. sym (has_is merge_set.members k)
    ∙ part k (has_is names k ∙ h))

pub safe_plan : SafePlanLaw
safe_plan o merge_set order cause safe blocked =
    true≢false (sym (blocked_plan o merge_set order cause blocked) ∙ safe_order o merge_set (members_at merge_set order) safe
    (names_part o merge_set order))
