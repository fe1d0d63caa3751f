-- Merge sets of which the plan is cleared, and their parts.
use Rattle.std.proofs.Common.{◌≡◌, ◌∙◌, ◌<◌, ℕ, true, false, List, inl, inr, Contains, Some, None, ap, arith, length, map, subst, sym}
use Rattle.std.specs.Prelude.{option_and_then, slice_get}
use Rattle.std.specs.List.{filter_map}
use Rattle.std.proofs.lemmas.Bool.{cases_Bool}
use Rattle.std.proofs.lemmas.List.{length-map}
use Rattle.std.proofs.lemmas.Option.{slice_get_within}
use Rattle.clr_rules.proofs.Elements.{Among, among, among_mapped, contained}
use Rattle.clr_workspaces.specs.Marks.{Name}
use Rattle.clr_needs.specs.Members.{AreApart}
use Rattle.clr_steps.specs.Offices.{Office}
use Rattle.clr_steps.specs.Quiet.{MergeSet, root_content}
use Rattle.clr_steps.specs.Readings.{changes_in}
use Rattle.clr_clearance.specs.Plans.{members_at}
use Rattle.clr_clearance.specs.MergeSets.{change_sets, setting_by_position}
use Rattle.clr_clearance.specs.Verdicts.{member_fault}
use Rattle.clr_clearance.proofs.ClearLemmas.{no_member_fault}
use Rattle.clr_clearance.proofs.StaticLemmas.{apart_sets}
use Rattle.clr_merge_sets.specs.MergeSetNames.{merge_set}
use Rattle.clr_merge_sets.specs.declared.plans.Plan.{Plan}
use Rattle.clr_merge_sets.specs.declared.plans.Plan.TheVariants as plan
use Rattle.clr_plan.specs.Plans.{IsPlan}
use Rattle.clr_merge_sets.specs.Plans.{is_cleared, is_out_of_memory}
use Rattle.clr_clashes.specs.Clashes.{LeavesNoneUncovered}
use Rattle.clr_clashes.specs.Laws.{ClashesDecideSubsets, ListedClashesDecideSubsets}
use Rattle.clr_clashes.specs.ListedClashes.{AreSmallestClashes, HoldNoneOf, ListedClash}
use Rattle.clr_merge_clashes.specs.Laws.{ArePositions, merge_set_of_part}
use Rattle.clr_merge_clashes.proofs.PartMergeSets.{part_mergeable}
use Rattle.clr_merge_clashes.proofs.PartPlaces.{is_at, place, place_stands, places_read, places_rise, read_at_place, read_through}
use Rattle.clr_merge_clashes.proofs.PlanLaw.{cleared_leaves_none, none_left_cleared, setting_same}

-- no test of these members fails, no cell is changed by two, and no touched need is left uncovered
pub record IsFreeSet (o : Office) (t : MergeSet) : Type 0 where
  pub fits : member_fault o t ≡ None
  pub apart : AreApart (change_sets o t)
  pub none : LeavesNoneUncovered (setting_by_position o t)

module _ (o : Office) (t : MergeSet) where
  pub free_if_cleared : (p : Plan) → IsPlan o t p → is_cleared p ≡ true → IsFreeSet o t
  free_if_cleared (plan.Cleared c) h e = record { fits = h.cleared.free; apart = h.cleared.apart; none = cleared_leaves_none o t (plan.Cleared c) h e }
  free_if_cleared (plan.Blocked order cause) h e = absurd (cc)
  free_if_cleared (plan.Unfit v) h e = absurd (cc)
  free_if_cleared plan.OutOfMemory h e = absurd (cc)

  pub cleared_if_free : IsFreeSet o t → (p : Plan) → IsPlan o t p → is_out_of_memory p ≡ false → is_cleared p ≡ true
  cleared_if_free free p h found = none_left_cleared o t free.fits free.apart free.none p h found

  pub not_cleared : (IsFreeSet o t → ⊥) → (p : Plan) → IsPlan o t p → is_cleared p ≡ false
  not_cleared blocked p h = elim (cases_Bool (is_cleared p)) [ inl e ↦ absurd (blocked (free_if_cleared p h e)) | inr e ↦ e ]

  -- ---- some of the members

  module _ (positions : List ℕ) (part : ArePositions t positions) where
    within : (k : ℕ) → Contains positions k → k < length (change_sets o t)
    within k h = let less = part.below k h in let count = length-map t.members (changes_in o) in omega (arith, less, count)

    abbrev Part : Type 0
    Part = IsFreeSet o (merge_set_of_part t positions)

    part_is : member_fault o t ≡ None → AreApart (change_sets o t) → LeavesNoneUncovered (setting_by_position o (merge_set_of_part t positions)) → Part
    part_is fits apart none =
        let mergeable = part_mergeable o t positions fits apart part.ascending part.below in
        record {
          fits = no_member_fault o (merge_set_of_part t positions) mergeable;
          apart = apart_sets o (merge_set_of_part t positions) mergeable;
          none = none;
        }

    -- where the members are free, so are some of them
    pub part_free : ClashesDecideSubsets → IsFreeSet o t → Part
    part_free law free =
        let decided = law o.book (root_content o t) (change_sets o t) positions free.apart part.ascending within in
        part_is free.fits free.apart (subst LeavesNoneUncovered (sym (setting_same o t positions))
        (decided.1 (λ list smallest held. let (n, broken) = smallest.clash in free.none n broken.touched broken.uncovered)))

    module _ (law : ListedClashesDecideSubsets) (fits : member_fault o t ≡ None) (apart : AreApart (change_sets o t))
        (listed : List ListedClash) (smallest : AreSmallestClashes (setting_by_position o t) listed) where
      -- some are free exactly where they hold none of the smallest clashes
      pub holding_none : HoldNoneOf listed positions → Part
      holding_none none =
          let decided = law o.book (root_content o t) (change_sets o t) listed positions apart smallest part.ascending within in
          part_is fits apart (subst LeavesNoneUncovered (sym (setting_same o t positions)) (decided.1 none))

      pub none_held : Part → HoldNoneOf listed positions
      none_held free =
          let decided = law o.book (root_content o t) (change_sets o t) listed positions apart smallest part.ascending within in
          decided.0 (subst LeavesNoneUncovered (setting_same o t positions) free.none)

-- some of some of the members ----------------------------------------------------------------------

module _ (s : MergeSet) (ps : List ℕ) (all : ArePositions s ps) where
  below_all : (k : ℕ) → Among k ps → k < length s.members
  below_all k h = all.below k (contained k ps h)

  -- by their places among these they are the same members
  pub members_through : (js : List ℕ) → members_at (merge_set_of_part s ps) js ≡ members_at s (filter_map (slice_get ps) js)
  members_through js = read_through s.members ps below_all js

  module _ (qs : List ℕ) (part : ArePositions s qs) (within : (x : ℕ) → Among x qs → Among x ps) where
    pub members_placed : members_at (merge_set_of_part s ps) (map (place ps) qs) ≡ members_at s qs
    members_placed = members_through (map (place ps) qs) ∙ ap (members_at s) (places_read ps qs within)

    pub places_are : ArePositions (merge_set_of_part s ps) (map (place ps) qs)
    places_are = record {
      ascending = places_rise ps qs all.ascending part.ascending within;
      below = λ k h. (
          let (q, there, is) = among_mapped (place ps) k qs (among k (map (place ps) qs) h) in
          let (name, e) = is_at s.members q (part.below q (contained q qs there)) in
          let stands : slice_get (members_at s ps) (place ps q) ≡ Some name = read_at_place s.members ps below_all (place ps q)
          ∙ ap (option_and_then (slice_get s.members)) (place_stands ps q (within q there)) ∙ e in
          subst (λ n. n < length (members_at s ps)) is (slice_get_within (members_at s ps) (place ps q) name stands));
    }

    -- where these members are free, so are some of them
    pub some_free : (o : Office) → ClashesDecideSubsets → IsFreeSet o (merge_set_of_part s ps)
        → IsFreeSet o (merge_set_of_part s qs)
    some_free o law free =
        subst (λ (names : List Name). IsFreeSet o (merge_set s.root names)) members_placed
        (part_free o (merge_set_of_part s ps) (map (place ps) qs) places_are law free)
