-- What is known of some of the names that were looked at.
use Rattle.std.proofs.Common.{◌≡◌, ◌∙◌, ◌<◌, ℕ, zero, suc, true, false, List, [], ◌∷◌, inl, inr, Contains, Option, Some, None, Global, Vec}
use Rattle.std.proofs.Common.{length, map, refl, sym, ap, ap₂, subst, arith}
use Rattle.std.specs.Prelude.{option_map, slice_get, IfSome}
use Rattle.std.specs.List.{cons_option, filter_map}
use Rattle.std.specs.List.Sorted.{IsStrictlySortedBy}
use Rattle.std.specs.Ordering.{nat_cmp}
use Rattle.std.proofs.lemmas.List.{length-map}
use Rattle.std.proofs.lemmas.Option.{slice_get-map}
use Rattle.clr_rows.specs.Contents.{Changes}
use Rattle.clr_rules.proofs.Elements.{Among, contained}
use Rattle.clr_workspaces.specs.Marks.{Name}
use Rattle.clr_needs.specs.Members.{AreApart, setting}
use Rattle.clr_needs.specs.Parts.{setting_at, sets_at}
use Rattle.clr_needs.specs.Settings.{Setting}
use Rattle.clr_needs.proofs.PartPositions.{StandsIn, one_to_one}
use Rattle.clr_steps.specs.Offices.{Office}
use Rattle.clr_steps.specs.Quiet.{MergeSet, is_member, root_content}
use Rattle.clr_steps.specs.Readings.{changes_in}
use Rattle.clr_clearance.specs.declared.verdicts.Verdict.TheVariants as verdict
use Rattle.clr_clearance.specs.MergeSets.{AreMergeable, change_sets, setting_by_position}
use Rattle.clr_clearance.specs.Plans.{IsBlocked, of_unpicked}
use Rattle.clr_clearance.specs.Verdicts.{member_fault}
use Rattle.clr_clearance.proofs.ClearLemmas.{AllDiffer, has_at, mergeable_of, no_member_fault, position_of}
use Rattle.clr_clearance.proofs.StaticLemmas.{apart_sets}
use Rattle.clr_clashes.specs.BrokenNeeds.{ArePlaces, IsFirstHeld, IsLeastBroken}
use Rattle.clr_clashes.specs.Laws.{PartsBreakListedNeeds}
use Rattle.clr_clashes.specs.ListedClashes.{ListedClash}
use Rattle.clr_merge_sets.specs.MergeSetNames.{merge_set}
use Rattle.clr_merge_sets.specs.declared.plans.Plan.{Plan}
use Rattle.clr_merge_sets.specs.declared.plans.Plan.TheVariants as plan
use Rattle.clr_plan.specs.Plans.{IsPlan}
use Rattle.clr_plan.proofs.PromiseLaws.{exact_law, lasting_law, promise_law}
use Rattle.clr_choices.specs.Clearable.{IsPlanOf}
use Rattle.clr_choices.specs.Looked.{AreLookedAt, ArePositionsOf, IsBlockedAt}
use Rattle.clr_choices.specs.Trials.{IsRefusal}
use Rattle.clr_choices.proofs.ClearableLaws.{part_mergeable}

-- elements at some positions -----------------------------------------------------------------------

module _ {X : Type 0} (xs : List X) where
  some_there : (k : ℕ) → k < length xs → slice_get xs k ≡ None → ⊥
  some_there = by xs
    where
      by : (ys : List X) (k : ℕ) → k < length ys → slice_get ys k ≡ None → ⊥
      by [] k less none = absurd (omega (arith, less))
      by (y ∷ ys) zero less none = absurd (cc)
      by (y ∷ ys) (suc k) less none = by ys k (omega (arith, less)) none

  -- an element of some is one of all
  element_of : (list : List ℕ) → ((k : ℕ) → Among k list → k < length xs) → (j : ℕ) (x : X) → slice_get (filter_map (slice_get xs) list) j ≡ Some x
      → (k : ℕ) × StandsIn list j k × (slice_get xs k ≡ Some x)
  element_of [] below j x e = absurd (cc)
  element_of (k ∷ ks) below j x e = by (slice_get xs k) refl j e (λ i f. element_of ks (λ z h. below z (inr h)) i x f)
    where
      by : (o : Option X) → slice_get xs k ≡ o → (j : ℕ) → slice_get (cons_option o (filter_map (slice_get xs) ks)) j ≡ Some x
          → ((i : ℕ) → slice_get (filter_map (slice_get xs) ks) i ≡ Some x → (z : ℕ) × StandsIn ks i z × (slice_get xs z ≡ Some x))
          → (z : ℕ) × StandsIn (k ∷ ks) j z × (slice_get xs z ≡ Some x)
      by None e j f more = absurd (some_there k (below k (inl refl)) e)
      by (Some y) e zero f more = (k, refl, e ∙ f)
      by (Some y) e (suc j) f more = more j f

map_cons : {X Y : Type 0} (f : X → Y) (o : Option X) (xs : List X) → map f (cons_option o xs) ≡ cons_option (option_map f o) (map f xs)
map_cons f None xs = refl
map_cons f (Some x) xs = refl

-- what some of the members changed is what stands at their positions
sets_same : (f : Name → Changes) (names : List Name) (positions : List ℕ) → map f (filter_map (slice_get names) positions) ≡ sets_at (map f names) positions
sets_same f names [] = refl
sets_same f names (k ∷ ks) =
    map_cons f (slice_get names k) (filter_map (slice_get names) ks)
    ∙ ap₂ (λ (o : Option Changes) (sets : List Changes). cons_option o sets) (sym (slice_get-map f names k)) (sets_same f names ks)

-- a blocked plan -----------------------------------------------------------------------------------

blocked_refusal : (o : Office) (s : MergeSet) (order : Vec ℕ Global) (k : ListedClash) → order.items ≡ k.members → member_fault o s ≡ None
    → AreApart (change_sets o s) → IsLeastBroken (setting_by_position o s) k → IsRefusal o s (plan.Blocked order (verdict.Uncovered k.need))
blocked_refusal o s order k is free apart least = record { planned = planned; uncleared = refl; found = refl }
  where
    blocked : IsBlocked o s k.members (verdict.Uncovered k.need)
    blocked = of_unpicked k.need free apart (record { touched = least.broken.touched; none = least.broken.none; first = least.first }) least.broken.blockers refl

    here : IsPlan o s (plan.Blocked order (verdict.Uncovered k.need))
    here = subst (λ (list : List ℕ). IsBlocked o s list (verdict.Uncovered k.need)) (sym is) blocked

    planned : IsPlanOf o s (plan.Blocked order (verdict.Uncovered k.need))
    planned = record {
      plan = here;
      promises = promise_law o s (plan.Blocked order (verdict.Uncovered k.need)) here;
      exact = exact_law o s (plan.Blocked order (verdict.Uncovered k.need)) here;
      lasts = lasting_law o s (plan.Blocked order (verdict.Uncovered k.need)) here;
      readable = λ c e. absurd (cc);
    }

-- some of the names --------------------------------------------------------------------------------

module _ (o : Office) (root : Name) (names : List Name) (ks : List ListedClash) (are : AreLookedAt o root names ks) (positions : List ℕ)
    (ascending : IsStrictlySortedBy nat_cmp positions) (below : (at : ℕ) → Contains positions at → at < length names) where
  abbrev w : MergeSet
  w = merge_set root names

  abbrev part : List Name
  part = filter_map (slice_get names) positions

  all_mergeable : AreMergeable o w
  all_mergeable = mergeable_of o w are.free are.apart

  stands_at : (j : ℕ) (name : Name) → slice_get part j ≡ Some name → (k : ℕ) × StandsIn positions j k × (slice_get names k ≡ Some name)
  stands_at = element_of names positions (λ k h. below k (contained k positions h))

  among_all : (name : Name) → is_member (merge_set root part) name ≡ true → is_member w name ≡ true
  among_all name h =
      let (j, e) = position_of part name h in
      let (k, at, is) = stands_at j name e in
      has_at names k name is

  differ : AllDiffer part
  differ i j name e f =
      let (x, at, is) = stands_at i name e in
      let (y, there, is_too) = stands_at j name f in
      (one_to_one positions ascending).one_left i j y (subst (StandsIn positions i) (all_mergeable.distinct x y name is is_too) at) there

  mergeable : AreMergeable o (merge_set root part)
  mergeable = part_mergeable o w part among_all differ all_mergeable

  setting_same : setting_by_position o (merge_set root part) ≡ setting_at o.book (root_content o w) (change_sets o w) positions
  unfolding root_content
  setting_same = ap (setting o.book (root_content o w)) (sets_same (changes_in o) names positions)

  part_refusal : PartsBreakListedNeeds → (k : ListedClash) (order : Vec ℕ Global) → IsFirstHeld ks positions k → ArePlaces positions k.members order.items
      → IsRefusal o (merge_set root part) (plan.Blocked order (verdict.Uncovered k.need))
  part_refusal law k order first places =
      let within : ((x : ℕ) → Contains positions x → x < length (change_sets o w)) =
      (λ x h. let less = below x h in let count = length-map names (changes_in o) in omega (arith, less, count)) in
      let least = law o.book (root_content o w) (change_sets o w) ks positions k order.items are.apart are.needs ascending within first places in
      blocked_refusal o (merge_set root part) order (record { members = order.items; need = k.need }) refl
      (no_member_fault o (merge_set root part) mergeable) (apart_sets o (merge_set root part) mergeable)
      (subst (λ (c : Setting ℕ). IsLeastBroken c (record { members = order.items; need = k.need })) (sym setting_same) least)

pub known : PartsBreakListedNeeds → (o : Office) (root : Name) (names members : List Name) (ks : List ListedClash) (positions : List ℕ)
    → AreLookedAt o root names ks → ArePositionsOf names members positions
    → (k : ListedClash) (order : Vec ℕ Global) → IsFirstHeld ks positions k → ArePlaces positions k.members order.items
    → IsRefusal o (merge_set root members) (plan.Blocked order (verdict.Uncovered k.need))
known law o root names members ks positions are at k order first places =
    subst (λ (ms : List Name). IsRefusal o (merge_set root ms) (plan.Blocked order (verdict.Uncovered k.need))) at.read
    (part_refusal o root names ks are positions at.ascending at.below law k order first places)

-- what is known of members by their positions among names that were looked at
pub known_blocked : PartsBreakListedNeeds → (o : Office) (root : Name) (names members : List Name) (ks : List ListedClash) (positions : List ℕ)
    → AreLookedAt o root names ks → ArePositionsOf names members positions → (p : Plan) → IsBlockedAt ks positions p → IsRefusal o (merge_set root members) p
known_blocked law o root names members ks positions are at (plan.Blocked order cause) (k, first, places, is) =
    subst (λ v. IsRefusal o (merge_set root members) (plan.Blocked order v)) (sym is) (known law o root names members ks positions are at k order first places)
known_blocked law o root names members ks positions are at (plan.Unfit v) h = absurd h
known_blocked law o root names members ks positions are at (plan.Cleared c) h = absurd h
known_blocked law o root names members ks positions are at plan.OutOfMemory h = absurd h

pub known_if_any : PartsBreakListedNeeds → (o : Office) (root : Name) (names members : List Name) (ks : List ListedClash) (positions : List ℕ)
    → AreLookedAt o root names ks → ArePositionsOf names members positions → (p : Option Plan) → IfSome p (IsBlockedAt ks positions)
    → IfSome p (IsRefusal o (merge_set root members))
known_if_any law o root names members ks positions are at None h = tt
known_if_any law o root names members ks positions are at (Some p) h = known_blocked law o root names members ks positions are at p h
