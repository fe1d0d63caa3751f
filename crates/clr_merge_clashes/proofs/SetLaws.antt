-- The sets that are found: each can't be merged together and each lesser one can, and they tell which plans are cleared.
use Rattle.std.proofs.Common.{◌≡◌, ◌∙◌, ◌<◌, ◌==◌, ℕ, Bool, true, false, cond, not, List, [], ◌∷◌, ◌++◌, ◌⊎◌, inl, inr, Contains, Option, Some, None}
use Rattle.std.proofs.Common.{ap, ap₂, arith, is_some, length, map, nat_lt, refl, subst, sym}
use Rattle.std.specs.Prelude.{find, is_none, option_and_then, option_map, slice_get}
use Rattle.std.specs.FinMap as finite
use Rattle.std.specs.List.{cons_option, filter_map, list_any}
use Rattle.std.specs.List.Sorted.{IsStrictlySortedBy}
use Rattle.std.specs.Ordering.{nat_cmp}
use Rattle.std.proofs.lemmas.Bool.{cases_Bool, false≢true, ltb-true, or_cases}
use Rattle.std.proofs.lemmas.Bool.Decides.{Decides-eqb}
use Rattle.std.proofs.lemmas.Cmp.{nat_cmp_total}
use Rattle.std.proofs.lemmas.List.{length-map}
use Rattle.std.proofs.lemmas.List.Kept.{IsStrictlySortedBy-filter}
use Rattle.std.proofs.lemmas.Option.{slice_get_within}
use Rattle.clr_rows.specs.declared.cells.CellId.{CellId}
use Rattle.clr_rows.specs.declared.cells.Change.{Change}
use Rattle.clr_rows.specs.Contents.{Changes}
use Rattle.clr_rows.proofs.CellOrder.{cell_cmp_total}
use Rattle.clr_rows.proofs.SortedMaps.{held_where}
use Rattle.clr_rules.proofs.AskLemmas.{less_number}
use Rattle.clr_rules.proofs.Elements.{Among, among, among_either, among_flat, among_kept, among_left, among_mapped, among_right, contained}
use Rattle.clr_rules.proofs.Elements.{mapped_among, same_rising, some_of}
use Rattle.clr_workspaces.specs.Marks.{Name}
use Rattle.clr_needs.specs.Members.{AreApart}
use Rattle.clr_needs.proofs.BlockerLaws.{range_below}
use Rattle.clr_needs.proofs.NeedSubjects.{blocker_involves, involved_member, touched_involves}
use Rattle.clr_needs.proofs.PartPositions.{StandsIn, one_to_one}
use Rattle.clr_needs.proofs.PositionLaws.{number_less}
use Rattle.clr_steps.specs.Offices.{Office}
use Rattle.clr_steps.specs.Quiet.{MergeSet, root_content}
use Rattle.clr_steps.specs.Readings.{changes_in}
use Rattle.clr_clearance.specs.declared.verdicts.Verdict.{Verdict}
use Rattle.clr_clearance.specs.declared.verdicts.Verdict.TheVariants as verdict
use Rattle.clr_clearance.specs.Plans.{members_at}
use Rattle.clr_clearance.specs.MergeSets.{AreMergeable, change_sets, setting_by_position}
use Rattle.clr_clearance.proofs.ClearLemmas.{no_member_fault}
use Rattle.clr_merge_sets.specs.MergeSetNames.{merge_set}
use Rattle.clr_merge_sets.proofs.MergeSetLemmas.{kept_root}
use Rattle.clr_clashes.specs.Clashes.{IsAllIn}
use Rattle.clr_clashes.specs.Keeping.{is_all_in}
use Rattle.clr_clashes.specs.Laws.{ClashesDecideSubsets, ListedClashesDecideSubsets}
use Rattle.clr_clashes.specs.ListedClashes.{HoldNoneOf, IsListedClash, ListedClash}
use Rattle.clr_clashes.proofs.Kept.{told_within, within_told}
use Rattle.clr_merge_clashes.specs.declared.clash_sets.MergeClashes.{MergeClashes as Found}
use Rattle.clr_merge_clashes.specs.ClashSets.{MergeClash, merge_clash, positions_of}
use Rattle.clr_merge_clashes.specs.Laws.{ArePositions, AreSmallestSets, HoldNoSet, SetsDecidePlans, merge_set_of_part, sets_of}
use Rattle.clr_merge_clashes.specs.Lone.{alone, cause_at, free_positions, is_free, lone_clash, lone_clashes}
use Rattle.clr_merge_clashes.specs.MergeClashes.{AreListed, AreMergeClashes, is_looked_at, looked_at, need_clash, together, together_merge_set}
use Rattle.clr_merge_clashes.specs.SharedCells.{cell_of_two, earlier_clash, earlier_clashes, is_apart_at, is_changed_in, pair_clash}
use Rattle.clr_merge_clashes.specs.SharedCells.{shared_cell, shared_clashes}
use Rattle.clr_merge_clashes.proofs.Causes.{cause_of, same_count}
use Rattle.clr_merge_clashes.proofs.FreeSets.{IsFreeSet, cleared_if_free, free_if_cleared, holding_none, members_placed, members_through, none_held}
use Rattle.clr_merge_clashes.proofs.FreeSets.{not_cleared, places_are, some_free}
use Rattle.clr_merge_clashes.proofs.PartPlaces.{among_at, among_read, at_among, below_count, is_at, place, place_stands, range_rises, read_at_place, read_rises}
use Rattle.clr_merge_clashes.proofs.PlanLaw.{not_blocked, sets_same}

-- lists --------------------------------------------------------------------------------------------

module _ {X Y : Type 0} (f : X → Option Y) where
  among_filter_map : (xs : List X) (y : Y) → Among y (filter_map f xs) → (x : X) × Among x xs × (f x ≡ Some y)
  among_filter_map [] y h = absurd h
  among_filter_map (x ∷ xs) y h = by (f x) refl h (among_filter_map xs y)
    where
      by : (o : Option Y) → f x ≡ o → Among y (cons_option o (filter_map f xs)) → (Among y (filter_map f xs) → (z : X) × Among z xs × (f z ≡ Some y))
          → (z : X) × Among z (x ∷ xs) × (f z ≡ Some y)
      by None e h more = let (z, there, is) = more h in (z, inr there, is)
      by (Some w) e (inl same) more = (x, inl refl, e ∙ ap Some same)
      by (Some w) e (inr h) more = let (z, there, is) = more h in (z, inr there, is)

  filter_map_among : (xs : List X) (x : X) (y : Y) → Among x xs → f x ≡ Some y → Among y (filter_map f xs)
  filter_map_among [] x y h e = absurd h
  filter_map_among (z ∷ xs) x y h e = by (f z) refl h (λ later. filter_map_among xs x y later e)
    where
      by : (o : Option Y) → f z ≡ o → Among x (z ∷ xs) → (Among x xs → Among y (filter_map f xs)) → Among y (cons_option o (filter_map f xs))
      by None g (inl same) more = absurd (let both : None ≡ Some y = sym g ∙ ap f same ∙ e in cc)
      by (Some w) g (inl same) more = let both : Some w ≡ Some y = sym g ∙ ap f same ∙ e in inl cc
      by None g (inr later) more = more later
      by (Some w) g (inr later) more = inr (more later)

found_passes : {X : Type 0} (p : X → Bool) (xs : List X) (x : X) → find p xs ≡ Some x → Among x xs × (p x ≡ true)
found_passes p [] x e = absurd (cc)
found_passes p (y ∷ ys) x e = by (p y) refl e (found_passes p ys x)
  where
    by : (b : Bool) → p y ≡ b → cond b (Some y) (find p ys) ≡ Some x → (find p ys ≡ Some x → Among x ys × (p x ≡ true)) → Among x (y ∷ ys) × (p x ≡ true)
    by true passes h more = let same : y ≡ x = cc in (inl same, subst (λ z. p z ≡ true) same passes)
    by false fails h more = let (there, passes) = more h in (inr there, passes)

-- causes -------------------------------------------------------------------------------------------

told_cause : (r : Option (Option Verdict)) (v : Verdict) → option_and_then (λ cause. cause) r ≡ Some v → r ≡ Some (Some v)
told_cause None v e = absurd (cc)
told_cause (Some None) v e = absurd (cc)
told_cause (Some (Some w)) v e = ap Some e

module _ (o : Office) (s : MergeSet) (found : Found) (causes : List (Option Verdict)) (broken : List MergeClash)
    (is : AreMergeClashes o s causes broken found) (law : ClashesDecideSubsets) (listed_law : ListedClashesDecideSubsets) where
  abbrev Free : List ℕ → Type 0
  Free positions = IsFreeSet o (merge_set_of_part s positions)

  abbrev sets : List Changes
  sets = change_sets o s

  abbrev free : List ℕ
  free = free_positions causes

  abbrev both : List ℕ
  both = together o s causes

  count : length causes ≡ length s.members
  count = same_count o s.root s.members causes is.alone

  below_all : (at : ℕ) (cause : Option Verdict) → slice_get causes at ≡ Some cause → at < length s.members
  below_all at cause e = let less = slice_get_within causes at cause e in omega (arith, less, count)

  -- ---- no members, and one

  none_free : Free []
  none_free =
      let t = merge_set s.root [] in
      let mergeable : AreMergeable o t = record {
        kept = kept_root o s (sym is.named);
        distinct = λ i j name e f. absurd (cc);
        children = λ name h. absurd (false≢true h);
        free = λ name h. absurd (false≢true h);
        apart = λ m n cell hm hn. absurd (false≢true hm);
      } in
      record {
        fits = no_member_fault o t mergeable;
        apart = λ cell m n h k. absurd (false≢true h);
        none = λ n (a, b, possible, touched) uncovered. (
            let (x, involves) = touched_involves (setting_by_position o t) n a b possible touched in
            false≢true (involved_member (setting_by_position o t) n a b x possible involves));
      }

  one_member : (at : ℕ) (name : Name) → slice_get s.members at ≡ Some name → members_at s (at ∷ []) ≡ name ∷ []
  one_member at name e = ap (λ (r : Option Name). cons_option r []) e

  one_ascends : (at : ℕ) → at < length s.members → ArePositions s (at ∷ [])
  unfolding IsStrictlySortedBy
  one_ascends at less = record { ascending = (tt, tt); below = λ k h. by k (among k (at ∷ []) h) }
    where
      by : (k : ℕ) → Among k (at ∷ []) → k < length s.members
      by k (inl same) = omega (arith, same, less)
      by k (inr h) = absurd h

  lone_blocked : (at : ℕ) (v : Verdict) → cause_at causes at ≡ Some v → Free (at ∷ []) → ⊥
  lone_blocked at v e one =
      let (name, there, (order, blocked)) = cause_of o s.root s.members causes is.alone at (Some v) (told_cause (slice_get causes at) v e) in
      let one_too = subst (λ (names : List Name). IsFreeSet o (merge_set s.root names)) (one_member at name there) one in
      not_blocked o (alone s.root name) one_too.fits one_too.apart one_too.none order v blocked

  is_free_cause : (r : Option Verdict) (at : ℕ) → is_none (option_map (merge_clash (at ∷ [])) r) ≡ true → r ≡ None
  is_free_cause None at e = refl
  is_free_cause (Some v) at e = absurd (false≢true e)

  free_there : (at : ℕ) → Among at free → (at < length causes) × (cause_at causes at ≡ None)
  free_there at h =
      let (there, passes) = among_kept (is_free causes) at (positions_of causes) h in
      (below_count (length causes) at there, is_free_cause (cause_at causes at) at passes)

  free_alone : (at : ℕ) → Among at free → Free (at ∷ [])
  free_alone at h =
      let (less, none) = free_there at h in
      let (cause, e) = is_at causes at less in
      let cause_none : cause ≡ None = sym (ap (option_and_then (λ (r : Option Verdict). r)) e) ∙ none in
      let (name, there, (p, planned, cleared)) = cause_of o s.root s.members causes is.alone at None (e ∙ ap Some cause_none) in
      subst (λ (names : List Name). IsFreeSet o (merge_set s.root names)) (sym (one_member at name there))
      (free_if_cleared o (alone s.root name) p planned cleared)

  free_below : (at : ℕ) → Among at free → at < length s.members
  free_below at h = let (less, none) = free_there at h in omega (arith, less, count)

  -- ---- two that change a cell

  has_after : (r : Option Change) → is_some r ≡ true → is_some (option_map (λ (e : Change). e.after) r) ≡ true
  has_after None h = h
  has_after (Some e) h = refl

  two_share : (a b : Changes) (cell : CellId) → shared_cell a b ≡ Some cell → AreApart (a ∷ b ∷ []) → ⊥
  two_share a b cell e apart =
      let (there, second) = found_passes (is_changed_in b) (finite.keys a) cell e in
      let (k, at) = among_at (finite.keys a) cell there in
      let first = held_where cell_cmp_total a k (Some cell) (sym at) in
      let one : 0 ≡ 1 = apart cell 0 1 (has_after (finite.get a cell) first) (has_after (finite.get b cell) second) in
      absurd (omega (arith, one))

  two_blocked : (i j : ℕ) (cell : CellId) (x y : Option Changes) → slice_get sets i ≡ x → slice_get sets j ≡ y → cell_of_two x y ≡ Some cell
      → Free (i ∷ j ∷ []) → ⊥
  two_blocked i j cell None y e f shared two = absurd (cc)
  two_blocked i j cell (Some a) None e f shared two = absurd (cc)
  two_blocked i j cell (Some a) (Some b) e f shared two =
      let both_sets : change_sets o (merge_set_of_part s (i ∷ j ∷ [])) ≡ a ∷ b ∷ [] =
      sets_same (changes_in o) s.members (i ∷ j ∷ []) ∙ ap₂ (λ (r q : Option Changes). cons_option r (cons_option q [])) e f in
      two_share a b cell shared (subst AreApart both_sets two.apart)

  two_ascend : (i j : ℕ) → i < j → j < length s.members → ArePositions s (i ∷ j ∷ [])
  unfolding IsStrictlySortedBy
  two_ascend i j less below = record { ascending = ((less_number i j less, tt), (tt, tt)); below = λ k h. by k (among k (i ∷ j ∷ []) h) }
    where
      by : (k : ℕ) → Among k (i ∷ j ∷ []) → k < length s.members
      by k (inl same) = omega (arith, same, less, below)
      by k (inr (inl same)) = omega (arith, same, below)
      by k (inr (inr h)) = absurd h

  -- ---- lesser sets of one and of two

  lesser_one : (at : ℕ) (qs : List ℕ) → IsAllIn qs (at ∷ []) → (IsAllIn (at ∷ []) qs → ⊥) → Free qs
  lesser_one at [] inside not_all = none_free
  lesser_one at (q ∷ qs) inside not_all = absurd (by (among q (at ∷ []) (inside q (contained q (q ∷ qs) (inl refl)))))
    where
      by : Among q (at ∷ []) → ⊥
      by (inl same) = not_all (λ x h. only x (among x (at ∷ []) h))
        where
          only : (x : ℕ) → Among x (at ∷ []) → Contains (q ∷ qs) x
          only x (inl e) = contained x (q ∷ qs) (inl (sym same ∙ e))
          only x (inr h) = absurd h
      by (inr h) = h

  lesser_two : (i j : ℕ) → i < j → Among i free → Among j free → (qs : List ℕ) → ArePositions s qs → IsAllIn qs (i ∷ j ∷ [])
      → (IsAllIn (i ∷ j ∷ []) qs → ⊥) → Free qs
  unfolding IsStrictlySortedBy
  lesser_two i j less first second [] part inside not_all = none_free
  lesser_two i j less first second (x ∷ []) part inside not_all = by (among x (i ∷ j ∷ []) (inside x (contained x (x ∷ []) (inl refl))))
    where
      by : Among x (i ∷ j ∷ []) → Free (x ∷ [])
      by (inl same) = subst (λ z. Free (z ∷ [])) same (free_alone i first)
      by (inr (inl same)) = subst (λ z. Free (z ∷ [])) same (free_alone j second)
      by (inr (inr h)) = absurd h
  lesser_two i j less first second (x ∷ y ∷ qs) part inside not_all =
      let rises = number_less x y part.ascending.0.0 in
      absurd (by rises (among x (i ∷ j ∷ []) (inside x (contained x (x ∷ y ∷ qs) (inl refl))))
      (among y (i ∷ j ∷ []) (inside y (contained y (x ∷ y ∷ qs) (inr (inl refl))))))
    where
      by : x < y → Among x (i ∷ j ∷ []) → Among y (i ∷ j ∷ []) → ⊥
      by rises (inr (inr h)) k = h
      by rises h (inr (inr k)) = k
      by rises (inl e) (inl f) = absurd (omega (arith, rises, e, f))
      by rises (inr (inl e)) (inr (inl f)) = absurd (omega (arith, rises, e, f))
      by rises (inr (inl e)) (inl f) = absurd (omega (arith, rises, e, f, less))
      by rises (inl e) (inr (inl f)) = not_all (λ z h. only z (among z (i ∷ j ∷ []) h))
        where
          only : (z : ℕ) → Among z (i ∷ j ∷ []) → Contains (x ∷ y ∷ qs) z
          only z (inl g) = contained z (x ∷ y ∷ qs) (inl (sym e ∙ g))
          only z (inr (inl g)) = contained z (x ∷ y ∷ qs) (inr (inl (sym f ∙ g)))
          only z (inr (inr h)) = absurd h

  -- ---- what kinds of sets there are

  pub data IsKind (listed : List ListedClash) (members : List ℕ) : Type 0 where
    of_one : (at : ℕ) (v : Verdict) → cause_at causes at ≡ Some v → members ≡ at ∷ [] → IsKind listed members
    of_two : (i j : ℕ) (cell : CellId) → i < j → Among i free → Among j free → cell_of_two (slice_get sets i) (slice_get sets j) ≡ Some cell
        → members ≡ i ∷ j ∷ [] → IsKind listed members
    of_need : (k : ListedClash) → Among k listed → members ≡ filter_map (slice_get both) k.members → IsKind listed members

  lone_of_kind : (listed : List ListedClash) (k : MergeClash) → Among k (lone_clashes causes) → IsKind listed k.members
  lone_of_kind listed k h =
      let (at, there, e) = among_filter_map (lone_clash causes) (positions_of causes) k h in by at (cause_at causes at) refl e
    where
      by : (at : ℕ) (r : Option Verdict) → cause_at causes at ≡ r → option_map (merge_clash (at ∷ [])) r ≡ Some k → IsKind listed k.members
      by at None f e = absurd (cc)
      by at (Some v) f e = let one : merge_clash (at ∷ []) v ≡ k = cc in of_one at v f (ap (λ (m : MergeClash). m.members) (sym one))

  two_of_kind : (listed : List ListedClash) (k : MergeClash) → Among k (shared_clashes sets free) → IsKind listed k.members
  two_of_kind listed k h =
      let (later, there, h_two) = among_flat (earlier_clashes sets free) k free h in
      let (earlier, there_too, e) = among_filter_map (earlier_clash sets later) free k h_two in
      by later earlier there there_too (nat_lt earlier later) refl e
    where
      named : (later earlier : ℕ) → earlier < later → Among later free → Among earlier free → (r : Option CellId)
          → cell_of_two (slice_get sets earlier) (slice_get sets later) ≡ r
          → option_map (λ (cell : CellId). merge_clash (earlier ∷ later ∷ []) (verdict.SharedCell cell 0 1)) r ≡ Some k → IsKind listed k.members
      named later earlier less there there_too None f e = absurd (cc)
      named later earlier less there there_too (Some cell) f e =
          let one : merge_clash (earlier ∷ later ∷ []) (verdict.SharedCell cell 0 1) ≡ k = cc in
          of_two earlier later cell less there_too there f (ap (λ (m : MergeClash). m.members) (sym one))

      by : (later earlier : ℕ) → Among later free → Among earlier free → (b : Bool) → nat_lt earlier later ≡ b
          → cond b (pair_clash sets earlier later) None ≡ Some k → IsKind listed k.members
      by later earlier there there_too false less e = absurd (cc)
      by later earlier there there_too true less e = named later earlier (ltb-true earlier later less) there there_too
          (cell_of_two (slice_get sets earlier) (slice_get sets later)) refl e

  -- ---- the members that are looked at together

  both_rise : IsStrictlySortedBy nat_cmp both
  both_rise = IsStrictlySortedBy-filter nat_cmp (is_apart_at sets free) free
      (IsStrictlySortedBy-filter nat_cmp (is_free causes) (positions_of causes) (range_rises 0 (length causes)))

  both_are : ArePositions s both
  both_are = record { ascending = both_rise; below = λ k h. free_below k (among_kept (is_apart_at sets free) k free (among k both h)).0 }

  module _ (listed : List ListedClash) (are : AreListed o (together_merge_set o s causes) both listed broken) where
    abbrev t : MergeSet
    t = together_merge_set o s causes

    free_by_places : (qs : List ℕ) → ArePositions s qs → ((x : ℕ) → Among x qs → Among x both) → HoldNoneOf listed (map (place both) qs) → Free qs
    free_by_places qs part within none =
        subst (λ (names : List Name). IsFreeSet o (merge_set s.root names)) (members_placed s both both_are qs part within)
        (holding_none o t (map (place both) qs) (places_are s both both_are qs part within) listed_law are.free are.apart listed are.smallest none)

    listed_is : (k : ListedClash) → Among k listed → IsListedClash (setting_by_position o t) k
    listed_is k h = (are.smallest.lists.exactly k).0 (contained k listed h)

    clash_positions : (k : ListedClash) → Among k listed → ArePositions t k.members
    clash_positions k h =
        let is_k = listed_is k h in
        let (a, b, uncovered) = is_k.broken.uncovered in
        let blockers = is_k.broken.blockers a b uncovered.possible in
        record {
          ascending = blockers.ascending;
          below = λ x there. (
              let c = setting_by_position o t in
              let member = involved_member c k.need a b x uncovered.possible (blocker_involves c k.need a b x ((blockers.exactly x).0 there)) in
              let less = range_below (length (change_sets o t)) 0 x member in
              let same = length-map t.members (changes_in o) in
              omega (arith, less, same));
        }

    place_below : (k : ℕ) → k < length t.members → k < length both
    place_below k less =
        let (name, e) = is_at t.members k less in
        by (slice_get both k) refl (sym (read_at_place s.members both (λ x h. both_are.below x (contained x both h)) k) ∙ e)
      where
        by : {name : Name} (r : Option ℕ) → slice_get both k ≡ r → option_and_then (slice_get s.members) r ≡ Some name → k < length both
        by None e f = absurd (cc)
        by (Some x) e f = slice_get_within both k x e

    need_positions : (k : ListedClash) → Among k listed → ArePositions s (filter_map (slice_get both) k.members)
    need_positions k h =
        let part = clash_positions k h in
        record {
          ascending = read_rises both k.members both_rise part.ascending (λ x there. place_below x (part.below x (contained x k.members there)));
          below = λ x there. (
              let (p, there_too, e) = among_read both k.members x (among x (filter_map (slice_get both) k.members) there) in
              both_are.below x (contained x both (at_among both p x e)));
        }

    need_blocked : (k : ListedClash) → Among k listed → Free (filter_map (slice_get both) k.members) → ⊥
    need_blocked k h one =
        let part = subst (λ (names : List Name). IsFreeSet o (merge_set s.root names)) (sym (members_through s both both_are k.members)) one in
        none_held o t k.members (clash_positions k h) listed_law are.free are.apart listed are.smallest part k (contained k listed h) (λ x there. there)

    -- a number of some that stands at the place of a member of a clash
    need_lesser : (k : ListedClash) → Among k listed → (qs : List ℕ) → ArePositions s qs → IsAllIn qs (filter_map (slice_get both) k.members)
        → (IsAllIn (filter_map (slice_get both) k.members) qs → ⊥) → Free qs
    need_lesser k h qs part inside not_all =
        let all = filter_map (slice_get both) k.members in
        let in_both : (x : ℕ) → Among x qs → Among x both =
        (λ x there. let (p, there_too, e) = among_read both k.members x (among x all (inside x (contained x qs there))) in at_among both p x e) in
        free_by_places qs part in_both (λ m m_there held.
        let within_k : IsAllIn m.members k.members = (λ x there.
        let (q, q_there, at) = among_mapped (place both) x qs (among x (map (place both) qs) (held x there)) in
        let (p, p_there, e) = among_read both k.members q (among q all (inside q (contained q qs q_there))) in
        let same : place both q ≡ p = (one_to_one both both_rise).one_left (place both q) p q (place_stands both q (in_both q q_there)) e in
        contained x k.members (subst (λ z. Among z k.members) (sym same ∙ at) p_there)) in
        let one : m.members ≡ k.members =
        (listed_is k h).smallest.smallest m.members (listed_is m (among m listed m_there)).smallest.clash within_k in
        not_all (λ x there.
        let (p, p_there, e) = among_read both k.members x (among x all there) in
        let (q, q_there, at) = among_mapped (place both) p qs
        (among p (map (place both) qs) (held p (subst (λ l. Contains l p) (sym one) (contained p k.members p_there)))) in
        let same : q ≡ x = (one_to_one both both_rise).one_right p q x (subst (λ z. StandsIn both z q) at (place_stands both q (in_both q q_there))) e in
        contained x qs (subst (λ z. Among z qs) same q_there)))

    -- ---- each set

    kind_of : (k : MergeClash) → Contains (sets_of found) k → IsKind listed k.members
    kind_of k h = by (among_either k (lone_clashes causes ++ shared_clashes sets free) broken
        (subst (λ list. Among k list) is.clashes (among k (sets_of found) h)))
      where
        by : Among k (lone_clashes causes ++ shared_clashes sets free) ⊎ Among k broken → IsKind listed k.members
        by (inl first) = elim (among_either k (lone_clashes causes) (shared_clashes sets free) first) [
          | inl one ↦ lone_of_kind listed k one
          | inr two ↦ two_of_kind listed k two
        ]
        by (inr last) =
            let (l, there, e) = among_mapped (need_clash both) k listed (subst (λ list. Among k list) are.numbered last) in
            of_need l there (ap (λ (m : MergeClash). m.members) (sym e))

    kind_positions : (members : List ℕ) → IsKind listed members → ArePositions s members
    kind_positions members (of_one at v e same) =
        subst (ArePositions s) (sym same) (one_ascends at (below_all at (Some v) (told_cause (slice_get causes at) v e)))
    kind_positions members (of_two i j cell less first second shared same) = subst (ArePositions s) (sym same) (two_ascend i j less (free_below j second))
    kind_positions members (of_need k there same) = subst (ArePositions s) (sym same) (need_positions k there)

    kind_blocked : (members : List ℕ) → IsKind listed members → Free members → ⊥
    kind_blocked members (of_one at v e same) one = lone_blocked at v e (subst Free same one)
    kind_blocked members (of_two i j cell less first second shared same) two =
        two_blocked i j cell (slice_get sets i) (slice_get sets j) refl refl shared (subst Free same two)
    kind_blocked members (of_need k there same) all = need_blocked k there (subst Free same all)

    kind_lesser : (members : List ℕ) → IsKind listed members → (qs : List ℕ) → ArePositions s qs → IsAllIn qs members → (IsAllIn members qs → ⊥) → Free qs
    kind_lesser members (of_one at v e same) qs part inside not_all =
        lesser_one at qs (subst (λ l. IsAllIn qs l) same inside) (λ all. not_all (subst (λ l. IsAllIn l qs) (sym same) all))
    kind_lesser members (of_two i j cell less first second shared same) qs part inside not_all =
        lesser_two i j less first second qs part (subst (λ l. IsAllIn qs l) same inside) (λ all. not_all (subst (λ l. IsAllIn l qs) (sym same) all))
    kind_lesser members (of_need k there same) qs part inside not_all =
        need_lesser k there qs part (subst (λ l. IsAllIn qs l) same inside) (λ all. not_all (subst (λ l. IsAllIn l qs) (sym same) all))

    -- ---- where members hold no set

    alone_or_both : (ps : List ℕ) → IsAllIn ps found.looked.items → HoldNoSet found ps → (x : ℕ) → Among x ps → Among x both
    alone_or_both ps looked none x h =
        let (there, passes) = among_kept (is_looked_at causes both) x (positions_of causes)
        (among x (looked_at o s causes) (subst (λ l. Contains l x) is.looked (looked x (contained x ps h)))) in
        by there (cause_at causes x) refl (or_cases (not (is_free causes x)) (list_any (λ z. z == x) both) passes)
      where
        in_sets : (v : Verdict) → Among x (positions_of causes) → cause_at causes x ≡ Some v → Contains (sets_of found) (merge_clash (x ∷ []) v)
        in_sets v there e =
            let k = merge_clash (x ∷ []) v in
            let lone = filter_map_among (lone_clash causes) (positions_of causes) x k there (ap (option_map (merge_clash (x ∷ []))) e) in
            contained k (sets_of found) (subst (λ list. Among k list) (sym is.clashes)
            (among_left k (lone_clashes causes ++ shared_clashes sets free) broken (among_left k (lone_clashes causes) (shared_clashes sets free) lone)))

        only : (y : ℕ) → Among y (x ∷ []) → Contains ps y
        only y (inl same) = contained y ps (subst (λ z. Among z ps) same h)
        only y (inr absent) = absurd absent

        by : Among x (positions_of causes) → (r : Option Verdict) → cause_at causes x ≡ r
            → (not (is_none (option_map (merge_clash (x ∷ [])) (cause_at causes x))) ≡ true) ⊎ (list_any (λ z. z == x) both ≡ true) → Among x both
        by there r e (inr listed_there) =
            let (y, y_there, same) = some_of (λ z. z == x) both listed_there in
            subst (λ z. Among z both) ((Decides-eqb y x).0 same) y_there
        by there None e (inl not_free) = absurd (false≢true (sym (ap (λ r. not (is_none (option_map (merge_clash (x ∷ [])) r))) e) ∙ not_free))
        by there (Some v) e (inl not_free) = absurd (none (merge_clash (x ∷ []) v) (in_sets v there e) (λ y y_there. only y (among y (x ∷ []) y_there)))

    all_free : (ps : List ℕ) → ArePositions s ps → IsAllIn ps found.looked.items → HoldNoSet found ps → Free ps
    all_free ps part looked none =
        let in_both = alone_or_both ps looked none in
        free_by_places ps part in_both (λ m m_there held.
        let k = need_clash both m in
        let in_broken : Among k broken = subst (λ list. Among k list) (sym are.numbered) (mapped_among (need_clash both) m listed (among m listed m_there)) in
        let in_sets : Among k (sets_of found) = subst (λ list. Among k list) (sym is.clashes)
        (among_right k (lone_clashes causes ++ shared_clashes sets free) broken in_broken) in
        none k (contained k (sets_of found) in_sets) (λ x there.
        let (p, p_there, e) = among_read both m.members x (among x (filter_map (slice_get both) m.members) there) in
        let (q, q_there, at) = among_mapped (place both) p ps (among p (map (place both) ps) (held p (contained p m.members p_there))) in
        let same : q ≡ x = (one_to_one both both_rise).one_right p q x (subst (λ z. StandsIn both z q) at (place_stands both q (in_both q q_there))) e in
        contained x ps (subst (λ z. Among z ps) same q_there)))

    -- ---- all

    one_list : (j k : MergeClash) → Contains (sets_of found) j → Contains (sets_of found) k → IsAllIn j.members k.members → j.members ≡ k.members
    one_list j k j_there k_there inside =
        let j_kind = kind_of j j_there in
        let k_kind = kind_of k k_there in
        elim (cases_Bool (is_all_in k.members j.members)) [
          | inl back ↦ (let all = told_within k.members j.members back in
              same_rising nat_cmp_total j.members k.members (kind_positions j.members j_kind).ascending (kind_positions k.members k_kind).ascending
              (λ x h. among x k.members (inside x (contained x j.members h))) (λ x h. among x j.members (all x (contained x k.members h))))
          | inr not_back ↦ absurd (kind_blocked j.members j_kind (kind_lesser k.members k_kind j.members (kind_positions j.members j_kind) inside
              (λ all. false≢true (sym not_back ∙ within_told k.members j.members all))))
        ]

    pub smallest_sets : AreSmallestSets o s found
    smallest_sets = record {
      decided = λ ps p part planned memory. record {
        blocked = λ k there held. (
            let kind = kind_of k there in
            not_cleared o (merge_set_of_part s ps) (λ all. kind_blocked k.members kind (some_free s ps part k.members (kind_positions k.members kind)
            (λ x h. among x ps (held x (contained x k.members h))) o law all)) p planned);
        cleared = λ looked none. cleared_if_free o (merge_set_of_part s ps) (all_free ps part looked none) p planned memory;
      };
      smallest = λ k there. (
          let kind = kind_of k there in
          record {
            positions = kind_positions k.members kind;
            blocked = λ p planned. not_cleared o (merge_set_of_part s k.members) (kind_blocked k.members kind) p planned;
            lesser_cleared = λ qs p part inside not_all planned memory. cleared_if_free o (merge_set_of_part s qs)
                (kind_lesser k.members kind qs part inside not_all) p planned memory;
          });
      apart = one_list;
    }

pub sets_decided : ClashesDecideSubsets → ListedClashesDecideSubsets → SetsDecidePlans
sets_decided law listed_law o s found (causes, broken, is) =
    let (listed, are) = is.needs in
    smallest_sets o s found causes broken is law listed_law listed are
