-- The members can be merged as any list of them has them in which who goes before another stands before it.
use Rattle.std.proofs.Common.{◌≡◌, ◌∙◌, ℕ, Bool, true, false, ◌||◌, ◌&&◌, cond, List, [], ◌∷◌, ◌++◌, map, refl, sym, ap, subst, Option, Some, None}
use Rattle.std.proofs.Common.{is_some, slice_get}
use Rattle.std.specs.List.{list_any}
use Rattle.std.specs.Option.{option_map}
use Rattle.std.proofs.lemmas.Bool.{true≢false, or_left, or_right}
use Rattle.std.proofs.lemmas.List.{append_assoc}
use Rattle.std.proofs.lemmas.Option.{slice_get-map}
use Rattle.clr_workspaces.specs.Marks.{Name}
use Rattle.clr_workspaces.specs.Workspaces.{Workspace}
use Rattle.clr_needs.specs.Settings.{Setting, has as has_by}
use Rattle.clr_steps.specs.declared.commands.Command.TheVariants as command
use Rattle.clr_steps.specs.declared.commands.Reply.TheVariants.{Done}
use Rattle.clr_steps.specs.Names.{same_name, has}
use Rattle.clr_steps.specs.Offices.{Office, workspace}
use Rattle.clr_steps.specs.Quiet.{MergeSet, is_member, is_quiet, member_of}
use Rattle.clr_steps.specs.Steps.{run, step}
use Rattle.clr_steps.proofs.FindLemmas.{same_is, same_itself}
use Rattle.clr_clearance.specs.Invariants.{Invariant}
use Rattle.clr_clearance.specs.MergeSets.{AreMergeable, setting_of}
use Rattle.clr_clearance.specs.Plans.{merges}
use Rattle.clr_clearance.specs.Runs.{AreQuiet, merged_by, office_before}
use Rattle.clr_clearance.specs.Safety.{is_clash}
use Rattle.clr_clearance.proofs.ClearLemmas.{has_at}
use Rattle.clr_clearance.proofs.NameLemmas.{has_is}
use Rattle.clr_clearance.proofs.SafeLemmas.{answer_lasts, at_first}
use Rattle.clr_ordered_needs.specs.Turns.{ListsAll, is_earlier}
use Rattle.clr_ordered_needs.proofs.Lists.{AreOnce, stands_once}
use Rattle.clr_ordered_needs.proofs.Sequences.{later_there}
use Rattle.clr_ordered_clearance.specs.Laws.{ListedMergesLaw, UnrefusedLaw, none_lost}
use Rattle.clr_ordered_clearance.specs.MergeSets.{AreListedInTurn, HaveComeInTurn, ListsInTurn, MembersBreakNoMoreInTurn, OrderedMergeSet}
use Rattle.clr_ordered_clearance.specs.Turns.{IsTurnOf}
use Rattle.clr_ordered_clearance.proofs.SafeLemmas.{covered_in_turn, safe_at}
use Rattle.clr_ordered_clearance.proofs.Standing.{OthersStand, all_stand, answer_stands}
use Rattle.clr_ordered_clearance.proofs.TurnLemmas.{ComeAfter, come_with, none_come, one_comes}

-- merges of members are quiet ----------------------------------------------------------------------------------------------

quiet_merge : (now : Office) (merge_set : MergeSet) (name : Name) (remove : Bool) → is_member merge_set name ≡ true
    → is_quiet now merge_set (command.Merge name remove) ≡ true
unfolding is_quiet
quiet_merge now merge_set name remove member = or_left (is_member merge_set name) _ member

merges_are_quiet : (o : Office) (merge_set : MergeSet) (names : List Name) (lost : ℕ → Bool)
    → ((name : Name) → has names name ≡ true → is_member merge_set name ≡ true) → AreQuiet o merge_set (merges names) lost
merges_are_quiet o merge_set names lost members at c e =
    by (slice_get names at) refl (sym (slice_get-map (λ name. command.Merge name false) names at) ∙ e)
  where
    by : (r : Option Name) → slice_get names at ≡ r → option_map (λ name. command.Merge name false) r ≡ Some c
        → is_quiet (office_before o (merges names) lost at) merge_set c ≡ true
    by None f d = absurd (cc)
    by (Some name) f d =
        let one : command.Merge name false ≡ c = cc in
        ap (is_quiet (office_before o (merges names) lost at) merge_set) (sym one)
        ∙ quiet_merge (office_before o (merges names) lost at) merge_set name false (members name (has_at names at name f))

-- who is in a list of all members is a member
listed_member : (o : Office) (merge_set : MergeSet) (list : List Name) → ListsAll (setting_of o merge_set) list → (name : Name) → has list name ≡ true
    → is_member merge_set name ≡ true
listed_member o merge_set list all name h =
    sym (has_is merge_set.members name) ∙ sym (all.members name) ∙ has_is list name ∙ h

-- one after another ------------------------------------------------------------------------------------------------------------

module _ (first : Office) (ordered : OrderedMergeSet) (mergeable : AreMergeable first ordered.merge_set) (no_more : MembersBreakNoMoreInTurn first ordered)
    (list : List Name) (listed : ListsInTurn first ordered list) where
  abbrev c : Setting Name
  c = setting_of first ordered.merge_set

  -- who is earlier than a member in a list in which it comes next is among those before
  already : (names ns : List Name) (n m : Name) → has_by same_name ns n ≡ false → is_earlier same_name (names ++ n ∷ ns) m n ≡ true → has names m ≡ true
  already [] ns n m new goes = absurd (true≢false (sym (by (same_name n m) goes) ∙ new))
    where
      by : (b : Bool) → cond b (has_by same_name ns n) (is_earlier same_name ns m n) ≡ true → has_by same_name ns n ≡ true
      by true g = g
      by false g = later_there c ns m n g
  already (x ∷ xs) ns n m new goes = by (same_name x m) refl goes (already xs ns n m new)
    where
      by : (b : Bool) → same_name x m ≡ b → cond b (has_by same_name (xs ++ n ∷ ns) n) (is_earlier same_name (xs ++ n ∷ ns) m n) ≡ true
          → (is_earlier same_name (xs ++ n ∷ ns) m n ≡ true → has xs m ≡ true) → same_name x m || has xs m ≡ true
      by true e g more = or_left (same_name x m) (has xs m) e
      by false e g more = or_right (same_name x m) (has xs m) (more g)

  -- a member that comes next is none of those before, and stands nowhere behind
  next_alone : (names ns : List Name) (n : Name) → AreOnce c (names ++ n ∷ ns) → (has names n ≡ false) × (has_by same_name ns n ≡ false)
  next_alone [] ns n once = (refl, once.0)
  next_alone (x ∷ xs) ns n once = let rest = next_alone xs ns n once.1 in (out (same_name x n) refl rest.0, rest.1)
    where
      within : (ys : List Name) → has_by same_name (ys ++ n ∷ ns) n ≡ true
      within [] = or_left (same_name n n) (has_by same_name ns n) (same_itself n)
      within (y ∷ ys) = or_right (same_name y n) (has_by same_name (ys ++ n ∷ ns) n) (within ys)

      out : (b : Bool) → same_name x n ≡ b → has xs n ≡ false → same_name x n || has xs n ≡ false
      out true e h = absurd (true≢false (sym (within xs) ∙ ap (has_by same_name (xs ++ n ∷ ns)) (sym (same_is x n e)) ∙ once.0))
      out false e h = (λ i. e i || h i)

  there : (xs ns : List Name) (n : Name) → has (xs ++ n ∷ ns) n ≡ true
  there [] ns n = or_left (same_name n n) (has ns n) (same_itself n)
  there (x ∷ xs) ns n = or_right (same_name x n) (has (xs ++ n ∷ ns) n) (there xs ns n)

  -- the merges of the rest are done, and come in turn
  record AreDone (now : Office) (names ns : List Name) : Type 0 where
    replies : (run now (merges ns) none_lost).replies ≡ map (λ name. Done) ns
    in_turn : ComeAfter ordered now names (merges ns) none_lost

  all_done : (ns names : List Name) (now : Office) → names ++ ns ≡ list → AreOnce c (names ++ ns)
      → Invariant first ordered.merge_set names now → HaveComeInTurn first ordered names
      → OthersStand first ordered.merge_set mergeable names now → AreDone now names ns
  all_done [] names now whole once inv come stand = record { replies = refl; in_turn = λ at name remove e. absurd (cc) }
  all_done (n ∷ ns) names now whole once inv come stand =
      let m = command.Merge n false in
      let alone = next_alone names ns n once in
      let member : is_member ordered.merge_set n ≡ true =
      listed_member first ordered.merge_set list listed.lists n (ap (λ ms. has ms n) (sym whole) ∙ there names ns n) in
      let turn : IsTurnOf ordered names n =
      λ k goes is_one. already names ns n k alone.1 (ap (λ ms. is_earlier same_name ms k n) whole ∙ listed.in_turn k n goes is_one member) in
      let safe = (safe_at first ordered mergeable no_more names now inv come).answers m member turn in
      let stands : is_some (workspace now n) ≡ true = is_there (workspace now n) (stand n member alone.0) in
      let done : (step now m).reply ≡ Done = safe.is_done (λ i. stands i && true) in
      let one : names ++ merged_by ordered.merge_set m (step now m).reply ≡ names ++ n ∷ [] =
      ap (λ r. names ++ merged_by ordered.merge_set m r) done ∙ ap (λ b. names ++ cond b (n ∷ []) []) member in
      let rest = all_done ns (names ++ n ∷ []) (step now m).office (append_assoc names (n ∷ []) ns ∙ whole)
      (subst (AreOnce c) (sym (append_assoc names (n ∷ []) ns)) once)
      (subst (λ ms. Invariant first ordered.merge_set ms (step now m).office) one
      (answer_lasts first ordered.merge_set mergeable false names now m inv (quiet_merge now ordered.merge_set n false member)))
      (subst (HaveComeInTurn first ordered) one (one_comes ordered first names m (step now m).reply come (λ is_one. turn)))
      (subst (λ ms. OthersStand first ordered.merge_set mergeable ms (step now m).office) one
      (answer_stands first ordered.merge_set mergeable names now inv stand false m (quiet_merge now ordered.merge_set n false member))) in
      record {
        replies = λ i. done i ∷ rest.replies i;
        in_turn = come_with ordered now names m (merges ns) none_lost (λ is_one. turn)
            (subst (λ ms. ComeAfter ordered (step now m).office ms (merges ns) none_lost) (sym one) rest.in_turn);
      }
    where
      is_there : (r : Option Workspace) → is_some (option_map member_of r) ≡ true → is_some r ≡ true
      is_there None h = h
      is_there (Some w) h = refl

pub listed_merges : ListedMergesLaw
listed_merges o ordered entries names covers listed =
    let done = all_done o ordered covers.mergeable (covered_in_turn o ordered entries covers) names listed names [] o refl
    (stands_once (setting_of o ordered.merge_set) names listed.lists.once)
    (at_first o ordered.merge_set covers.mergeable) (none_come ordered o) (all_stand o ordered.merge_set covers.mergeable) in
    record {
      quiet = merges_are_quiet o ordered.merge_set names none_lost (listed_member o ordered.merge_set names listed.lists);
      in_turn = done.in_turn;
      are_done = done.replies;
    }

-- the list of members itself, where it has them in turn
pub own_list : (o : Office) (ordered : OrderedMergeSet) → AreMergeable o ordered.merge_set → AreListedInTurn ordered
    → ListsInTurn o ordered ordered.merge_set.members
own_list o ordered mergeable listed = record {
  lists = record { members = λ name. refl; once = mergeable.distinct };
  in_turn = λ m n goes is_one is_other. listed m n goes;
}

-- none that is done is refused
none_clashes : (names : List Name) → list_any is_clash (map (λ (name : Name). Done) names) ≡ false
none_clashes [] = refl
none_clashes (n ∷ ns) = none_clashes ns

pub unrefused : UnrefusedLaw
unrefused o ordered names merged = ap (list_any is_clash) merged.are_done ∙ none_clashes names
