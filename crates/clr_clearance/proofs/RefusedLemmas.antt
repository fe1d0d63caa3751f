-- Orders of merges in which one is refused.
use Rattle.std.proofs.Common.{◌≡◌, ◌⊎◌, ℕ, suc, ◌+◌, Bool, true, false, not, cond, List, [], ◌∷◌, ◌++◌, inl, inr, refl, sym, ap, ◌∙◌, subst, arith, Option, Some}
use Rattle.std.proofs.Common.{None, is_some, slice_get, unwrap_or}
use Rattle.std.specs.List.{cons_option}
use Rattle.std.specs.Option.{option_map, option_map_or, option_or}
use Rattle.std.proofs.lemmas.Bool.{cases_Bool, false≢true, or_cases, or_left, or_parts, or_right}
use Rattle.std.proofs.lemmas.List.{append_assoc, append-nil}
use Rattle.clr_rows.specs.declared.cells.CellId.{CellId}
use Rattle.clr_rows.specs.Contents.{Content, conflicts, is_changed, least_and_count, row_at}
use Rattle.clr_rows.specs.Same.{same}
use Rattle.clr_rules.specs.declared.needs.Broken.{Broken}
use Rattle.clr_rules.specs.declared.rules.Rule.{Rule}
use Rattle.clr_rules.specs.Needs.{BreaksNoMore, View}
use Rattle.clr_rows.specs.declared.rows.Row.{Row}
use Rattle.clr_rows.proofs.SameLemmas.{same_decides}
use Rattle.clr_needs.specs.Needs.{IsTouchedBy}
use Rattle.clr_steps.proofs.NeedLemmas.{no_more_if_none}
use Rattle.clr_workspaces.specs.Marks.{Name}
use Rattle.clr_workspaces.specs.Workspaces.{Workspace}
use Rattle.clr_workspaces.specs.Operations.{own_changes}
use Rattle.clr_needs.specs.Covers.{AreBlockers, IsUncovered}
use Rattle.clr_needs.proofs.BrokenLaws.{uncovered_breaks}
use Rattle.clr_steps.specs.Readings.{conflicts_in}
use Rattle.clr_needs.specs.Positions.{after_member, by_position}
use Rattle.clr_needs.specs.Settings.{AreAmong, DoChange, view_with, has as has_by}
use Rattle.clr_needs.proofs.Merges.{root_is, taken_over as taken_cons}
use Rattle.clr_steps.specs.declared.commands.Command.{Command}
use Rattle.clr_steps.specs.declared.commands.Command.TheVariants as command
use Rattle.clr_steps.specs.declared.commands.Reply.{Reply}
use Rattle.clr_steps.specs.declared.commands.Reply.TheVariants.{Done, RuleBroken}
use Rattle.clr_steps.specs.Names.{same_name}
use Rattle.clr_steps.specs.Offices.{Office, content_of, is_kept, workspace}
use Rattle.clr_steps.specs.Effects.{after_merge, after_remove, effect, merged_content}
use Rattle.clr_steps.specs.Quiet.{Member, MergeSet, is_member, is_root, member_of, root_content}
use Rattle.clr_steps.specs.Refusals.{breaks, conflict, first_newly_broken, first_of, in_conflict, refusal, refusals_of}
use Rattle.clr_steps.specs.Steps.{Answer, answer, step}
use Rattle.clr_steps.proofs.FindLemmas.{found_name, same_is as same_name_is, same_itself as same_name_itself}
use Rattle.clr_clearance.specs.Invariants.{Invariant}
use Rattle.clr_clearance.specs.declared.verdicts.Verdict.TheVariants as verdict
use Rattle.clr_clearance.specs.PlanLaws.{UnpickedLaw}
use Rattle.clr_clearance.specs.Plans.{is_order_refused, members_at}
use Rattle.clr_clearance.specs.Verdicts.{first_conflict}
use Rattle.clr_clearance.proofs.PickLemmas.{blockers_are, unpicked_is_uncovered}
use Rattle.clr_clearance.specs.Runs.{merged_by}
use Rattle.clr_clearance.specs.Safety.{is_clash}
use Rattle.clr_clearance.specs.MergeSets.{AreMergeable, changed_by, setting_by_position, rows_with, setting_of}
use Rattle.clr_clearance.proofs.ClearLemmas.{has_at}
use Rattle.clr_clearance.proofs.MergeSetLemmas.{changed_by-standing, content_above}
use Rattle.clr_clearance.proofs.AnswerLemmas.{broken_or_none, merge_claim, of_standing, performed_as, step_as}
use Rattle.clr_clearance.proofs.EffectLemmas.{StepsTo, merge_steps, shown}
use Rattle.clr_clearance.proofs.MemberLemmas.{it, merged_rows, not_root, rows_last}
use Rattle.clr_clearance.proofs.SafeLemmas.{at_first}
use Rattle.clr_clearance.proofs.NameLemmas.{has_is}
use Rattle.clr_clearance.proofs.StaticLemmas.{apart_by_position, child_under, member_agrees, member_there, numbered_is, of_root}

-- one merge -----------------------------------------------------------------------------------------------

abbrev pub merge_of : Name → Command
merge_of name = command.Merge name false

-- a merge of a workspace that stands clashes, or is done where it is neither in conflict nor breaks a rule
pub data IsMerged (o : Office) (name : Name) (w : Workspace) : Type 0 where
  clashes : is_clash (step o (merge_of name)).reply ≡ true → IsMerged o name w
  merged : conflict o w ≡ None → breaks o w.parent (merged_content o w) ≡ None → step o (merge_of name) ≡ answer Done (after_merge o w) → IsMerged o name w

refusal_at : (o : Office) (name : Name) (w : Workspace) → workspace o name ≡ Some w → refusal o (merge_of name)
    ≡ first_of (conflict o w ∷ breaks o w.parent (merged_content o w) ∷ [])
unfolding refusal refusals_of
refusal_at o name w e = of_standing o (merge_of name) w e

pub conflict_or_none : (o : Office) (w : Workspace) → (conflict o w ≡ None) ⊎ ((c : CellId × ℕ) × (conflict o w ≡ Some (in_conflict c)))
unfolding conflict
conflict_or_none o w = by (least_and_count (conflicts (content_of o w.parent) (own_changes w)))
  where
    by : (r : Option (CellId × ℕ)) → (option_map in_conflict r ≡ None) ⊎ ((c : CellId × ℕ) × (option_map in_conflict r ≡ Some (in_conflict c)))
    by None = inl refl
    by (Some c) = inr (c, refl)

clash_of : (o : Office) (c : Command) (reply : Reply) → refusal o c ≡ Some reply → is_clash reply ≡ true → is_clash (step o c).reply ≡ true
clash_of o c reply e h = ap (λ (a : Answer). is_clash a.reply) (step_as o c (Some reply) e) ∙ h

pub merge_clashes : (o : Office) (name : Name) (w : Workspace) (c : CellId × ℕ) → workspace o name ≡ Some w → conflict o w ≡ Some (in_conflict c)
    → is_clash (step o (merge_of name)).reply ≡ true
merge_clashes o name w c e h = clash_of o (merge_of name) (in_conflict c) (refusal_at o name w e
    ∙ ap (λ r. first_of (r ∷ breaks o w.parent (merged_content o w) ∷ [])) h) refl

pub merge_ends : (o : Office) (name : Name) (w : Workspace) → workspace o name ≡ Some w → IsMerged o name w
unfolding effect
merge_ends o name w e = elim (conflict_or_none o w) [
  | inr (c, h) ↦ clashes (merge_clashes o name w c e h)
  | inl free ↦ (let is = refusal_at o name w e ∙ ap (λ r. first_of (r ∷ breaks o w.parent (merged_content o w) ∷ [])) free in
      elim (broken_or_none o w.parent (merged_content o w)) [
        | inl none ↦ merged free none (performed_as o (merge_of name) (λ v. cond false (after_remove (after_merge o v) v) (after_merge o v)) w e refl (is
            ∙ ap (λ r. first_of (r ∷ [])) none))
        | inr (need, broken) ↦ clashes (clash_of o (merge_of name) (RuleBroken need) (is ∙ ap (λ r. first_of (r ∷ [])) broken) refl)
      ])
]

-- where a merge into a workspace that is kept isn't refused, no more is broken
unbroken_no_more : (o : Office) (name : Name) (content : Content) → is_kept o name ≡ true → breaks o name content ≡ None
    → BreaksNoMore o.book (row_at (content_of o name)) (row_at content)
unfolding breaks
unbroken_no_more o name content kept none = no_more_if_none o.book (content_of o name) content
    (by (first_newly_broken o.book (content_of o name) content) (sym (ap (λ b. cond b (option_map RuleBroken
    (first_newly_broken o.book (content_of o name) content)) None) kept) ∙ none))
  where
    by : (r : Option Broken) → option_map RuleBroken r ≡ None → r ≡ None
    by None e = refl
    by (Some b) e = absurd (cc)

-- merges of members one after another -------------------------------------------------------------------------

module _ (first : Office) (merge_set : MergeSet) (mergeable : AreMergeable first merge_set) where
  abbrev AllStand : Office → Type 0
  AllStand now = (name : Name) → is_member merge_set name ≡ true → is_some (shown now name) ≡ true

  stands_as : (r : Option Workspace) → is_some (option_map member_of r) ≡ true → (w : Workspace) × (r ≡ Some w)
  stands_as None h = absurd (false≢true h)
  stands_as (Some w) h = (w, refl)

  module _ (names : List Name) (now : Office) (inv : Invariant first merge_set names now) (name : Name) (member : is_member merge_set name ≡ true) where
    kept_above : (w : Workspace) → is_root merge_set w.parent ≡ true → is_kept now w.parent ≡ true
    unfolding is_root
    kept_above w under = ap (is_kept now) (same_name_is w.parent merge_set.root under) ∙ inv.kept

    stands_still : (w : Workspace) (m : Member) → StepsTo merge_set now (after_merge now w) w.name (merged_content now w) (Some m) → AllStand now
        → AllStand (after_merge now w)
    stands_still w m steps stand other h = by (same_name w.name other) refl
      where
        by : (b : Bool) → same_name w.name other ≡ b → is_some (shown (after_merge now w) other) ≡ true
        by true p = ap (λ k. is_some (shown (after_merge now w) k)) (sym (same_name_is w.name other p)) ∙ ap is_some steps.here
        by false p = ap is_some (steps.others other (not_root first merge_set mergeable names now inv other h) p) ∙ stand other h

    -- the next office, where the merge doesn't clash
    record IsNext (next : Office) : Type 0 where
      lasts : Invariant first merge_set (names ++ name ∷ []) next
      stand : AllStand now → AllStand next
      no_more : BreaksNoMore first.book (rows_with first merge_set names) (rows_with first merge_set (names ++ name ∷ []))

    next_is : (w : Workspace) → workspace now name ≡ Some w → is_clash (step now (merge_of name)).reply ≡ false → IsNext (step now (merge_of name)).office
    next_is w e calm = by (merge_ends now name w e)
      where
        last : step now (merge_of name) ≡ answer Done (after_merge now w) → names ++ merged_by merge_set (merge_of name) (step now (merge_of name)).reply
            ≡ names
            ++ name ∷ []
        last is = ap (λ (a : Answer). names ++ merged_by merge_set (merge_of name) a.reply) is ∙ ap (λ b. names ++ cond b (name ∷ []) []) member

        by : IsMerged now name w → IsNext (step now (merge_of name)).office
        by (clashes h) = absurd (false≢true (sym calm ∙ h))
        by (merged free none is) =
            let named = found_name now name w e in
            let own : workspace now w.name ≡ Some w = ap (workspace now) named ∙ e in
            let under = (it first merge_set mergeable names now inv name member w e).under in
            let out : is_root merge_set w.name ≡ false = ap (is_root merge_set) named ∙ not_root first merge_set mergeable names now inv name member in
            let steps = merge_steps merge_set now w inv.kept own out under in
            let office : (step now (merge_of name)).office ≡ after_merge now w = ap (λ (a : Answer). a.office) is in
            let good : BreaksNoMore now.book (row_at (content_of now w.parent)) (row_at (merged_content now w)) =
            unbroken_no_more now w.parent (merged_content now w) (kept_above w under) none in
            let of_parent : (cell : CellId) → row_at (content_of now w.parent) cell ≡ rows_with first merge_set names cell =
            λ cell. ap (λ content. row_at content cell) (content_above now merge_set w under) ∙ inv.rows cell in
            record {
              lasts = subst (λ ns. Invariant first merge_set ns (step now (merge_of name)).office) (last is)
                  (merge_claim first merge_set names now name false mergeable
                  inv member).0;
              stand = λ stand other h. ap (λ p. is_some (shown p other)) office ∙ stands_still w _ steps stand other h;
              no_more = subst (λ (view : View). BreaksNoMore first.book view (rows_with first merge_set (names ++ name ∷ []))) (λ i cell. of_parent cell i)
                  (subst (λ (view : View). BreaksNoMore first.book (row_at (content_of now w.parent)) view)
                  (λ i cell. (merged_rows first merge_set mergeable names now inv name member w e cell
                  ∙ rows_last first merge_set mergeable names now inv name member cell) i)
                  (subst (λ (b : List Rule). BreaksNoMore b (row_at (content_of now w.parent)) (row_at (merged_content now w))) inv.book good));
            }

  -- where none clashes, no more is broken with the changes of all of them
  all_done : (ns names : List Name) (now : Office) → Invariant first merge_set names now → AllStand now
      → AreAmong (setting_of first merge_set) ns merge_set.members
      → is_order_refused now ns ≡ false
      → BreaksNoMore first.book (rows_with first merge_set names) (rows_with first merge_set (names ++ ns))
  all_done [] names now inv stand part calm =
      subst (λ ms. BreaksNoMore first.book (rows_with first merge_set names) (rows_with first merge_set ms)) (sym (append-nil names)) (λ ask s t kept. kept)
  all_done (n ∷ ns) names now inv stand part calm =
      let member : is_member merge_set n ≡ true = sym (has_is merge_set.members n) ∙ part n
      (or_left (same_name n n) (has_by same_name ns n) (same_name_itself n)) in
      let both = or_parts (is_clash (step now (merge_of n)).reply) (is_order_refused (step now (merge_of n)).office ns) calm in
      let (w, e) = stands_as (workspace now n) (stand n member) in
      let next = next_is names now inv n member w e both.0 in
      let rest = all_done ns (names ++ n ∷ []) (step now (merge_of n)).office next.lasts (next.stand stand)
      (λ k h. part k (or_right (same_name n k) (has_by same_name ns k) h)) both.1 in
      subst (λ ms. BreaksNoMore first.book (rows_with first merge_set names) (rows_with first merge_set ms)) (append_assoc names (n ∷ []) ns)
      (λ ask s t kept. rest ask s t (next.no_more ask s t kept))

  -- an order of merges that break more is refused
  pub breaking_is_refused : (names : List Name) → AreAmong (setting_of first merge_set) names merge_set.members
      → ¬ (BreaksNoMore first.book (row_at (root_content first merge_set)) (rows_with first merge_set names)) → is_order_refused first names ≡ true
  breaking_is_refused names part breaking = elim (cases_Bool (is_order_refused first names)) [
    | inl refused ↦ refused
    | inr calm ↦ absurd (breaking (of_root first merge_set (rows_with first merge_set names)
        (all_done names [] first (at_first first merge_set mergeable) all_stand part calm)))
  ]
    where
      all_stand : AllStand first
      all_stand name h = let child = child_under first merge_set name (mergeable.children name h) in ap (λ r. is_some (option_map member_of r)) child.is

  -- what a member has at a cell that it changes, the root hasn't
  pub members_change : (name : Name) (cell : CellId) (row : Option Row) → is_member merge_set name ≡ true → changed_by first name cell ≡ Some row
      → row ≡ row_at (root_content first merge_set) cell → ⊥
  members_change name cell row member e same =
      let child = child_under first merge_set name (mergeable.children name member) in
      by child.at child.is (is_changed child.at.base child.at.current cell) refl (sym (changed_by-standing first name child.at cell child.is) ∙ e)
    where
      by : (w : Workspace) → workspace first name ≡ Some w → (b : Bool) → is_changed w.base w.current cell ≡ b
          → cond b (Some (row_at w.current cell)) None ≡ Some row → ⊥
      by w is true changed f =
          let now : row_at w.current cell ≡ row = cc in
          let root : row_at (root_content first merge_set) cell ≡ row_at w.base cell = member_agrees first merge_set name w mergeable member is cell changed in
          let alike : row_at w.base cell ≡ row_at w.current cell = sym root ∙ sym same ∙ sym now in
          false≢true (sym (ap not ((same_decides (row_at w.base cell) (row_at w.current cell)).1 alike)) ∙ changed)
      by w is false changed f = cc

-- members by position ----------------------------------------------------------------------------------------

module _ (o : Office) (merge_set : MergeSet) where
  pub names_part : (order : List ℕ) → AreAmong (setting_of o merge_set) (members_at merge_set order) merge_set.members
  names_part [] name h = absurd (false≢true h)
  names_part (k ∷ ks) name h = by (slice_get merge_set.members k) refl h (names_part ks name)
    where
      by : (r : Option Name) → slice_get merge_set.members k ≡ r → has_by same_name (cons_option r (members_at merge_set ks)) name ≡ true
          → (has_by same_name (members_at merge_set ks) name ≡ true → has_by same_name merge_set.members name ≡ true)
          → has_by same_name merge_set.members name ≡ true
      by None e h more = more h
      by (Some n) e h more = elim (or_cases (same_name n name) (has_by same_name (members_at merge_set ks) name) h) [
        | inl same ↦ ap (has_by same_name merge_set.members) (sym (same_name_is n name same)) ∙ member_there o merge_set merge_set.members k n e
        | inr other ↦ more other
      ]

  pub rows_at : (order : List ℕ) (cell : CellId) → view_with (by_position (setting_of o merge_set)) order cell
      ≡ rows_with o merge_set (members_at merge_set order) cell
  rows_at [] cell = root_is (by_position (setting_of o merge_set)) cell ∙ sym (root_is (setting_of o merge_set) cell)
  rows_at (k ∷ ks) cell = taken_cons (by_position (setting_of o merge_set)) k ks cell ∙ by (slice_get merge_set.members k) (rows_at ks cell)
    where
      by : (r : Option Name) → view_with (by_position (setting_of o merge_set)) ks cell ≡ rows_with o merge_set (members_at merge_set ks) cell
          → unwrap_or (after_member (setting_of o merge_set) r cell) (view_with (by_position (setting_of o merge_set)) ks cell)
          ≡ rows_with o merge_set (cons_option r (members_at merge_set ks)) cell
      by None more = more
      by (Some n) more = ap (unwrap_or ((setting_of o merge_set).after n cell)) more ∙ sym (taken_cons (setting_of o merge_set) n (members_at merge_set ks)
          cell)

-- a need that nothing covers ------------------------------------------------------------------------------------

pub positions_change : (o : Office) (merge_set : MergeSet) → AreMergeable o merge_set → DoChange (by_position (setting_of o merge_set))
positions_change o merge_set mergeable k cell row member e same = by (slice_get merge_set.members k) refl e
  where
    by : (r : Option Name) → slice_get merge_set.members k ≡ r → after_member (setting_of o merge_set) r cell ≡ Some row → ⊥
    by None f d = cc
    by (Some name) f d = members_change o merge_set mergeable name cell row (has_at merge_set.members k name f) d same

pub unpicked_is_refused : UnpickedLaw
unpicked_is_refused o merge_set n order mergeable needed none blocks = breaking_is_refused o merge_set mergeable (members_at merge_set order)
    (names_part o merge_set order) breaking
  where
    breaking : BreaksNoMore o.book (row_at (root_content o merge_set)) (rows_with o merge_set (members_at merge_set order)) → ⊥
    breaking good =
        let (a, b, possible, touched) = needed in
        let uncovered = unpicked_is_uncovered (setting_by_position o merge_set) n a b possible (none a b possible) in
        let blockers = blockers_are (setting_by_position o merge_set) n a b order possible (blocks a b possible) in
        uncovered_breaks (by_position (setting_of o merge_set)) n a b order
        (subst (λ c. IsUncovered c n a b) (numbered_is o merge_set) uncovered)
        (subst (λ c. AreBlockers c n a b order) (numbered_is o merge_set) blockers)
        (apart_by_position o merge_set mergeable)
        (positions_change o merge_set mergeable)
        (subst (λ c. IsTouchedBy c n a b) (numbered_is o merge_set) touched)
        (subst (λ (view : View). BreaksNoMore o.book (row_at (root_content o merge_set)) view) (λ i cell. sym (rows_at o merge_set order cell) i) good)

-- a member in conflict ---------------------------------------------------------------------------------------------

record IsInConflict (o : Office) (names : List Name) (at : ℕ) (cell : CellId) (count : ℕ) : Type 0 where
  name : Name
  is_at : slice_get names at ≡ Some name
  conflicts_are : least_and_count (conflicts_in o name) ≡ Some (cell, count)

in_conflict_at : (o : Office) (from : ℕ) (names : List Name) (at : ℕ) (cell : CellId) (count : ℕ) → first_conflict o from names
    ≡ Some (verdict.Conflict at cell count)
    → (j : ℕ) × (at ≡ from + j) × IsInConflict o names j cell count
unfolding first_conflict
in_conflict_at o from [] at cell count e = absurd (cc)
in_conflict_at o from (n ∷ ns) at cell count e = by (least_and_count (conflicts_in o n)) refl e (in_conflict_at o (suc from) ns at cell count)
  where
    by : (r : Option (CellId × ℕ)) → least_and_count (conflicts_in o n) ≡ r → option_or (option_map (λ (c : CellId × ℕ). verdict.Conflict from c.0 c.1) r)
        (first_conflict o (suc from) ns) ≡ Some (verdict.Conflict at cell count)
        → (first_conflict o (suc from) ns ≡ Some (verdict.Conflict at cell count) → (j : ℕ) × (at ≡ suc from + j) × IsInConflict o ns j cell count)
        → (j : ℕ) × (at ≡ from + j) × IsInConflict o (n ∷ ns) j cell count
    by None f d more = let (j, same, rest) = more d in (
      suc j,
      omega (arith, same),
      record {
        name = rest.name;
        is_at = rest.is_at;
        conflicts_are =
            rest.conflicts_are;
      },
    )
    by (Some c) f d more =
        let one : from ≡ at = cc in
        let two : c.0 ≡ cell = cc in
        let three : c.1 ≡ count = cc in
        (0, omega (arith, one), record { name = n; is_at = refl; conflicts_are = f ∙ (λ i. Some (two i, three i)) })

pub conflict_is_refused : (o : Office) (merge_set : MergeSet) (at : ℕ) (cell : CellId) (count : ℕ) → first_conflict o 0 merge_set.members
    ≡ Some (verdict.Conflict at cell count) → is_order_refused o (members_at merge_set (at ∷ [])) ≡ true
unfolding conflict
conflict_is_refused o merge_set at cell count e =
    let (j, same, found) = in_conflict_at o 0 merge_set.members at cell count e in
    let here : slice_get merge_set.members at ≡ Some found.name = (let one : at ≡ j = omega (arith, same) in ap (slice_get merge_set.members) one
    ∙ found.is_at) in
    ap (λ r. is_order_refused o (cons_option r [])) here ∙ by found.name (workspace o found.name) refl found.conflicts_are
  where
    by : (name : Name) (r : Option Workspace) → workspace o name ≡ r → least_and_count (conflicts_in o name) ≡ Some (cell, count)
        → is_order_refused o (name ∷ [])
        ≡ true
    by name None e h = let none : least_and_count (conflicts_in o name) ≡ None =
        ap (λ r. least_and_count (option_map_or (λ (w : Workspace). conflicts (content_of o w.parent) (own_changes w)) r [])) e in absurd (cc)
    by name (Some w) e h =
        let list : conflicts_in o name ≡ conflicts (content_of o w.parent) (own_changes w) =
        ap (λ r. option_map_or (λ (v : Workspace). conflicts (content_of o v.parent) (own_changes v)) r []) e in
        or_left _ false (merge_clashes o name w (cell, count) e (ap (λ cells. option_map in_conflict (least_and_count cells)) (sym list)
        ∙ ap (option_map in_conflict) h))
