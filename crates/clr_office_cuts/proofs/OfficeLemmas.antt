-- A cut office has the tests of names, the plans and the promises of the whole.
use Rattle.std.proofs.Common.{◌≡◌, ◌∙◌, ◌+◌, ◌<◌, ℕ, zero, suc, Bool, true, not, cond, List, [], ◌∷◌, refl, sym, ap, subst}
use Rattle.std.proofs.Common.{Option, Some, None, Contains, map, slice_index_or}
use Rattle.std.specs.List.{position, position_from}
use Rattle.std.specs.Option.{option_map, option_or}
use Rattle.std.proofs.lemmas.Bool.{or_left, or_right}
use Rattle.std.proofs.lemmas.List.{length-map}
use Rattle.std.proofs.lemmas.Iterator.Adapters.{position_from-zero}
use Rattle.clr_rows.specs.declared.cells.CellId.{CellId}
use Rattle.clr_rows.specs.Contents.{least_and_count}
use Rattle.clr_rules.specs.Needs.{View}
use Rattle.clr_workspaces.specs.Marks.{Name}
use Rattle.clr_needs.specs.declared.faults.SceneFault.TheVariants as scene
use Rattle.clr_needs.specs.declared.needs.Need.{Need}
use Rattle.clr_needs.specs.Covers.{AreCovered, Entry, HasEntry}
use Rattle.clr_needs.specs.Members.{AreApart, IsSceneFault, setting}
use Rattle.clr_needs.specs.Needs.{IsPossible, IsTouched, IsTouchedBy}
use Rattle.clr_needs.specs.Picks.{Blocks}
use Rattle.clr_needs.specs.Settings.{Setting, Lived}
use Rattle.clr_needs.proofs.Agreement.{entry_to}
use Rattle.clr_steps.specs.Names.{has, same_name}
use Rattle.clr_steps.specs.Offices.{Office, stands}
use Rattle.clr_steps.specs.Quiet.{MergeSet, root_content}
use Rattle.clr_steps.specs.Readings.{changes_in, conflicts_in}
use Rattle.clr_steps.proofs.FindLemmas.{same_itself}
use Rattle.clr_clearance.specs.declared.verdicts.Verdict.{Verdict}
use Rattle.clr_clearance.specs.declared.verdicts.Verdict.TheVariants as verdict
use Rattle.clr_clearance.specs.MergeSets.{change_sets, is_child, setting_by_position}
use Rattle.clr_clearance.specs.Plans.{ArePicked, IsBlocked, IsCleared, IsFirstUnpicked, of_conflict, of_shared, of_unpicked}
use Rattle.clr_clearance.specs.Verdicts.{IsFirstUncovered, IsVerdict, first_conflict, member_fault, missing_member, names_fault, of_cell, of_member, of_need}
use Rattle.clr_clearance.specs.Verdicts.{of_none, repeated_member}
use Rattle.clr_clearance.specs.Verdicts.{stray_member}
use Rattle.clr_clearance.proofs.HeadlineLemmas.{headline}
use Rattle.clr_clearance.proofs.PlanLemmas.{blocked_plan, cleared_plan}
use Rattle.clr_clearance.proofs.RunLemmas.{clear_is_safe}
use Rattle.clr_cuts.specs.Cuts.{with_root}
use Rattle.clr_cuts.specs.Laws.{AnswersTheSame}
use Rattle.clr_cuts.proofs.AnswerLaws.{answers_the_same}
use Rattle.clr_cuts.proofs.CutLaws.{Same, agree_down, entry_up, possible_down, possible_up, same_one}
use Rattle.clr_cuts.proofs.CutLaws.{touched_down as touched_as_down, touched_up as touched_as_up}
use Rattle.clr_office_cuts.specs.Laws.{IsSameOffice, PromisesForWhole}
use Rattle.clr_office_cuts.specs.OfficeCuts.{IsOfficeCut, root_rows}

-- lists of names ---------------------------------------------------------------------------------

module _ {X : Type 0} where
  -- two functions are the same at each of some names
  abbrev pub AreSameAt : (Name → X) → (Name → X) → List Name → Type 0
  AreSameAt f g names = (name : Name) → has names name ≡ true → f name ≡ g name

  same_head : (f g : Name → X) (n : Name) (ns : List Name) → AreSameAt f g (n ∷ ns) → f n ≡ g n
  same_head f g n ns h = h n (or_left (same_name n n) (has ns n) (same_itself n))

  same_tail : (f g : Name → X) (n : Name) (ns : List Name) → AreSameAt f g (n ∷ ns) → AreSameAt f g ns
  same_tail f g n ns h name is = h name (or_right (same_name n name) (has ns name) is)

  pub same_map : (f g : Name → X) (names : List Name) → AreSameAt f g names → map f names ≡ map g names
  same_map f g [] h = refl
  same_map f g (n ∷ ns) h = λ i. same_head f g n ns h i ∷ same_map f g ns (same_tail f g n ns h) i

same_from : (f g : Name → Bool) (at : ℕ) (names : List Name) → AreSameAt f g names → position_from f at names ≡ position_from g at names
same_from f g at [] h = refl
same_from f g at (n ∷ ns) h = λ i. cond (same_head f g n ns h i) (Some at) (same_from f g (at + 1) ns (same_tail f g n ns h) i)

same_position : (f g : Name → Bool) (names : List Name) → AreSameAt f g names → position f names ≡ position g names
same_position f g names h = position_from-zero f names ∙ same_from f g 0 names h ∙ sym (position_from-zero g names)

same_conflict : (whole cut : Office) (at : ℕ) (names : List Name) → AreSameAt (conflicts_in cut) (conflicts_in whole) names
    → first_conflict cut at names ≡ first_conflict whole at names
unfolding first_conflict
same_conflict whole cut at [] h = refl
same_conflict whole cut at (n ∷ ns) h = λ i. option_or
    (option_map (λ (c : CellId × ℕ). verdict.Conflict at c.0 c.1) (least_and_count (same_head (conflicts_in cut) (conflicts_in whole) n ns h i)))
    (same_conflict whole cut (suc at) ns (same_tail (conflicts_in cut) (conflicts_in whole) n ns h) i)

need_at : (es : List Entry) (k : ℕ) (e : Entry) → slice_index_or es k e ≡ e → slice_index_or (map (λ (e : Entry). e.0) es) k e.0 ≡ e.0
need_at [] k e is = refl
need_at (x ∷ xs) zero e is = ap (λ (e : Entry). e.0) is
need_at (x ∷ xs) (suc k) e is = need_at xs k e is

-- the need of an entry is among the needs
listed : (es : List Entry) (e : Entry) → Contains es e → Contains (map (λ (e : Entry). e.0) es) e.0
listed es e (k, less, is) = (k, subst (λ n. k < n) (sym (length-map es (λ (e : Entry). e.0))) less, need_at es k e is)

-- offices ----------------------------------------------------------------------------------------

module _ (whole cut : Office) (merge_set : MergeSet) (is_cut : IsOfficeCut whole cut merge_set) where
  same_missing : missing_member cut merge_set ≡ missing_member whole merge_set
  same_missing = ap (option_map verdict.NoWorkspace) (same_position (λ name. not (stands cut name)) (λ name. not (stands whole name)) merge_set.members
      (λ name is. ap not (is_cut.members name is).stands))

  same_stray : stray_member cut merge_set ≡ stray_member whole merge_set
  same_stray = ap (option_map verdict.NotUnderRoot) (same_position (λ name. not (is_child cut merge_set name)) (λ name. not (is_child whole merge_set name))
      merge_set.members
      (λ name is. ap not (is_cut.members name is).child))

  same_names : names_fault cut merge_set ≡ names_fault whole merge_set
  unfolding names_fault
  same_names = λ i. option_or (cond (is_cut.kept i) None (Some verdict.NotKept))
      (option_or (repeated_member merge_set) (option_or (same_missing i) (same_stray i)))

  same_conflicts : first_conflict cut 0 merge_set.members ≡ first_conflict whole 0 merge_set.members
  same_conflicts = same_conflict whole cut 0 merge_set.members (λ name is. (is_cut.members name is).conflicts)

  pub same_fault : member_fault cut merge_set ≡ member_fault whole merge_set
  same_fault = λ i. option_or (same_names i) (same_conflicts i)

  same_sets : change_sets cut merge_set ≡ change_sets whole merge_set
  same_sets = same_map (changes_in cut) (changes_in whole) merge_set.members (λ name is. (is_cut.members name is).changes)

  abbrev c : Setting ℕ
  c = setting_by_position whole merge_set

  abbrev d : Setting ℕ
  d = with_root c (root_rows cut merge_set)

  -- the setting of the cut office is the cut of the setting
  same_setting : setting_by_position cut merge_set ≡ d
  same_setting = λ i. setting (is_cut.book i) (root_content cut merge_set) (same_sets i)

  same : AnswersTheSame c (root_rows cut merge_set)
  same = answers_the_same c (root_rows cut merge_set) is_cut.rows

  to_cut : (P : Setting ℕ → Type 0) → P (setting_by_position cut merge_set) → P d
  to_cut P = subst P same_setting

  from_cut : (P : Setting ℕ → Type 0) → P d → P (setting_by_position cut merge_set)
  from_cut P = subst P (sym same_setting)

  abbrev rows : View
  rows = root_rows cut merge_set

  touched_up : (n : Need) → IsTouched d n → IsTouched c n
  touched_up n = (same.safely.touched n).0

  -- ---- verdicts

  -- an entry covers a need of the cut where it does so in the whole
  entries_up : (entries : List Entry) (n : Need) (a : Lived ℕ) (b : Option (Lived ℕ)) → HasEntry d n a b entries → HasEntry c n a b entries
  entries_up entries n a b h = entry_up c rows is_cut.rows.safe.of_root n a b entries h

  entries_down : (entries : List Entry) (n : Need) (a : Lived ℕ) (b : Option (Lived ℕ)) → IsPossible d n a b → IsTouchedBy d n a b
      → HasEntry c n a b entries → HasEntry d n a b entries
  entries_down entries n a b possible touched h = entry_to c d (Same c rows) (same_one c rows) n a b a b
      (agree_down c rows is_cut.rows.safe.of_root is_cut.rows.servers n a b possible touched) entries h

  up : (n : Need) (a : Lived ℕ) (b : Option (Lived ℕ)) → IsPossible d n a b → IsPossible c n a b
  up n a b possible = possible_up c rows is_cut.rows.safe.of_root n a b possible

  down : (n : Need) (a : Lived ℕ) (b : Option (Lived ℕ)) → IsPossible c n a b → IsTouchedBy c n a b → IsPossible d n a b
  down n a b possible touched = possible_down c rows n a b (is_cut.rows.safe.subjects n a b possible touched) possible

  uncovered_up : (entries : List Entry) (n : Need) (a : Lived ℕ) (b : Option (Lived ℕ)) → IsFirstUncovered d entries n a b → IsFirstUncovered c entries n a b
  uncovered_up entries n a b it = record {
    possible = up n a b it.possible;
    touched = touched_as_up c rows is_cut.rows.safe.of_root n a b it.touched;
    uncovered = λ h. it.uncovered (entries_down entries n a b it.possible it.touched h);
    first = λ m x y less possible touched. entries_up entries m x y
        (it.first m x y less (down m x y possible touched) (touched_as_down c rows is_cut.rows.safe.changed m x y touched));
  }

  uncovered_down : (entries : List Entry) (n : Need) (a : Lived ℕ) (b : Option (Lived ℕ)) → IsFirstUncovered c entries n a b → IsFirstUncovered d entries n a b
  uncovered_down entries n a b it = record {
    possible = down n a b it.possible it.touched;
    touched = touched_as_down c rows is_cut.rows.safe.changed n a b it.touched;
    uncovered = λ h. it.uncovered (entries_up entries n a b h);
    first = λ m x y less possible touched. entries_down entries m x y possible touched
        (it.first m x y less (up m x y possible) (touched_as_up c rows is_cut.rows.safe.of_root m x y touched));
  }

  pub verdict_up : (entries : List Entry) (v : Verdict) → IsVerdict cut merge_set entries v → IsVerdict whole merge_set entries v
  verdict_up entries v (of_member e) = of_member (sym same_fault ∙ e)
  verdict_up entries v (of_cell cell i j none shared e) = of_cell cell i j (sym same_fault ∙ none)
      (subst (λ sets. IsSceneFault sets (scene.SharedCell cell i j)) same_sets shared) e
  verdict_up entries v (of_need n a b none apart first e) = of_need n a b (sym same_fault ∙ none) (subst AreApart same_sets apart)
      (uncovered_up entries n a b (to_cut (λ s. IsFirstUncovered s entries n a b) first)) e
  verdict_up entries v (of_none none apart covered e) = of_none (sym same_fault ∙ none) (subst AreApart same_sets apart)
      ((same.covered entries).0 (to_cut (λ s. AreCovered s entries) covered)) e

  verdict_down : (entries : List Entry) (v : Verdict) → IsVerdict whole merge_set entries v → IsVerdict cut merge_set entries v
  verdict_down entries v (of_member e) = of_member (same_fault ∙ e)
  verdict_down entries v (of_cell cell i j none shared e) = of_cell cell i j (same_fault ∙ none)
      (subst (λ sets. IsSceneFault sets (scene.SharedCell cell i j)) (sym same_sets) shared) e
  verdict_down entries v (of_need n a b none apart first e) = of_need n a b (same_fault ∙ none) (subst AreApart (sym same_sets) apart)
      (from_cut (λ s. IsFirstUncovered s entries n a b) (uncovered_down entries n a b first)) e
  verdict_down entries v (of_none none apart covered e) = of_none (same_fault ∙ none) (subst AreApart (sym same_sets) apart)
      (from_cut (λ s. AreCovered s entries) ((same.covered entries).1 covered)) e

  -- ---- plans

  picked_up : (entries : List Entry) → ArePicked d entries → ArePicked c entries
  picked_up entries picked = record {
    needs = (same.lists (map (λ (e : Entry). e.0) entries)).0 picked.needs;
    picks = λ e h. ((same.needs e.0 (touched_up e.0 ((picked.needs.exactly e.0).0 (listed entries e h)))).picks (Some (e.1, e.2))).0 (picked.picks e h);
  }

  picked_down : (entries : List Entry) → ArePicked c entries → ArePicked d entries
  picked_down entries picked = record {
    needs = (same.lists (map (λ (e : Entry). e.0) entries)).1 picked.needs;
    picks = λ e h. ((same.needs e.0 ((picked.needs.exactly e.0).0 (listed entries e h))).picks (Some (e.1, e.2))).1 (picked.picks e h);
  }

  cleared_up : (entries : List Entry) → IsCleared cut merge_set entries → IsCleared whole merge_set entries
  cleared_up entries it = record {
    free = sym same_fault ∙ it.free;
    apart = subst AreApart same_sets it.apart;
    picked = picked_up entries (to_cut (λ s. ArePicked s entries) it.picked);
  }

  cleared_down : (entries : List Entry) → IsCleared whole merge_set entries → IsCleared cut merge_set entries
  cleared_down entries it = record {
    free = same_fault ∙ it.free;
    apart = subst AreApart (sym same_sets) it.apart;
    picked = from_cut (λ s. ArePicked s entries) (picked_down entries it.picked);
  }

  unpicked_up : (n : Need) → IsFirstUnpicked d n → IsFirstUnpicked c n
  unpicked_up n it = (let touched = touched_up n it.touched in record {
    touched = touched;
    none = ((same.needs n touched).picks None).0 it.none;
    first = λ m less h. (let (p, picks) = it.first m less ((same.safely.touched m).1 h) in (p, ((same.needs m h).picks (Some p)).0 picks));
  })

  unpicked_down : (n : Need) → IsFirstUnpicked c n → IsFirstUnpicked d n
  unpicked_down n it = record {
    touched = (same.safely.touched n).1 it.touched;
    none = ((same.needs n it.touched).picks None).1 it.none;
    first = λ m less h. (let (p, picks) = it.first m less (touched_up m h) in (p, ((same.needs m (touched_up m h)).picks (Some p)).1 picks));
  }

  blocked_up : (order : List ℕ) (cause : Verdict) → IsBlocked cut merge_set order cause → IsBlocked whole merge_set order cause
  blocked_up order cause (of_conflict at cell count none first o k) = of_conflict at cell count (sym same_names ∙ none) (sym same_conflicts ∙ first) o k
  blocked_up order cause (of_shared cell i j none fault o k) = of_shared cell i j (sym same_fault ∙ none)
      (subst (λ sets. IsSceneFault sets (scene.SharedCell cell i j)) same_sets fault) o k
  blocked_up order cause (of_unpicked n none apart first blocks k) =
      let unpicked = to_cut (λ s. IsFirstUnpicked s n) first in
      of_unpicked n (sym same_fault ∙ none) (subst AreApart same_sets apart) (unpicked_up n unpicked)
      (((same.needs n (touched_up n unpicked.touched)).blocks order).0 (to_cut (λ s. Blocks s n order) blocks))
      k

  blocked_down : (order : List ℕ) (cause : Verdict) → IsBlocked whole merge_set order cause → IsBlocked cut merge_set order cause
  blocked_down order cause (of_conflict at cell count none first o k) = of_conflict at cell count (same_names ∙ none) (same_conflicts ∙ first) o k
  blocked_down order cause (of_shared cell i j none fault o k) = of_shared cell i j (same_fault ∙ none)
      (subst (λ sets. IsSceneFault sets (scene.SharedCell cell i j)) (sym same_sets) fault) o k
  blocked_down order cause (of_unpicked n none apart first blocks k) = of_unpicked n (same_fault ∙ none) (subst AreApart (sym same_sets) apart)
      (from_cut (λ s. IsFirstUnpicked s n) (unpicked_down n first))
      (from_cut (λ s. Blocks s n order) (((same.needs n first.touched).blocks order).1 blocks))
      k

  pub same_office : IsSameOffice whole cut merge_set
  same_office = record {
    verdicts = λ entries v. (verdict_up entries v, verdict_down entries v);
    unfit = λ v. (λ h. sym same_names ∙ h, λ h. same_names ∙ h);
    cleared = λ entries. (cleared_up entries, cleared_down entries);
    blocked = λ order cause. (blocked_up order cause, blocked_down order cause);
  }

  pub promises : PromisesForWhole whole cut merge_set
  promises = record {
    headline = λ entries clear. headline whole merge_set entries (verdict_up entries verdict.Clear clear);
    safe = λ entries clear. (clear_is_safe whole merge_set entries (verdict_up entries verdict.Clear clear)).1;
    cleared = λ entries it. cleared_plan whole merge_set entries (cleared_up entries it);
    refused = λ order cause it. blocked_plan whole merge_set order cause (blocked_up order cause it);
  }
