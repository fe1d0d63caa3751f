-- A clearance under an order lasts: after quiet commands in turn entries cover the members that stand. These are the entries that covered all, carried over.
use Rattle.std.proofs.Common.{◌≡◌, ◌∙◌, Bool, true, false, ◌&&◌, cond, not, List, [], ◌∷◌, filter, inl, inr, refl, sym, ap, subst}
use Rattle.std.proofs.Common.{Option, Some, None, is_some, unwrap_or}
use Rattle.std.specs.Option.{option_map, option_map_or}
use Rattle.std.proofs.lemmas.Bool.{cases_Bool, false≢true}
use Rattle.clr_rows.specs.declared.cells.CellId.{CellId}
use Rattle.clr_rows.specs.declared.rows.Row.{Row}
use Rattle.clr_rows.specs.Contents.{conflicts}
use Rattle.clr_workspaces.specs.Marks.{Name}
use Rattle.clr_workspaces.specs.Workspaces.{Workspace}
use Rattle.clr_workspaces.specs.Operations.{own_changes}
use Rattle.clr_needs.specs.Covers.{Entry}
use Rattle.clr_needs.specs.Settings.{Setting, changer, has as has_by}
use Rattle.clr_needs.proofs.Merges.{IsChanger, changer_is, standing_row, taken_is, taken_over}
use Rattle.clr_steps.specs.Names.{same_name, has}
use Rattle.clr_steps.specs.Offices.{Office, content_of, workspace}
use Rattle.clr_steps.specs.Quiet.{MergeSet, is_member, is_root, member_of, root_content}
use Rattle.clr_steps.specs.Readings.{conflicts_in}
use Rattle.clr_steps.specs.Refusals.{conflict}
use Rattle.clr_steps.specs.Steps.{run}
use Rattle.clr_steps.proofs.WorkspaceLemmas.{none_listed}
use Rattle.clr_clearance.specs.Invariants.{Invariant}
use Rattle.clr_clearance.specs.Plans.{standing}
use Rattle.clr_clearance.specs.Runs.{merged_in}
use Rattle.clr_clearance.specs.MergeSets.{AreMergeable, changed_by, is_child, rows_with, setting_of}
use Rattle.clr_clearance.proofs.MemberLemmas.{again, it, no_conflict_now, not_root}
use Rattle.clr_clearance.proofs.NameLemmas.{has_is}
use Rattle.clr_clearance.proofs.SafeLemmas.{quiet_list_law}
use Rattle.clr_clearance.proofs.MergeSetLemmas.{changed_by-standing, order_law, untaken}
use Rattle.clr_ordered_needs.specs.Later.{AreIdle, Changes, Fate, Gone, IsLater, IsLaterInTurn, Merged, Stays}
use Rattle.clr_ordered_needs.proofs.CarriedCovers.{covers_last}
use Rattle.clr_ordered_needs.proofs.CarriedNeeds.{changes_of, idle_or_changed}
use Rattle.clr_ordered_needs.proofs.Lists.{of_some, once_differ, some_of, some_once, stands_once}
use Rattle.clr_ordered_clearance.specs.Laws.{LastingInTurnLaw, standing_in_turn}
use Rattle.clr_ordered_clearance.specs.MergeSets.{CoversInTurn, HaveComeInTurn, OrderedMergeSet, goes_before}
use Rattle.clr_ordered_clearance.proofs.NumberLemmas.{number_in_turn}
use Rattle.clr_ordered_clearance.proofs.Standing.{OthersStand, others_stand}
use Rattle.clr_ordered_clearance.proofs.TurnLemmas.{merged_have_come}

module _ (first : Office) (ordered : OrderedMergeSet) (mergeable : AreMergeable first ordered.merge_set) (names : List Name) (now : Office)
    (inv : Invariant first ordered.merge_set names now) where
  abbrev merge_set : MergeSet
  merge_set = ordered.merge_set

  abbrev old_setting : Setting Name
  old_setting = setting_of first merge_set

  abbrev next_setting : Setting Name
  next_setting = setting_of now (standing now merge_set)

  -- the members that stand ---------------------------------------------------------------------------------------------

  abbrev stands_now : Name → Bool
  stands_now name = is_some (workspace now name)

  there : (name : Name) → stands_now name ≡ true → (w : Workspace) × (workspace now name ≡ Some w)
  there name h = by (workspace now name) refl h
    where
      by : (r : Option Workspace) → workspace now name ≡ r → is_some r ≡ true → (w : Workspace) × (workspace now name ≡ Some w)
      by None e h = absurd (false≢true h)
      by (Some w) e h = (w, e)

  is_in : (name : Name) → has_by same_name merge_set.members name ≡ true → is_member merge_set name ≡ true
  is_in name h = sym (has_is merge_set.members name) ∙ h

  -- a member among those that stand
  stands_in : (name : Name) → has_by same_name (standing now merge_set).members name ≡ true → (is_member merge_set name ≡ true) × (stands_now name ≡ true)
  stands_in name h = let both = of_some old_setting stands_now merge_set.members name h in (is_in name both.0, both.1)

  in_standing : (name : Name) → is_member merge_set name ≡ true → stands_now name ≡ true → has_by same_name (standing now merge_set).members name ≡ true
  in_standing name member stand = some_of old_setting stands_now merge_set.members name (has_is merge_set.members name ∙ member) stand

  child_now : (name : Name) → is_member merge_set name ≡ true → stands_now name ≡ true → is_child now (standing now merge_set) name ≡ true
  unfolding is_root
  child_now name member h =
      let (w, e) = there name h in
      let under = (it first merge_set mergeable names now inv name member w e).under in
      ap (λ b. not b && option_map_or (λ (v : Workspace). same_name v.parent merge_set.root) (workspace now name) false)
      (not_root first merge_set mergeable names now inv name member)
      ∙ ap (λ r. option_map_or (λ (v : Workspace). same_name v.parent merge_set.root) r false) e ∙ under

  free_now : (name : Name) → is_member merge_set name ≡ true → stands_now name ≡ true → conflicts_in now name ≡ []
  unfolding conflict
  free_now name member h =
      let (w, e) = there name h in
      ap (λ r. option_map_or (λ (v : Workspace). conflicts (content_of now v.parent) (own_changes v)) r []) e
      ∙ none_listed (conflicts (content_of now w.parent) (own_changes w)) (no_conflict_now first merge_set mergeable names now inv name member w e)

  -- a member that stands has the changes that it had, unless it is merged
  changes_now : (name : Name) → is_member merge_set name ≡ true → stands_now name ≡ true → (cell : CellId) → changed_by now name cell
      ≡ cond (has names name) None (changed_by first name cell)
  changes_now name member h cell = let (w, e) = there name h in changed_by-standing now name w cell e
      ∙ (it first merge_set mergeable names now inv name member w e).changes cell

  changed_before : (name : Name) (cell : CellId) → is_member merge_set name ≡ true → stands_now name ≡ true → is_some (changed_by now name cell) ≡ true
      → is_some (changed_by first name cell) ≡ true
  changed_before name cell member h changes = by (has names name) (sym (ap is_some (changes_now name member h cell)) ∙ changes)
    where
      by : (b : Bool) → is_some (cond b None (changed_by first name cell)) ≡ true → is_some (changed_by first name cell) ≡ true
      by true h = absurd (false≢true h)
      by false h = h

  standing_mergeable : AreMergeable now (standing now merge_set)
  standing_mergeable = record {
    kept = inv.kept;
    distinct = once_differ old_setting (filter stands_now merge_set.members)
        (some_once old_setting stands_now merge_set.members (stands_once old_setting merge_set.members mergeable.distinct));
    children = λ name h. (let both = stands_in name (has_is (standing now merge_set).members name ∙ h) in child_now name both.0 both.1);
    free = λ name h. (let both = stands_in name (has_is (standing now merge_set).members name ∙ h) in free_now name both.0 both.1);
    apart = λ m n cell hm hn changes changes_too.
        (let one = stands_in m hm in
        let two = stands_in n hn in
        mergeable.apart m n cell (has_is merge_set.members m ∙ one.0) (has_is merge_set.members n ∙ two.0) (changed_before m cell one.0 one.1 changes)
        (changed_before n cell two.0 two.1 changes_too));
  }

  -- what became of each member -----------------------------------------------------------------------------------------

  -- the member is merged, or it stays
  abbrev fate : Name → Fate Name
  fate name = cond (has names name) Merged (Stays name)

  of_merged : (name : Name) → fate name ≡ Merged → has names name ≡ true
  of_merged name = by (has names name) refl
    where
      by : (b : Bool) → has names name ≡ b → cond b Merged (Stays name) ≡ Merged → has names name ≡ true
      by true e f = e
      by false e f = absurd (cc)

  of_unmerged : (name : Name) → (fate name ≡ Merged → ⊥) → has names name ≡ false
  of_unmerged name never = elim (cases_Bool (has names name)) [
    | inl h ↦ absurd (never (ap (λ b. cond b Merged (Stays name)) h))
    | inr h ↦ h
  ]

  of_stays : (x y : Name) → fate x ≡ Stays y → (x ≡ y) × (has names x ≡ false)
  of_stays x y = by (has names x) refl
    where
      by : (b : Bool) → has names x ≡ b → cond b Merged (Stays x) ≡ Stays y → (x ≡ y) × (has names x ≡ false)
      by true e f = absurd (cc)
      by false e f = let one : x ≡ y = cc in (one, e)

  never_gone : (x : Name) → fate x ≡ Gone → ⊥
  never_gone x = by (has names x)
    where
      by : (b : Bool) → cond b Merged (Stays x) ≡ Gone → ⊥
      by true f = cc
      by false f = cc

  -- who has changes now isn't merged, and had them
  waits : (name : Name) (cell : CellId) (row : Option Row) → cond (has names name) None (changed_by first name cell) ≡ Some row → (has names name ≡ false)
      × (changed_by first name cell ≡ Some row)
  waits name cell row = by (has names name) refl
    where
      by : (b : Bool) → has names name ≡ b → cond b None (changed_by first name cell) ≡ Some row → (has names name ≡ false)
          × (changed_by first name cell ≡ Some row)
      by true e f = absurd (cc)
      by false e f = (e, f)

  -- the root's rows
  root_now : (cell : CellId) → next_setting.root cell ≡ rows_with first merge_set names cell
  unfolding root_content
  root_now = inv.rows

  idle_root : (cell : CellId) → AreIdle old_setting cell → rows_with first merge_set names cell ≡ old_setting.root cell
  idle_root cell idle =
      taken_is old_setting names (record { apart = mergeable.apart; part = inv.part }) cell ∙ by (changer old_setting cell) (changer_is old_setting cell)
    where
      by : (x : Option Name) → IsChanger old_setting merge_set.members cell x → standing_row old_setting names cell x ≡ old_setting.root cell
      by None h = refl
      by (Some name) h = let (row, changed) = changes_of old_setting name cell h.0 h.1 in absurd (idle_or_changed old_setting name cell row idle changed)

  merged_root : (name : Name) (cell : CellId) (row : Option Row) → is_member merge_set name ≡ true → has names name ≡ true
      → changed_by first name cell ≡ Some row
      → rows_with first merge_set names cell ≡ row
  merged_root name cell row member h e =
      order_law first merge_set names (name ∷ names) mergeable inv.part (again first merge_set mergeable names now inv name member h) cell
      ∙ taken_over (setting_of first merge_set) name names cell ∙ ap (λ r. unwrap_or r (rows_with first merge_set names cell)) e

  module _ (come : HaveComeInTurn first ordered names) (others : OthersStand first merge_set mergeable names now) where
    -- a member that isn't merged stands
    stands_still : (name : Name) → is_member merge_set name ≡ true → has names name ≡ false → stands_now name ≡ true
    stands_still name member out = by (workspace now name) (others name member out)
      where
        by : (r : Option Workspace) → is_some (option_map member_of r) ≡ true → is_some r ≡ true
        by None h = h
        by (Some w) h = refl

    stays_changed : (x y : Name) (cell : CellId) (row : Option Row) → Changes old_setting x cell row → fate x ≡ Stays y → Changes next_setting y cell row
    stays_changed x y cell row changed e =
        let is = of_stays x y e in
        let member = is_in x changed.member in
        let stand = stands_still x member is.1 in
        subst (λ k. Changes next_setting k cell row) is.0 (record {
          member = in_standing x member stand;
          after = changes_now x member stand cell ∙ ap (λ b. cond b None (changed_by first x cell)) is.1 ∙ changed.after;
        })

    is_later : IsLater old_setting next_setting fate
    is_later = record {
      rules = inv.book;
      apart = mergeable.apart;
      came = λ y cell row changed.
          (let both = stands_in y changed.member in
          let before = waits y cell row (sym (changes_now y both.0 both.1 cell) ∙ changed.after) in
          (y, record { member = has_is merge_set.members y ∙ both.0; after = before.1 }, ap (λ b. cond b Merged (Stays y)) before.0));
      stayed = stays_changed;
      idle = λ cell idle. root_now cell ∙ idle_root cell idle;
      merged = λ x cell row changed e. root_now cell ∙ merged_root x cell row (is_in x changed.member) (of_merged x e) changed.after;
      unmerged = λ x cell row changed not_merged. root_now cell ∙ untaken first merge_set names x cell mergeable.apart inv.part (is_in x changed.member)
          (of_unmerged x not_merged) (ap is_some changed.after);
    }

    is_later_in_turn : IsLaterInTurn (goes_before ordered) old_setting (goes_before ordered) fate
    is_later_in_turn = record {
      goes_first = λ x z y w goes e f. (λ i. goes_before ordered (sym (of_stays x y e).0 i) (sym (of_stays z w f).0 i)) ∙ goes;
      merged_first = λ x z member goes e.
          ap (λ b. cond b Merged (Stays x)) (sym (has_is names x) ∙ come x z goes member (has_is names z ∙ of_merged z e));
      gone_first = λ x z member goes e. absurd (never_gone x e);
    }

    standing_covered : (entries : List Entry) → CoversInTurn first ordered entries → (more : List Entry) × CoversInTurn now (standing_in_turn now ordered) more
    standing_covered entries covers =
        let (more, covered) = covers_last (goes_before ordered) old_setting (goes_before ordered) next_setting fate is_later is_later_in_turn entries
        (((number_in_turn first ordered).covered entries).1 covers.covered) in (
          more,
          record { mergeable = standing_mergeable; covered = ((number_in_turn now (standing_in_turn now ordered)).covered more).0 covered },
        )

pub lasting_in_turn : LastingInTurnLaw
lasting_in_turn o ordered entries commands lost covers quiet come =
    let done = run o commands lost in
    let names = merged_in ordered.merge_set commands done.replies in
    standing_covered o ordered covers.mergeable names done.office (quiet_list_law o ordered.merge_set commands lost covers.mergeable quiet)
    (merged_have_come ordered o commands lost come) (others_stand o ordered.merge_set covers.mergeable commands lost quiet) entries covers
