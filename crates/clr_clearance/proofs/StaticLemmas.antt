-- Where entries cover a merge set, every rule holds in what any of its members give, and the others stay free.
use Rattle.std.proofs.Common.{◌≡◌, ℕ, zero, suc, true, false, not, ◌==◌, List, [], ◌∷◌, refl, sym, ap, ◌∙◌, subst, Option, Some, None, is_some, slice_get}
use Rattle.std.specs.List.{range_with_len}
use Rattle.std.specs.Option.{option_map, option_map_or}
use Rattle.std.proofs.lemmas.Bool.{and_parts, false≢true, or_left, or_right, not-true}
use Rattle.std.proofs.lemmas.Bool.Decides.{Decides-eqb}
use Rattle.std.proofs.lemmas.List.{length-map}
use Rattle.std.proofs.lemmas.Option.{slice_get-map}
use Rattle.clr_rows.specs.declared.cells.CellId.{CellId}
use Rattle.clr_rows.specs.Contents.{Content, conflicts, row_at}
use Rattle.clr_workspaces.specs.Marks.{Name}
use Rattle.clr_workspaces.specs.Workspaces.{Workspace}
use Rattle.clr_workspaces.specs.Operations.{own_changes}
use Rattle.clr_needs.specs.Covers.{Entry}
use Rattle.clr_needs.specs.Laws.{SayTheSame}
use Rattle.clr_needs.specs.Members.{AreApart, after_at, after_of}
use Rattle.clr_needs.specs.Positions.{after_member, by_position}
use Rattle.clr_needs.specs.Settings.{Setting, AreAmong, AreDisjoint, has as has_by}
use Rattle.clr_rules.specs.Needs.{BreaksNoMore, Holds, View}
use Rattle.clr_needs.proofs.CoverLaws.{covered_breaks_no_more}
use Rattle.clr_needs.proofs.Merges.{root_is}
use Rattle.clr_needs.proofs.PositionLaws.{say_the_same}
use Rattle.clr_steps.specs.Names.{has, same_name}
use Rattle.clr_steps.specs.Offices.{Office, workspace, content_of}
use Rattle.clr_steps.specs.Quiet.{MergeSet, is_root, is_member, root_content}
use Rattle.clr_steps.specs.Readings.{changes_in, conflicts_in}
use Rattle.clr_steps.proofs.FindLemmas.{same_itself}
use Rattle.clr_clearance.specs.Laws.{RootHeldLaw, NumberLaw, StaticLaw}
use Rattle.clr_clearance.specs.MergeSets.{AgreesWith, AreMergeable, Covers, MembersBreakNoMore, RootHolds, change_sets, changed_by, is_child, rows_with}
use Rattle.clr_clearance.specs.MergeSets.{setting_by_position, setting_of}
use Rattle.clr_clearance.specs.Safety.{IsMergeOf}
use Rattle.clr_clearance.proofs.MergeSetLemmas.{changed_by-standing, content_above, free_agrees, some_is_changed, untaken}

-- children -------------------------------------------------------------------------------------------

pub record IsUnder (o : Office) (merge_set : MergeSet) (name : Name) : Type 0 where
  pub at : Workspace
  pub is : workspace o name ≡ Some at
  pub under : is_root merge_set at.parent ≡ true

pub child_under : (o : Office) (merge_set : MergeSet) (name : Name) → is_child o merge_set name ≡ true → IsUnder o merge_set name
child_under o merge_set name h = by (workspace o name) refl (and_parts (not (is_root merge_set name)) _ h).1
  where
    by : (r : Option Workspace) → workspace o name ≡ r → option_map_or (λ (w : Workspace). is_root merge_set w.parent) r false ≡ true → IsUnder o merge_set name
    by None e h = absurd (false≢true h)
    by (Some w) e h = record { at = w; is = e; under = h }

pub child_apart : (o : Office) (merge_set : MergeSet) (name : Name) → is_child o merge_set name ≡ true → is_root merge_set name ≡ false
child_apart o merge_set name h = not-true _ (and_parts (not (is_root merge_set name)) _ h).0

pub child_parent : (o : Office) (merge_set : MergeSet) (name : Name) (w : Workspace) → is_child o merge_set name ≡ true → workspace o name ≡ Some w
    → is_root merge_set w.parent
    ≡ true
child_parent o merge_set name w h e = sym (ap (λ r. option_map_or (λ (v : Workspace). is_root merge_set v.parent) r false) e)
    ∙ (and_parts (not (is_root merge_set name)) _ h).1

-- a child without conflicts took over the root's rows where it changed them
pub child_agrees : (o : Office) (merge_set : MergeSet) (name : Name) (w : Workspace) → is_child o merge_set name ≡ true → conflicts_in o name ≡ []
    → workspace o name ≡ Some w
    → AgreesWith (row_at (root_content o merge_set)) w.base w.current
child_agrees o merge_set name w child free e =
    free_agrees (root_content o merge_set) w
    (ap (λ c. conflicts c (own_changes w)) (sym (content_above o merge_set w (child_parent o merge_set name w child e)))
    ∙ sym (ap (λ r. option_map_or (λ (v : Workspace). conflicts (content_of o v.parent) (own_changes v)) r []) e)
    ∙ free)

pub member_agrees : (o : Office) (merge_set : MergeSet) (name : Name) (w : Workspace) → AreMergeable o merge_set → is_member merge_set name ≡ true
    → workspace o name ≡ Some w
    → AgreesWith (row_at (root_content o merge_set)) w.base w.current
member_agrees o merge_set name w mergeable member e = child_agrees o merge_set name w (mergeable.children name member) (mergeable.free name member) e

-- positions ------------------------------------------------------------------------------------------

module _ (o : Office) (merge_set : MergeSet) where
  abbrev c : Setting Name
  c = setting_of o merge_set

  pub same_after : (k : ℕ) (cell : CellId) → after_of (change_sets o merge_set) k cell ≡ after_member c (slice_get merge_set.members k) cell
  same_after k cell = ap (λ r. after_at r cell) (slice_get-map (changes_in o) merge_set.members k) ∙ by (slice_get merge_set.members k)
    where
      by : (r : Option Name) → after_at (option_map (changes_in o) r) cell ≡ after_member c r cell
      by None = refl
      by (Some name) = refl

  pub numbered_is : setting_by_position o merge_set ≡ by_position c
  numbered_is = λ i. record {
    rules = o.book;
    root = row_at (root_content o merge_set);
    members = range_with_len 0 (length-map merge_set.members (changes_in o) i);
    after = λ k cell. same_after k cell i;
    same = λ j k. j == k;
    decides = Decides-eqb;
  }

  pub member_there : (names : List Name) (k : ℕ) (name : Name) → slice_get names k ≡ Some name → has_by same_name names name ≡ true
  member_there [] k name e = absurd (cc)
  member_there (n ∷ ns) zero name e = let one : n ≡ name = cc in or_left (same_name n name) (has_by same_name ns name) (ap (same_name n) (sym one)
      ∙ same_itself n)
  member_there (n ∷ ns) (suc k) name e = or_right (same_name n name) (has_by same_name ns name) (member_there ns k name e)

  -- no cell is changed at two positions
  pub apart_sets : AreMergeable o merge_set → AreApart (change_sets o merge_set)
  apart_sets mergeable cell j k changes changes_too =
      by (slice_get merge_set.members j) refl (slice_get merge_set.members k) refl
      (sym (ap is_some (same_after j cell)) ∙ changes)
      (sym (ap is_some (same_after k cell)) ∙ changes_too)
    where
      by : (x : Option Name) → slice_get merge_set.members j ≡ x → (y : Option Name) → slice_get merge_set.members k ≡ y
          → is_some (after_member c x cell) ≡ true
          → is_some (after_member c y cell) ≡ true → j ≡ k
      by None e y f g h = absurd (false≢true g)
      by (Some m) e None f g h = absurd (false≢true h)
      by (Some m) e (Some n) f g h =
          let same : m ≡ n = mergeable.apart m n cell (member_there merge_set.members j m e) (member_there merge_set.members k n f) g h in
          mergeable.distinct j k m e (f ∙ ap Some (sym same))

  pub apart_by_position : AreMergeable o merge_set → AreDisjoint (by_position c)
  apart_by_position mergeable j k cell hj hk changes changes_too =
      apart_sets mergeable cell j k (ap is_some (same_after j cell) ∙ changes) (ap is_some (same_after k cell) ∙ changes_too)

pub number_law : NumberLaw
number_law o merge_set = subst (SayTheSame (setting_of o merge_set)) (sym (numbered_is o merge_set)) (say_the_same (setting_of o merge_set))

pub no_more_broken : (o : Office) (merge_set : MergeSet) (entries : List Entry) → Covers o merge_set entries → MembersBreakNoMore o merge_set
no_more_broken o merge_set entries covers fewer more part members =
    covered_breaks_no_more (setting_of o merge_set) entries
    (record { apart = covers.mergeable.apart; covered = ((number_law o merge_set).covered entries).1 covers.covered })
    fewer more part members

-- the root is what no members give
pub of_root : (o : Office) (merge_set : MergeSet) (view : View) → BreaksNoMore o.book (rows_with o merge_set []) view
    → BreaksNoMore o.book (row_at (root_content o merge_set)) view
of_root o merge_set view h = subst (λ (before : View). BreaksNoMore o.book before view) (λ i cell. root_is (setting_of o merge_set) cell i) h

-- where every rule holds in the root, it holds in rows that break no more than the root
pub held_after : (o : Office) (merge_set : MergeSet) (view : View) → BreaksNoMore o.book (row_at (root_content o merge_set)) view → RootHolds o merge_set
    → Holds o.book view
held_after o merge_set view no_more holds ask s t need = no_more ask s t (λ now. holds ask s t now) need

pub held_law : RootHeldLaw
held_law o merge_set no_more holds names members =
    held_after o merge_set (rows_with o merge_set names)
    (of_root o merge_set (rows_with o merge_set names) (no_more [] names (λ n h. absurd (false≢true h)) members)) holds

-- rows that some members give break no more than the root
pub is_merge_of : (o : Office) (merge_set : MergeSet) → MembersBreakNoMore o merge_set → (names : List Name) (content : Content)
    → AreAmong (setting_of o merge_set) names merge_set.members
    → ((cell : CellId) → row_at content cell ≡ rows_with o merge_set names cell) → IsMergeOf o merge_set names content
is_merge_of o merge_set keeps names content part rows = record { rows = rows; no_more = no_more; holds = held_after o merge_set (row_at content) no_more }
  where
    no_more : BreaksNoMore o.book (row_at (root_content o merge_set)) (row_at content)
    no_more = subst (λ (view : View). BreaksNoMore o.book (row_at (root_content o merge_set)) view) (λ i cell. sym (rows cell) i)
        (of_root o merge_set (rows_with o merge_set names) (keeps [] names (λ n h. absurd (false≢true h)) part))

-- no other member is in conflict with the rows that members give
pub others_free : (o : Office) (merge_set : MergeSet) → AreMergeable o merge_set → (names : List Name) (name : Name) (w : Workspace)
    → AreAmong (setting_of o merge_set) names merge_set.members → is_member merge_set name ≡ true → has names name ≡ false → workspace o name ≡ Some w
    → AgreesWith (rows_with o merge_set names) w.base w.current
others_free o merge_set mergeable names name w part member out e cell changed =
    let changes : is_some (changed_by o name cell) ≡ true = ap is_some (changed_by-standing o name w cell e) ∙ some_is_changed w.base w.current cell
    ∙ changed in
    untaken o merge_set names name cell mergeable.apart part member out changes ∙ member_agrees o merge_set name w mergeable member e cell changed

pub static_law : StaticLaw
static_law o merge_set entries covers = record {
  no_more = no_more_broken o merge_set entries covers;
  keeps = held_law o merge_set (no_more_broken o merge_set entries covers);
  free = others_free o merge_set covers.mergeable;
}
