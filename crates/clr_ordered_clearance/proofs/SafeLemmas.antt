-- Covered under an order, members break no more in turn, and the merge set is safe in turn.
use Rattle.std.proofs.Common.{◌≡◌, true, List, [], ◌∷◌, sym, subst}
use Rattle.std.proofs.lemmas.Bool.{false≢true, or_right}
use Rattle.clr_rows.specs.declared.cells.CellId.{CellId}
use Rattle.clr_rows.specs.Contents.{Content, row_at}
use Rattle.clr_rules.specs.Needs.{BreaksNoMore, View}
use Rattle.clr_workspaces.specs.Marks.{Name}
use Rattle.clr_needs.specs.Settings.{AreAmong}
use Rattle.clr_steps.specs.declared.commands.Command.{Command}
use Rattle.clr_steps.specs.declared.commands.Command.TheVariants as command
use Rattle.clr_steps.specs.Offices.{Office}
use Rattle.clr_steps.specs.Quiet.{is_member, is_of_member, root_content}
use Rattle.clr_steps.specs.Refusals.{name_in}
use Rattle.clr_clearance.specs.Invariants.{Invariant}
use Rattle.clr_clearance.specs.MergeSets.{AreMergeable, rows_with, setting_of}
use Rattle.clr_clearance.specs.Safety.{IsMergeOf}
use Rattle.clr_clearance.proofs.MemberLemmas.{part_with}
use Rattle.clr_clearance.proofs.SafeLemmas.{quiet_list_law}
use Rattle.clr_clearance.proofs.StaticLemmas.{held_after, of_root}
use Rattle.clr_ordered_needs.proofs.CoverLaws.{covered_breaks_no_more}
use Rattle.clr_ordered_clearance.specs.Laws.{CoveredInTurnLaw, RootHeldInTurnLaw, SafeInTurnLaw}
use Rattle.clr_ordered_clearance.specs.MergeSets.{HaveComeInTurn, MembersBreakNoMoreInTurn, OrderedMergeSet, goes_before}
use Rattle.clr_ordered_clearance.specs.Safety.{IsSafeInTurnAt}
use Rattle.clr_ordered_clearance.specs.Turns.{IsTurnOf}
use Rattle.clr_ordered_clearance.proofs.AnswersInTurn.{answer_free, answer_safe, refreshed_rows}
use Rattle.clr_ordered_clearance.proofs.NumberLemmas.{number_in_turn}
use Rattle.clr_ordered_clearance.proofs.TurnLemmas.{joins, merged_have_come}

pub covered_in_turn : CoveredInTurnLaw
covered_in_turn o ordered entries covers =
    covered_breaks_no_more (goes_before ordered) (setting_of o ordered.merge_set) entries covers.mergeable.apart
    (((number_in_turn o ordered).covered entries).1 covers.covered)

-- members that have come in turn break no more than the root
no_more_than_root : (o : Office) (ordered : OrderedMergeSet) → MembersBreakNoMoreInTurn o ordered → (names : List Name)
    → AreAmong (setting_of o ordered.merge_set) names ordered.merge_set.members → HaveComeInTurn o ordered names
    → BreaksNoMore o.book (row_at (root_content o ordered.merge_set)) (rows_with o ordered.merge_set names)
no_more_than_root o ordered no_more names part come =
    of_root o ordered.merge_set (rows_with o ordered.merge_set names) (no_more [] names (λ n h. absurd (false≢true h)) part come)

pub held_in_turn : RootHeldInTurnLaw
held_in_turn o ordered no_more holds names part come =
    held_after o ordered.merge_set (rows_with o ordered.merge_set names) (no_more_than_root o ordered no_more names part come) holds

-- an office that keeps the invariant, where the merged members have come in turn -----------------------------------

module _ (first : Office) (ordered : OrderedMergeSet) (mergeable : AreMergeable first ordered.merge_set) (no_more : MembersBreakNoMoreInTurn first ordered)
    (names : List Name) (now : Office) (inv : Invariant first ordered.merge_set names now) (come : HaveComeInTurn first ordered names) where
  -- rows that members give who have come in turn
  is_merge_of : (others : List Name) (content : Content) → AreAmong (setting_of first ordered.merge_set) others ordered.merge_set.members
      → HaveComeInTurn first ordered others → ((cell : CellId) → row_at content cell ≡ rows_with first ordered.merge_set others cell)
      → IsMergeOf first ordered.merge_set others content
  is_merge_of others content part come_too rows = record {
    rows = rows;
    no_more = than_root;
    holds = held_after first ordered.merge_set (row_at content) than_root;
  }
    where
      than_root : BreaksNoMore first.book (row_at (root_content first ordered.merge_set)) (row_at content)
      than_root = subst (λ (view : View). BreaksNoMore first.book (row_at (root_content first ordered.merge_set)) view) (λ i cell. sym (rows cell) i)
          (no_more_than_root first ordered no_more others part come_too)

  member_named : (c : Command) → is_of_member ordered.merge_set c ≡ true → is_member ordered.merge_set (name_in c) ≡ true
  member_named (command.Merge name remove) member = member
  member_named (command.Refresh name) member = member
  member_named _ member = absurd (false≢true member)

  -- the rows with a member whose turn it is break no more
  no_more_with : (name : Name) → is_member ordered.merge_set name ≡ true → IsTurnOf ordered names name
      → BreaksNoMore first.book (rows_with first ordered.merge_set names) (rows_with first ordered.merge_set (name ∷ names))
  no_more_with name member turn =
      no_more names (name ∷ names) (λ n h. or_right _ _ h) (part_with first ordered.merge_set mergeable names now inv name member)
      (joins ordered first names name come turn)

  pub safe_at : IsSafeInTurnAt first ordered names now
  safe_at = record {
    book = inv.book;
    root = is_merge_of names (root_content now ordered.merge_set) inv.part come inv.rows;
    answers = λ c member turn. answer_safe first ordered.merge_set mergeable names now inv c member
        (no_more_with (name_in c) (member_named c member) turn);
    no_conflict = λ c member. answer_free first ordered.merge_set mergeable names now inv c member;
    refreshed_rows = λ name w member done found. refreshed_rows first ordered.merge_set mergeable names now inv name member w done found;
    refreshes = λ name w member turn done found. is_merge_of (name ∷ names) w.current
        (part_with first ordered.merge_set mergeable names now inv name member) (joins ordered first names name come turn)
        (refreshed_rows first ordered.merge_set mergeable names now inv name member w done found);
  }

pub safe_in_turn : SafeInTurnLaw
safe_in_turn o ordered entries covers commands lost quiet come =
    safe_at o ordered covers.mergeable (covered_in_turn o ordered entries covers) _ _
    (quiet_list_law o ordered.merge_set commands lost covers.mergeable quiet) (merged_have_come ordered o commands lost come)
