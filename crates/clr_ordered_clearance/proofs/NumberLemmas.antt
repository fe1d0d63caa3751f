-- Members by name and by position are covered alike, and where none goes before another, as in every order.
use Rattle.std.proofs.Common.{◌≡◌, ℕ, false, List, sym, refl, subst, slice_get, Option, Some, None}
use Rattle.std.specs.Prelude.{◌↔◌}
use Rattle.std.proofs.lemmas.Bool.{false≢true}
use Rattle.clr_workspaces.specs.Marks.{Name}
use Rattle.clr_needs.specs.Covers.{Entry}
use Rattle.clr_needs.specs.Covers as unordered
use Rattle.clr_needs.specs.Settings.{Setting}
use Rattle.clr_steps.specs.Offices.{Office}
use Rattle.clr_steps.specs.Quiet.{MergeSet}
use Rattle.clr_clearance.specs.MergeSets.{Covers, setting_by_position, setting_of}
use Rattle.clr_clearance.proofs.StaticLemmas.{numbered_is}
use Rattle.clr_ordered_needs.specs.Covers.{AreCovered, IsUncoveredNeed}
use Rattle.clr_ordered_needs.specs.Laws.{PositionsSayTheSame}
use Rattle.clr_ordered_needs.specs.Positions.{goes_before_if_any}
use Rattle.clr_ordered_needs.specs.Turns.{Order, no_order}
use Rattle.clr_ordered_needs.proofs.EmptyOrder.{no_order_is_every_order}
use Rattle.clr_ordered_needs.proofs.OrderedPositions.{positions_say_the_same}
use Rattle.clr_ordered_clearance.specs.Laws.{EveryOrderLaw, NumberInTurnLaw, without_order}
use Rattle.clr_ordered_clearance.specs.MergeSets.{CoversInTurn, goes_before, position_goes_before}

pub number_in_turn : NumberInTurnLaw
number_in_turn o ordered =
    let law : PositionsSayTheSame (goes_before ordered) (setting_of o ordered.merge_set) =
    positions_say_the_same (goes_before ordered) (setting_of o ordered.merge_set) in
    record {
      covered = λ entries. subst (λ (d : Setting ℕ). AreCovered (goes_before ordered) (setting_of o ordered.merge_set) entries
          ↔ AreCovered (position_goes_before ordered) d entries) (sym (numbered_is o ordered.merge_set)) (law.covered entries);
      uncovered = λ n. subst (λ (d : Setting ℕ). IsUncoveredNeed (goes_before ordered) (setting_of o ordered.merge_set) n
          ↔ IsUncoveredNeed (position_goes_before ordered) d n) (sym (numbered_is o ordered.merge_set)) (law.uncovered n);
    }

module _ (o : Office) (merge_set : MergeSet) where
  none_goes : (m n : Option Name) → goes_before_if_any (goes_before (without_order merge_set)) m n ≡ false
  none_goes None n = refl
  none_goes (Some m) None = refl
  none_goes (Some m) (Some n) = refl

  pub no_order_is : position_goes_before (without_order merge_set) ≡ no_order
  no_order_is = λ i j k. none_goes (slice_get merge_set.members j) (slice_get merge_set.members k) i

  pub alike : (entries : List Entry) → AreCovered (position_goes_before (without_order merge_set)) (setting_by_position o merge_set) entries
      ↔ unordered.AreCovered (setting_by_position o merge_set) entries
  alike entries = subst (λ (before : Order ℕ). AreCovered before (setting_by_position o merge_set) entries
      ↔ unordered.AreCovered (setting_by_position o merge_set) entries) (sym no_order_is)
      ((no_order_is_every_order (setting_by_position o merge_set)).covered entries)

  pub covers_alike : (entries : List Entry) → CoversInTurn o (without_order merge_set) entries ↔ Covers o merge_set entries
  covers_alike entries = (
    λ covers. record { mergeable = covers.mergeable; covered = (alike entries).0 covers.covered },
    λ covers. record { mergeable = covers.mergeable; covered = (alike entries).1 covers.covered },
  )

pub every_order : EveryOrderLaw
every_order o merge_set = record {
  covers = covers_alike o merge_set;
  in_turn = λ commands lost at name remove e member m goes. absurd (false≢true goes);
}
