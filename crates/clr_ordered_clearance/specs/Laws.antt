-- What ordered merge sets promise, by definitions alone.
use Rattle.std.specs.Prelude.{◌≡◌, ◌↔◌, ℕ, Bool, true, false, List, [], ◌∷◌, ◌++◌, Option, length, map, take}
use Rattle.clr_workspaces.specs.Marks.{Name}
use Rattle.clr_needs.specs.declared.needs.Need.{Need}
use Rattle.clr_needs.specs.Covers.{AreBlockers, Entry}
use Rattle.clr_needs.specs.Settings.{AreAmong, Lived}
use Rattle.clr_steps.specs.declared.commands.Command.{Command}
use Rattle.clr_steps.specs.declared.commands.Reply.{Reply}
use Rattle.clr_steps.specs.declared.commands.Reply.TheVariants.{Done}
use Rattle.clr_steps.specs.Names.{same_name}
use Rattle.clr_steps.specs.Offices.{Office}
use Rattle.clr_steps.specs.Quiet.{MergeSet, is_quiet}
use Rattle.clr_steps.specs.Steps.{AreAnswers, IsAnswer, lost_in, run}
use Rattle.clr_clearance.specs.MergeSets.{AreMergeable, Covers, RootHolds, setting_by_position, setting_of}
use Rattle.clr_clearance.specs.Plans.{is_order_refused, merges, standing}
use Rattle.clr_clearance.specs.Runs.{AreQuiet, merged_in}
use Rattle.clr_ordered_needs.specs.Covers.{AreCovered, IsUncovered, IsUncoveredNeed}
use Rattle.clr_ordered_needs.specs.States.{IsBrokenWith, IsOpen}
use Rattle.clr_ordered_needs.specs.Turns.{ListsAll, is_earlier}
use Rattle.clr_ordered_clearance.specs.Headlines.{HeadlineInTurn}
use Rattle.clr_ordered_clearance.specs.MergeSets.{CoversInTurn, KeepsRulesInTurn, ListsInTurn, MembersBreakNoMoreInTurn, OrderedMergeSet}
use Rattle.clr_ordered_clearance.specs.MergeSets.{goes_before, position_goes_before}
use Rattle.clr_ordered_clearance.specs.Runs.{IsClearedRunInTurn, IsDue, IsQuietStartInTurn}
use Rattle.clr_ordered_clearance.specs.Safety.{SafeInTurn}
use Rattle.clr_ordered_clearance.specs.Turns.{MergesComeInTurn}

-- covers -----------------------------------------------------------------------------------------------

-- covered members that have come in turn break no more than fewer of them
abbrev pub CoveredInTurnLaw : Type 0
CoveredInTurnLaw = (o : Office) (ordered : OrderedMergeSet) (entries : List Entry) → CoversInTurn o ordered entries → MembersBreakNoMoreInTurn o ordered

-- where every rule holds in the root, every rule holds in the rows that members give who have come in turn
abbrev pub RootHeldInTurnLaw : Type 0
RootHeldInTurnLaw = (o : Office) (ordered : OrderedMergeSet) → MembersBreakNoMoreInTurn o ordered → RootHolds o ordered.merge_set → KeepsRulesInTurn o ordered

-- members by name and by position are covered and uncovered alike
pub record NamesAreCoveredAlike (o : Office) (ordered : OrderedMergeSet) : Type 0 where
  pub covered : (entries : List Entry) → AreCovered (goes_before ordered) (setting_of o ordered.merge_set) entries
      ↔ AreCovered (position_goes_before ordered) (setting_by_position o ordered.merge_set) entries
  pub uncovered : (n : Need) → IsUncoveredNeed (goes_before ordered) (setting_of o ordered.merge_set) n
      ↔ IsUncoveredNeed (position_goes_before ordered) (setting_by_position o ordered.merge_set) n

abbrev pub NumberInTurnLaw : Type 0
NumberInTurnLaw = (o : Office) (ordered : OrderedMergeSet) → NamesAreCoveredAlike o ordered

-- a merge set in which no member goes before another
abbrev pub without_order : MergeSet → OrderedMergeSet
without_order merge_set = record { merge_set = merge_set; before = [] }

-- there entries cover exactly where they cover in every order, and each merge comes in turn
pub record IsEveryOrder (o : Office) (merge_set : MergeSet) : Type 0 where
  pub covers : (entries : List Entry) → CoversInTurn o (without_order merge_set) entries ↔ Covers o merge_set entries
  pub in_turn : (commands : List Command) (lost : ℕ → Bool) → MergesComeInTurn o (without_order merge_set) commands lost

abbrev pub EveryOrderLaw : Type 0
EveryOrderLaw = (o : Office) (merge_set : MergeSet) → IsEveryOrder o merge_set

-- every quiet list in which merges come in turn --------------------------------------------------------------

abbrev pub SafeInTurnLaw : Type 0
SafeInTurnLaw = (o : Office) (ordered : OrderedMergeSet) (entries : List Entry) → CoversInTurn o ordered entries → SafeInTurn o ordered

-- the headline holds where entries cover under the order
abbrev pub HeadlineInTurnLaw : Type 0
HeadlineInTurnLaw = (o : Office) (ordered : OrderedMergeSet) (entries : List Entry) → CoversInTurn o ordered entries → HeadlineInTurn o ordered

-- every command finds memory
abbrev pub none_lost : ℕ → Bool
none_lost at = false

-- the merges of members as a list has them are quiet, come in turn, and are all done
pub record CanBeMergedAs (o : Office) (ordered : OrderedMergeSet) (names : List Name) : Type 0 where
  pub quiet : AreQuiet o ordered.merge_set (merges names) none_lost
  pub in_turn : MergesComeInTurn o ordered (merges names) none_lost
  pub are_done : (run o (merges names) none_lost).replies ≡ map (λ name. Done) names

-- the members can be merged as any list of them has them in which who goes before another stands before it
abbrev pub ListedMergesLaw : Type 0
ListedMergesLaw = (o : Office) (ordered : OrderedMergeSet) (entries : List Entry) (names : List Name)
    → CoversInTurn o ordered entries
    → ListsInTurn o ordered names
    → CanBeMergedAs o ordered names

-- and so none of their merges is refused in the order of this list
abbrev pub UnrefusedLaw : Type 0
UnrefusedLaw = (o : Office) (ordered : OrderedMergeSet) (names : List Name) → CanBeMergedAs o ordered names → is_order_refused o names ≡ false

-- the members that stand, with the same pairs
abbrev pub standing_in_turn : Office → OrderedMergeSet → OrderedMergeSet
standing_in_turn now ordered = record ordered { merge_set = standing now ordered.merge_set }

-- after quiet commands in which merges come in turn some entries cover the members that stand, under the same pairs
abbrev pub LastingInTurnLaw : Type 0
LastingInTurnLaw = (o : Office) (ordered : OrderedMergeSet) (entries : List Entry) (commands : List Command) (lost : ℕ → Bool)
    → CoversInTurn o ordered entries
    → AreQuiet o ordered.merge_set commands lost
    → MergesComeInTurn o ordered commands lost
    → let now = (run o commands lost).office in (more : List Entry) × CoversInTurn now (standing_in_turn now ordered) more

-- the first commands of a list, up to one that isn't quiet or isn't due, make a cleared run
abbrev pub ClearedRunInTurnLaw : Type 0
ClearedRunInTurnLaw = (o : Office) (ordered : OrderedMergeSet) (entries : List Entry) (commands : List Command) (replies : List Reply) (left : Office)
    (stopped : Option ℕ)
    → CoversInTurn o ordered entries
    → IsQuietStartInTurn o ordered commands replies left stopped
    → IsClearedRunInTurn o ordered (take (length replies) commands) replies left

-- a list of quiet commands in which merges come in turn, with the replies to them, and one more that is quiet and due, is again such a list
abbrev pub OneMoreInTurnLaw : Type 0
OneMoreInTurnLaw = (o : Office) (ordered : OrderedMergeSet) (commands : List Command) (replies : List Reply) (now : Office) (c : Command) (reply : Reply)
    (left : Office)
    → AreAnswers o commands replies now
    → AreQuiet o ordered.merge_set commands (lost_in replies)
    → MergesComeInTurn o ordered commands (lost_in replies)
    → is_quiet now ordered.merge_set c ≡ true
    → IsDue ordered (merged_in ordered.merge_set commands replies) c
    → IsAnswer now c reply left
    → AreAnswers o (commands ++ c ∷ []) (replies ++ reply ∷ []) left
    × AreQuiet o ordered.merge_set (commands ++ c ∷ []) (lost_in (replies ++ reply ∷ []))
    × MergesComeInTurn o ordered (commands ++ c ∷ []) (lost_in (replies ++ reply ∷ []))

-- orders that are refused --------------------------------------------------------------------------------------

-- an order of merges of members, some first of which break an open need, is refused
abbrev pub BrokenOrderLaw : Type 0
BrokenOrderLaw = (o : Office) (merge_set : MergeSet) (names : List Name) (k : ℕ) (n : Need) (a : Lived Name) (b : Option (Lived Name))
    → AreMergeable o merge_set
    → AreAmong (setting_of o merge_set) names merge_set.members
    → IsOpen (setting_of o merge_set) n a b
    → IsBrokenWith (setting_of o merge_set) n a b (take k names)
    → is_order_refused o names ≡ true

-- an order of all members in which nothing covers a touched need, whose blockers can be listed, is refused
abbrev pub UncoveredOrderLaw : Type 0
UncoveredOrderLaw = (o : Office) (merge_set : MergeSet) (names blockers : List Name) (n : Need) (a : Lived Name) (b : Option (Lived Name))
    → AreMergeable o merge_set
    → ListsAll (setting_of o merge_set) names
    → AreBlockers (setting_of o merge_set) n a b blockers
    → IsUncovered (is_earlier same_name names) (setting_of o merge_set) n a b
    → is_order_refused o names ≡ true
