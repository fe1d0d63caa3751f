-- What is planned for a merge set whose members are to be merged in the order in which they are named. By position, the one stands before the other where it
-- is less.
use Rattle.std.specs.Prelude.{◌≡◌, ◌↔◌, ℕ, suc, ◌<◌, nat_lt, true, false, List, ◌++◌, Option, Some, None, length, take, drop}
use Rattle.std.specs.List.{range_with_len}
use Rattle.std.specs.declared.cmp.Ordering.TheVariants.{Less}
use Rattle.clr_rows.specs.declared.cells.CellId.{CellId}
use Rattle.clr_needs.specs.declared.faults.SceneFault.TheVariants as scene
use Rattle.clr_needs.specs.declared.needs.Need.{Need}
use Rattle.clr_needs.specs.Covers.{IsBlocker}
use Rattle.clr_needs.specs.Members.{AreApart, IsSceneFault}
use Rattle.clr_needs.specs.Needs.{IsPossible, IsTouchedBy}
use Rattle.clr_needs.specs.Orders.{need_cmp}
use Rattle.clr_needs.specs.Settings.{Setting, Lived}
use Rattle.clr_steps.specs.Offices.{Office}
use Rattle.clr_steps.specs.Quiet.{MergeSet}
use Rattle.clr_clearance.specs.declared.verdicts.Verdict.{Verdict}
use Rattle.clr_clearance.specs.declared.verdicts.Verdict.TheVariants as verdict
use Rattle.clr_clearance.specs.MergeSets.{AreMergeable, change_sets, setting_by_position}
use Rattle.clr_clearance.specs.Plans.{IsUnfit, is_order_refused, members_at}
use Rattle.clr_clearance.specs.Verdicts.{first_conflict, member_fault, names_fault}
use Rattle.clr_ordered_needs.specs.Covers.{AreCovered, EachHasCover, HasCover, IsUncovered}
use Rattle.clr_ordered_needs.specs.States.{IsBrokenWith}
use Rattle.clr_ordered_clearance.specs.MergeSets.{AreListedInTurn, OrderedMergeSet, position_goes_before}
use Rattle.clr_ordered_clearance.specs.VerdictLaws.{IsClearedInTurn}
use Rattle.clr_ordered_clearance.specs.Verdicts.{IsVerdictInTurn}
use Rattle.clr_cert.specs.declared.certificates.Certificate.{Certificate}
use Rattle.clr_merge_sets.specs.Certificates.{entries_in, merge_set_of, ordered_merge_set_of}
use Rattle.clr_merge_sets.specs.Plans.{is_cleared, is_out_of_memory}
use Rattle.clr_merge_sets.specs.declared.plans.Plan.{Plan}
use Rattle.clr_merge_sets.specs.declared.plans.Plan.TheVariants as plan

-- an ordered merge set without the pair at a position
abbrev pub without_pair : OrderedMergeSet → ℕ → OrderedMergeSet
without_pair ordered at = record ordered { before = take at ordered.before ++ drop (suc at) ordered.before }

-- the certificate names the members as they are given, and covers them under pairs that are listed in turn, of which none can be left out: without it some
-- touched need has no cover at all
pub record IsClearanceInOrder (o : Office) (s : MergeSet) (c : Certificate) : Type 0 where
  pub merge_set : merge_set_of c ≡ s
  pub free : member_fault o s ≡ None
  pub apart : AreApart (change_sets o s)
  pub listed : AreListedInTurn (ordered_merge_set_of c)
  pub covered : AreCovered (position_goes_before (ordered_merge_set_of c)) (setting_by_position o s) (entries_in c.entries)
  pub needed : (at : ℕ) → at < length c.before → ¬ (EachHasCover (position_goes_before (without_pair (ordered_merge_set_of c) at)) (setting_by_position o s))

-- a touched need that nothing covers in the order of the list, where something covers each lesser one
pub record IsFirstOpenInOrder (c : Setting ℕ) (n : Need) (a : Lived ℕ) (b : Option (Lived ℕ)) : Type 0 where
  pub uncovered : IsUncovered nat_lt c n a b
  pub first : (m : Need) (d : Lived ℕ) (e : Option (Lived ℕ)) → need_cmp m n ≡ Less → IsPossible c m d e → IsTouchedBy c m d e → HasCover nat_lt c m d e

-- so many first members break the need, and the last of them is one of its blockers
pub record IsBrokenAfter (c : Setting ℕ) (n : Need) (a : Lived ℕ) (b : Option (Lived ℕ)) (count : ℕ) : Type 0 where
  pub last : ℕ
  pub ends : count ≡ suc last
  pub blocks : IsBlocker c n a b last
  pub broken : IsBrokenWith c n a b (range_with_len 0 count)

-- a member in conflict; the first two that change a cell; or the first members of the list, up to the last blocker of the least need that nothing covers
pub data IsBlockedInOrder (o : Office) (s : MergeSet) (order : List ℕ) (cause : Verdict) : Type 0 where
  of_conflict : (at : ℕ) (cell : CellId) (count : ℕ) → names_fault o s ≡ None → first_conflict o 0 s.members ≡ Some (verdict.Conflict at cell count)
      → order ≡ range_with_len at 1 → cause ≡ verdict.Conflict at cell count → IsBlockedInOrder o s order cause
  of_shared : (cell : CellId) (i j : ℕ) → member_fault o s ≡ None → IsSceneFault (change_sets o s) (scene.SharedCell cell i j)
      → order ≡ range_with_len i 1 ++ range_with_len j 1 → cause ≡ verdict.SharedCell cell i j → IsBlockedInOrder o s order cause
  of_need : (n : Need) (a : Lived ℕ) (b : Option (Lived ℕ)) (count : ℕ) → member_fault o s ≡ None → AreApart (change_sets o s)
      → IsFirstOpenInOrder (setting_by_position o s) n a b → IsBrokenAfter (setting_by_position o s) n a b count
      → order ≡ range_with_len 0 count → cause ≡ verdict.Uncovered n → IsBlockedInOrder o s order cause

-- the plan of a merge set in the order of its members; want of memory may come in its place where no test of names fails
abbrev pub IsPlanInOrder : Office → MergeSet → Plan → Type 0
IsPlanInOrder o s (plan.Unfit v) = IsUnfit o s v
IsPlanInOrder o s (plan.Blocked order cause) = IsBlockedInOrder o s order.items cause
IsPlanInOrder o s (plan.Cleared c) = IsClearanceInOrder o s c
IsPlanInOrder o s plan.OutOfMemory = names_fault o s ≡ None

-- promises -----------------------------------------------------------------------------------------------

-- the verdict on the certificate is clear, with all that this promises
pub record IsProofInOrder (o : Office) (s : MergeSet) (c : Certificate) : Type 0 where
  pub names : merge_set_of c ≡ s
  pub clear : IsVerdictInTurn o (ordered_merge_set_of c) (entries_in c.entries) verdict.Clear
  pub cleared : IsClearedInTurn o (ordered_merge_set_of c)

-- of the merges of the members in the order of a blocked plan, one meets a conflict or breaks a rule
abbrev pub PromisesInOrder : Office → MergeSet → Plan → Type 0
PromisesInOrder o s (plan.Cleared c) = IsProofInOrder o s c
PromisesInOrder o s (plan.Blocked order cause) = is_order_refused o (members_at s order.items) ≡ true
PromisesInOrder o s (plan.Unfit v) = Unit {0}
PromisesInOrder o s plan.OutOfMemory = Unit {0}

-- where the members are mergeable and memory was found, the plan is cleared exactly where none of their merges is refused in the order of the list
abbrev pub IsExactInOrder : Office → MergeSet → Plan → Type 0
IsExactInOrder o s p = AreMergeable o s → is_out_of_memory p ≡ false → (is_cleared p ≡ true) ↔ (is_order_refused o s.members ≡ false)
