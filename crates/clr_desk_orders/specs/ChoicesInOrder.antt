-- Names that are gone through in their order, each taken where it can be merged next behind those taken before it.
use Rattle.std.specs.Prelude.{◌≡◌, ℕ, true, false, not, List, [], ◌∷◌, ◌++◌, Option, None, Some, map, slice_get, take}
use Rattle.std.specs.List.{flat_map, list_any}
use Rattle.clr_workspaces.specs.Marks.{Name}
use Rattle.clr_steps.specs.Offices.{Office}
use Rattle.clr_steps.specs.Quiet.{MergeSet}
use Rattle.clr_cert.specs.declared.certificates.Certificate.{Certificate}
use Rattle.clr_merge_sets.specs.MergeSetNames.{merge_set}
use Rattle.clr_merge_sets.specs.Plans.{is_cleared, is_out_of_memory}
use Rattle.clr_merge_sets.specs.declared.plans.Plan.{Plan}
use Rattle.clr_merge_sets.specs.declared.plans.Plan.TheVariants as plan
use Rattle.clr_choices.specs.declared.choices.Choice.{Choice}
use Rattle.clr_choices.specs.ChoiceLines.{left_text, refusal_text}
use Rattle.clr_choices.specs.Trials.{Trial, is_taken, members_tried, taken_in}
use Rattle.clr_desk_prints.specs.Members.{members_or_children}
use Rattle.clr_desk_prints.specs.Printing.{PrintoutOrFault}
use Rattle.clr_choices.specs.declared.trials.TriedName.{TriedName}
use Rattle.clr_choices.specs.declared.trials.TriedName.TheVariants as tried
use Rattle.clr_desk_orders.specs.ChoicePrints.{choice_print}
use Rattle.clr_desk_orders.specs.PlanPrints.{plan_print}
use Rattle.clr_desk_orders.specs.PlansInOrder.{IsPlannedInOrder}

-- a plan of members in the order of their names that isn't cleared, with what it promises, for which memory was found
pub record IsRefusalInOrder (o : Office) (s : MergeSet) (p : Plan) : Type 0 where
  pub planned : IsPlannedInOrder o s p
  pub uncleared : is_cleared p ≡ false
  pub found : is_out_of_memory p ≡ false

-- a plan of members in the order of their names is cleared, or this one isn't
abbrev pub IsToldInOrder : Office → MergeSet → Option Plan → Type 0
IsToldInOrder o s None = (c : Certificate) × IsPlannedInOrder o s (plan.Cleared c)
IsToldInOrder o s (Some p) = IsRefusalInOrder o s p

-- the trial at a position: it is told of those taken at earlier ones and, behind them, its name
pub record IsTrialInOrder (o : Office) (root : Name) (trials : List Trial) (at : ℕ) (t : Trial) : Type 0 where
  pub before : t.before ≡ taken_in (take at trials)
  pub told : IsToldInOrder o (merge_set root (members_tried t)) t.refusal

-- names are tried in their order
pub record AreTrialsInOrder (o : Office) (root : Name) (tried_names : List Name) (trials : List Trial) : Type 0 where
  pub names : map (λ t. t.name) trials ≡ tried_names
  pub each : (at : ℕ) (t : Trial) → slice_get trials at ≡ Some t → IsTrialInOrder o root trials at t

-- the choice that trials of names make: those taken, their certificate, the lines of the others, and whether there are any
pub record IsMadeInOrder (o : Office) (root : Name) (trials : List Trial) (choice : Choice) : Type 0 where
  pub taken : choice.taken.items ≡ taken_in trials
  pub planned : IsPlannedInOrder o (merge_set root choice.taken.items) (plan.Cleared choice.certificate)
  pub left : choice.left.items ≡ flat_map (left_text o.schema root) trials
  pub any_left : choice.is_any_left ≡ list_any (λ t. not (is_taken t)) trials

-- names are tried in their order, and make this choice
abbrev pub IsChosenInOrder : Office → Name → List Name → Choice → Type 0
IsChosenInOrder o root names choice = (trials : List Trial) × AreTrialsInOrder o root names trials × IsMadeInOrder o root trials choice

-- members, of which the last is a name that is tried: their certificate, or the lines of a plan that isn't cleared
abbrev pub IsTriedInOrder : Office → Name → List Name → Name → TriedName → Type 0
IsTriedInOrder o root members name (tried.Taken c) = IsPlannedInOrder o (merge_set root members) (plan.Cleared c)
IsTriedInOrder o root members name (tried.Left lines) = (p : Plan) × IsRefusalInOrder o (merge_set root members) p
    × (lines.items ≡ refusal_text o.schema root members name p)

-- the name is taken with the certificate, or its lines stand behind those of the others that are left
abbrev pub IsAddedTo : Choice → Name → TriedName → Choice → Type 0
IsAddedTo old name (tried.Taken c) new =
    (new.taken.items ≡ old.taken.items ++ name ∷ []) × (new.certificate ≡ c) × (new.left.items ≡ old.left.items) × (new.is_any_left ≡ old.is_any_left)
IsAddedTo old name (tried.Left lines) new =
    (new.taken.items ≡ old.taken.items) × (new.certificate ≡ old.certificate) × (new.left.items ≡ old.left.items ++ lines.items) × (new.is_any_left ≡ true)

-- names are tried in their order, and the plan of those taken in their order is cleared by this certificate; or not even that of nobody is cleared
pub data IsChoiceInOrderPrint (root : Name) (names : List Name) (o : Office) (print : PrintoutOrFault) : Type 0 where
  of_trials : (trials : List Trial) (c : Certificate) → AreTrialsInOrder o root (members_or_children o root names) trials
      → IsPlannedInOrder o (merge_set root (taken_in trials)) (plan.Cleared c)
      → print ≡ choice_print o root trials c → IsChoiceInOrderPrint root names o print
  of_nobody : (p : Plan) → IsPlannedInOrder o (merge_set root []) p → is_cleared p ≡ false → print ≡ plan_print o (merge_set root []) p
      → IsChoiceInOrderPrint root names o print
