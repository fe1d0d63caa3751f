-- What is made of names that are tried one after another.
use Rattle.std.specs.Prelude.{◌≡◌, ◌+◌, ◌<◌, Bool, true, false, not, List, [], ◌∷◌, ◌++◌, get_or, length, take}
use Rattle.std.specs.List.{flat_map, list_any}
use Rattle.clr_workspaces.specs.Marks.{Name}
use Rattle.clr_steps.specs.Offices.{Office}
use Rattle.clr_merge_sets.specs.MergeSetNames.{merge_set}
use Rattle.clr_merge_sets.specs.declared.plans.Plan.{Plan}
use Rattle.clr_merge_sets.specs.declared.plans.Plan.TheVariants as plan
use Rattle.clr_choices.specs.declared.choices.Choice.{Choice}
use Rattle.clr_choices.specs.declared.progress.Progress.{Progress}
use Rattle.clr_choices.specs.declared.trials.TriedName.{TriedName}
use Rattle.clr_choices.specs.declared.trials.TriedName.TheVariants as tried
use Rattle.clr_choices.specs.ChoiceLines.{left_text, refusal_text}
use Rattle.clr_choices.specs.Clearable.{IsPlanOf}
use Rattle.clr_choices.specs.Trials.{AreTrials, IsRefusal, Trial, is_taken, taken_in}

-- members and one more: the certificate of them all, or the lines of a plan that isn't cleared
abbrev pub IsTried : Office → Name → List Name → Name → TriedName → Type 0
IsTried o root members name (tried.Taken c) = IsPlanOf o (merge_set root members) (plan.Cleared c)
IsTried o root members name (tried.Left lines) = (p : Plan) × IsRefusal o (merge_set root members) p
    × (lines.items ≡ refusal_text o.schema root members name p)

-- the names taken so far
abbrev pub taken_so_far : Progress → List Name
taken_so_far progress = take progress.count progress.cleared.items

-- the name is the next of those that are cleared together, and is taken; or nothing changes
abbrev pub IsFollowed : Progress → Name → Bool → Progress → Type 0
IsFollowed old name true new =
    (old.count < length old.cleared.items) × (name ≡ get_or old.cleared.items old.count name) × (new ≡ record old { count = old.count + 1 })
IsFollowed old name false new = new ≡ old

-- the name is taken with the certificate, or its lines stand behind those of the others that are left
abbrev pub IsAdded : Progress → Name → TriedName → Progress → Type 0
IsAdded old name (tried.Taken c) new =
    (new.cleared.items ≡ taken_so_far old ++ name ∷ []) × (new.count ≡ length new.cleared.items) × (new.certificate ≡ c)
    × (new.left.items ≡ old.left.items) × (new.is_any_left ≡ old.is_any_left)
IsAdded old name (tried.Left lines) new =
    (new.cleared.items ≡ old.cleared.items) × (new.count ≡ old.count) × (new.certificate ≡ old.certificate)
    × (new.left.items ≡ old.left.items ++ lines.items) × (new.is_any_left ≡ true)

-- what trials of names make: those taken stand first among names that are cleared together by the certificate; the lines of the others, and whether
-- there are any
pub record AreMade (o : Office) (root : Name) (trials : List Trial) (progress : Progress) : Type 0 where
  pub taken : taken_so_far progress ≡ taken_in trials
  pub planned : IsPlanOf o (merge_set root progress.cleared.items) (plan.Cleared progress.certificate)
  pub left : progress.left.items ≡ flat_map (left_text o.schema root) trials
  pub any_left : progress.is_any_left ≡ list_any (λ t. not (is_taken t)) trials

abbrev pub IsProgress : Office → Name → List Name → Progress → Type 0
IsProgress o root names progress = (trials : List Trial) × AreTrials o root names trials × AreMade o root trials progress

-- the choice that trials of names make: those taken, their certificate, the lines of the others, and whether there are any
pub record IsChoiceOf (o : Office) (root : Name) (trials : List Trial) (choice : Choice) : Type 0 where
  pub taken : choice.taken.items ≡ taken_in trials
  pub planned : IsPlanOf o (merge_set root choice.taken.items) (plan.Cleared choice.certificate)
  pub left : choice.left.items ≡ flat_map (left_text o.schema root) trials
  pub any_left : choice.is_any_left ≡ list_any (λ t. not (is_taken t)) trials

-- names are tried in their order, and make this choice
abbrev pub IsChosen : Office → Name → List Name → Choice → Type 0
IsChosen o root names choice = (trials : List Trial) × AreTrials o root names trials × IsChoiceOf o root trials choice
