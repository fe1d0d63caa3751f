-- Names that are gone through in their order, each taken where it is clearable with those taken before it.
use Rattle.std.specs.Prelude.{◌≡◌, ℕ, Bool, false, List, [], ◌∷◌, ◌++◌, Option, None, Some, filter, is_none, map, slice_get, take}
use Rattle.clr_workspaces.specs.Marks.{Name}
use Rattle.clr_steps.specs.Offices.{Office}
use Rattle.clr_steps.specs.Quiet.{MergeSet}
use Rattle.clr_merge_sets.specs.MergeSetNames.{merge_set}
use Rattle.clr_merge_sets.specs.declared.plans.Plan.{Plan}
use Rattle.clr_merge_sets.specs.Plans.{is_cleared, is_out_of_memory}
use Rattle.clr_choices.specs.Clearable.{AreClearable, IsPlanOf}

-- a name that is tried, those taken before it, and the plan for which it is left, if it is
pub record Trial : Type 0 where
  pub before : List Name
  pub name : Name
  pub refusal : Option Plan

abbrev pub is_taken : Trial → Bool
is_taken t = is_none t.refusal

-- the members that are tried with a name: those taken before it, and then the name
abbrev pub members_tried : Trial → List Name
members_tried t = t.before ++ t.name ∷ []

-- the names of the trials that are taken
abbrev pub taken_in : List Trial → List Name
taken_in trials = map (λ t. t.name) (filter is_taken trials)

-- a plan of members that isn't cleared, with what it promises, for which memory was found
pub record IsRefusal (o : Office) (s : MergeSet) (p : Plan) : Type 0 where
  pub planned : IsPlanOf o s p
  pub uncleared : is_cleared p ≡ false
  pub found : is_out_of_memory p ≡ false

-- members are clearable, or there is a plan of them that isn't cleared
abbrev pub IsTold : Office → MergeSet → Option Plan → Type 0
IsTold o s None = AreClearable o s
IsTold o s (Some p) = IsRefusal o s p

-- the trial at a position: it is told of those taken at earlier ones and its name
pub record IsTrialAt (o : Office) (root : Name) (trials : List Trial) (at : ℕ) (t : Trial) : Type 0 where
  pub before : t.before ≡ taken_in (take at trials)
  pub told : IsTold o (merge_set root (members_tried t)) t.refusal

-- names are tried in their order
pub record AreTrials (o : Office) (root : Name) (tried : List Name) (trials : List Trial) : Type 0 where
  pub names : map (λ t. t.name) trials ≡ tried
  pub each : (at : ℕ) (t : Trial) → slice_get trials at ≡ Some t → IsTrialAt o root trials at t
