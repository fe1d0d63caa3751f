-- What is printed of the features of a plan.
use Rattle.std.specs.Prelude.{◌≡◌, ℕ, List, ◌∷◌, Option}
use Rattle.clr_workspaces.specs.Marks.{Name}
use Rattle.clr_steps.specs.Offices.{Office}
use Rattle.clr_steps.specs.Quiet.{MergeSet}
use Rattle.clr_merge_sets.specs.declared.plans.Plan.{Plan}
use Rattle.clr_plan_features.specs.PlanFeatures.{AreFeatures}
use Rattle.clr_office_texts.specs.Drafts.{Opened}
use Rattle.clr_desk_prints.specs.Members.{set_asked}
use Rattle.clr_desk_prints.specs.NameHints.{IsHinted}
use Rattle.clr_desk_prints.specs.Printing.{IsFoundPlan, IsPrintoutIn, PrintoutOrFault, plan_text_print}
use Rattle.clr_desk_prints.specs.Systems.{IsInSystem}

-- the features of the plan of a merge set, in a system of coordinates if one is given
abbrev pub AreFeaturesOfSet : Option ℕ → Office → MergeSet → PrintoutOrFault → Type 0
AreFeaturesOfSet system o s print =
    (p : Plan) × (text : List ℕ) × IsFoundPlan o s p × AreFeatures o s p system text × (print ≡ plan_text_print text p)

-- of the members that names ask for
abbrev pub IsFeaturesPrint : Name → List Name → Option ℕ → Office → PrintoutOrFault → Type 0
IsFeaturesPrint root names system o = AreFeaturesOfSet system o (set_asked o root names)

-- and behind the notes hints at names that no workspace has
abbrev pub AreHintedFeatures : Name → List Name → Option ℕ → Office → PrintoutOrFault → Type 0
AreHintedFeatures root names system = IsHinted (IsFeaturesPrint root names system) (root ∷ names)

-- what is printed of an office text and the text of a system, if one is given
abbrev pub IsFeaturesAnswer : Name → List Name → Option (List ℕ) → Opened → PrintoutOrFault → Type 0
IsFeaturesAnswer root names system given = IsInSystem (λ code. IsPrintoutIn (AreHintedFeatures root names code) given) system
