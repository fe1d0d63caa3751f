-- What is printed of names that are tried one after another.
use Rattle.std.proofs.Common.{Result, Ok, Err, codes, ◌≡◌, false, List, [], ◌++◌, subst}
use Rattle.std.specs.Prelude.{IfOk}
use Rattle.clr_workspaces.specs.Marks.{Name}
use Rattle.clr_steps.specs.Offices.{Office}
use Rattle.clr_cert.specs.declared.certificates.Certificate.{Certificate}
use Rattle.clr_cert.specs.Texts.{certificate_text}
use Rattle.clr_merge_sets.specs.MergeSetNames.{merge_set}
use Rattle.clr_merge_sets.specs.declared.plans.Plan.TheVariants as plan
use Rattle.clr_choices.specs.Clearable.{IsPlanOf}
use Rattle.clr_choices.specs.Progress.{IsChosen}
use Rattle.clr_choices.specs.declared.choices.Choice.{Choice}
use Rattle.clr_desk_plans.specs.Choices.{IsChoicePrint, of_trials}
use Rattle.clr_desk_orders.specs.ChoicePrints.{names_line}
use Rattle.clr_desk_prints.specs.Members.{members_or_children}
use Rattle.clr_desk_prints.specs.Printing.{printed, printout_of}
use Rattle.clr_desk_prints.specs.declared.prints.Print.{Print}

-- what is printed of a choice among the members that names ask for
pub choice_printed : {E : Type 0} (o : Office) (root : Name) (names : List Name) (nobody : Certificate) (choice : Choice) (result : Result Print E)
    → IsPlanOf o (merge_set root []) (plan.Cleared nobody)
    → IsChosen o root (members_or_children o root names) choice
    → IfOk result (λ p. printed p ≡ printout_of (certificate_text o.schema choice.certificate)
    (names_line (codes "kept") choice.taken.items ++ choice.left.items) choice.is_any_left false)
    → IfOk result (λ p. IsChoicePrint root names o (printed p))
choice_printed o root names nobody choice (Ok p) none (trials, are, made) is =
    of_trials nobody trials choice.certificate none are
    (subst (λ (ms : List Name). IsPlanOf o (merge_set root ms) (plan.Cleared choice.certificate)) made.taken made.planned)
    (rw (is, made.taken, made.left, made.any_left))
choice_printed o root names nobody choice (Err e) none chosen is = tt
