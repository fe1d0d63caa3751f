-- What is asked of two texts is answered in one way alone, and no input has two sessions, memory aside, and but for the certificates of plans in the order of
-- names.
use Rattle.std.proofs.Common.{◌≡◌, [], ◌≢◌, ◌∙◌, ℕ, Bool, true, false, ◌||◌, List, Option, Some, None, Result, Ok, Err, refl, sym, ap, subst}
use Rattle.clr_rows.specs.Names.{live_name}
use Rattle.clr_rules.specs.declared.needs.Broken.{Broken}
use Rattle.clr_steps.specs.Offices.{Office}
use Rattle.clr_steps.specs.Quiet.{MergeSet}
use Rattle.clr_cert.specs.declared.certificates.Certificate.{Certificate}
use Rattle.clr_merge_sets.specs.MergeSetNames.{merge_set}
use Rattle.clr_check.specs.Cases.{Case, case_of}
use Rattle.clr_office_texts.specs.Drafts.{Opened, opened_in}
use Rattle.clr_command_line.specs.declared.asks.Ask.{Ask}
use Rattle.clr_command_line.specs.declared.asks.Ask.TheVariants as ask
use Rattle.clr_command_line.specs.declared.asks.Orders.{Orders}
use Rattle.clr_scripts.specs.declared.faults.RecordFault.{RecordFault}
use Rattle.clr_scripts.specs.declared.steps.Step.{Step}
use Rattle.clr_scripts.specs.Scripts.{script_in_text}
use Rattle.clr_office.specs.Answers.{IsAnswerIf, IsAnswerWithin, IsPlanPrint, is_too_long}
use Rattle.clr_office.specs.Clearances.{IsMergeOutcome, IsPrintOfCase, IsVerdictOutcome}
use Rattle.clr_office.specs.OneSession.{AreAlike, FoundMemory, OneAnswerLaw, OneSessionLaw, asks_as_named, is_order_of_names, script_plans_as_named}
use Rattle.clr_office.specs.OneSession.{session_plans_as_named, some_plan_as_named, status_in}
use Rattle.clr_office_reports.specs.Outcomes.{Outcome}
use Rattle.clr_office.specs.Scripts.{ArePrinted, IsScriptPrint}
use Rattle.clr_office_reports.specs.Printing.{IsPrintIn, IsPrintOf, IsPrintWhereHeld, Printed, print_of, status_of}
use Rattle.clr_streams.specs.Separator.{around_separator}
use Rattle.clr_office.specs.Session.{IsSessionOf}
use Rattle.clr_office.proofs.OneOutcome.{AreAlikeOutcomes, AreAllAlike, alike_if_one, alike_plans, alike_script, one_check, one_merge}
use Rattle.clr_office_reports.proofs.OneOutcome.{IsOne}

-- two prints in which memory was found are alike
abbrev AreAllAlikePrints : Bool → (Printed → Type 0) → Type 0
AreAllAlikePrints as_named Is = (print other : Printed) → Is print → Is other → FoundMemory print → FoundMemory other → AreAlike as_named print other

alike_if_equal : (as_named : Bool) (value : Printed) → AreAllAlikePrints as_named (λ print. print ≡ value)
alike_if_equal as_named value print other one two found found_other = (ap status_in (one ∙ sym two), λ every. one ∙ sym two)

-- a status other than 3 says that memory was found
pub found_by_status : (refused lost : Bool) → status_of refused lost ≢ 3 → lost ≡ false
found_by_status refused true found = absurd (found refl)
found_by_status refused false found = refl

alike_outcomes : (as_named : Bool) (all other : Outcome) → AreAlikeOutcomes as_named all other → all.lost ≡ other.lost
    → AreAlike as_named (print_of all.lines all.refused all.lost) (print_of other.lines other.refused other.lost)
alike_outcomes as_named all other alike lost = (
  λ i. Ok (status_of (alike.refused i) (lost i)),
  λ every. λ i. print_of (alike.lines every i) (alike.refused i) (lost i),
)

alike_print : (as_named : Bool) (IsRight : Outcome → Type 0) → AreAllAlike as_named IsRight → AreAllAlikePrints as_named (IsPrintOf IsRight)
alike_print as_named IsRight alike print other (all, right, is) (second, right_other, is_other) found found_other =
    let first : all.lost ≡ false = found_by_status all.refused all.lost (subst FoundMemory is found) in
    let later : second.lost ≡ false = found_by_status second.refused second.lost (subst FoundMemory is_other found_other) in
    let both = alike_outcomes as_named all second (alike all second right right_other first later) (first ∙ sym later) in
    subst (λ (x : Printed). AreAlike as_named x other) (sym is)
    (subst (λ (x : Printed). AreAlike as_named (print_of all.lines all.refused all.lost) x) (sym is_other) both)

-- offices and texts --------------------------------------------------------------------------

module _ (as_named : Opened → Bool) (Is : Office → Printed → Type 0)
    (alike : (o : Office) (unheld : Option (ℕ × Broken)) → AreAllAlikePrints (as_named (Ok (o, unheld))) (Is o)) where
  alike_where_held : (o : Office) (unheld first : Option (ℕ × Broken)) → AreAllAlikePrints (as_named (Ok (o, unheld))) (IsPrintWhereHeld Is o first)
  alike_where_held o unheld (Some (position, need)) = alike_if_equal _ _
  alike_where_held o unheld None = alike o unheld

  alike_in : (meant : Opened) → AreAllAlikePrints (as_named meant) (IsPrintIn Is meant)
  alike_in (Err fault) = alike_if_equal _ _
  alike_in (Ok (o, unheld)) = alike_where_held o unheld unheld

alike_printed : (o : Office) (read : Result (List Step) (ℕ × RecordFault)) → AreAllAlikePrints (some_plan_as_named read) (ArePrinted o read)
alike_printed o (Err (number, fault)) = alike_if_equal _ _
alike_printed o (Ok steps) = alike_print _ _ (alike_script o steps)

module _ (IsRight : Office → Certificate → Outcome → Type 0) (one : (o : Office) (c : Certificate) → IsOne (IsRight o c)) where
  alike_of_case : (given : Case) → AreAllAlikePrints false (IsPrintOfCase IsRight given)
  alike_of_case (Ok given) = alike_print _ _ (alike_if_one false _ (one given.0 given.1))
  alike_of_case (Err why) = alike_if_equal _ _

-- what is asked ------------------------------------------------------------------------------

plan_within : (orders : Orders) (s : MergeSet) (office : List ℕ)
    → AreAllAlikePrints (is_order_of_names orders) (IsPrintIn (IsPlanPrint orders s) (opened_in office))
plan_within orders s office =
    alike_in (λ opened. is_order_of_names orders) (IsPlanPrint orders s) (λ o unheld. alike_print _ _ (alike_plans orders o s)) (opened_in office)

alike_within : (asked : Ask) (office second : List ℕ) → AreAllAlikePrints (asks_as_named asked office second) (IsAnswerWithin asked office second)
alike_within ask.Audit office second = alike_if_equal _ _
alike_within ask.Run office script =
    alike_in (script_plans_as_named script) (IsScriptPrint script) (λ o unheld. alike_printed o (script_in_text o.schema script)) (opened_in office)
alike_within (ask.Plan orders names) office second = plan_within orders (merge_set live_name names) office
alike_within (ask.PlanUnder orders root names) office second = plan_within orders (merge_set root names) office
alike_within ask.Check office certificate = alike_of_case IsVerdictOutcome one_check (case_of office certificate)
alike_within (ask.Merge names) office certificate =
    alike_of_case (λ (o : Office) (c : Certificate) (all : Outcome). IsMergeOutcome o c names all) (λ o c. one_merge o c names) (case_of office certificate)

alike_if : (too_long : Bool) (asked : Ask) (office second : List ℕ)
    → AreAllAlikePrints (asks_as_named asked office second) (IsAnswerIf too_long asked office second)
alike_if true asked office second = alike_if_equal _ _
alike_if false asked office second = alike_within asked office second

pub one_answer : OneAnswerLaw
one_answer asked office second = alike_if (is_too_long office || is_too_long second) asked office second

alike_around : (parts : Option (List ℕ × List ℕ)) → AreAllAlikePrints (session_plans_as_named parts) (IsSessionOf parts)
alike_around None = alike_if_equal _ _
alike_around (Some parts) = alike_within ask.Run parts.0 parts.1

pub one_session : OneSessionLaw
one_session input = alike_around (around_separator input)
