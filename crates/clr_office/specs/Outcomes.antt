-- What the steps of a script print over an office.
use Rattle.std.specs.Prelude.{◌≡◌, Bool, false, not, ◌||◌, List, [], ◌∷◌, ◌++◌, drop}
use Rattle.clr_rows.specs.Names.{live_name}
use Rattle.clr_workspaces.specs.Marks.{Name}
use Rattle.clr_steps.specs.declared.commands.Command.{Command}
use Rattle.clr_steps.specs.Offices.{Office}
use Rattle.clr_steps.specs.Quiet.{MergeSet}
use Rattle.clr_steps.specs.Steps.{TakesNoMemory, step_or_lost}
use Rattle.clr_merge_sets.specs.MergeSetNames.{merge_set}
use Rattle.clr_merge_sets.specs.declared.plans.Plan.{Plan}
use Rattle.clr_plan.specs.Certificates.{IsReadableWhereCleared}
use Rattle.clr_plan.specs.OrderedPlans.{IsExactInOrder, IsPlanInOrder, PromisesInOrder}
use Rattle.clr_plan.specs.Plans.{IsPlan}
use Rattle.clr_merge_sets.specs.Plans.{is_cleared, is_out_of_memory}
use Rattle.clr_plan.specs.Promises.{IsExact, Promises, StaysCleared}
use Rattle.clr_ordered_plans.specs.Plans.{IsPlanWithoutPairs}
use Rattle.clr_scripts.specs.declared.steps.Step.{Step}
use Rattle.clr_scripts.specs.declared.steps.Step.TheVariants.{Act, Report}
use Rattle.clr_scripts.specs.declared.steps.Word.TheVariants as word
use Rattle.clr_lines.specs.Replies.{reply_text}
use Rattle.clr_plan.specs.PlanLines.{plan_text}
use Rattle.clr_independence.specs.IndependenceOutcomes.{IsIndependenceOutcome}
use Rattle.clr_office_reports.specs.Outcomes.{Outcome, is_refused, outcome, shown}
use Rattle.clr_office_reports.specs.Outcomes.{audit_outcome, changes_outcome, conflicts_outcome, dump_outcome, show_outcome, workspaces_outcome}
use Rattle.clr_command_line.specs.declared.asks.Orders.{Orders}
use Rattle.clr_command_line.specs.declared.asks.Orders.TheVariants.{Every, AsNamed}

-- a command: the line of its reply, which is OutOfMemory where it is lost
abbrev pub command_outcome : Bool → Office → Command → Outcome
command_outcome lost o command = let a = step_or_lost lost o command in outcome (reply_text a.office.schema a.reply) (is_refused a.reply) lost a.office

-- the outcome of a command that is lost, or of one that isn't; a command that takes no memory isn't lost
pub record IsCommandOutcome (o : Office) (c : Command) (all : Outcome) : Type 0 where
  pub answer : all ≡ command_outcome all.lost o c
  pub found : TakesNoMemory c → all.lost ≡ false

abbrev pub first_name : List Name → Name
first_name [] = []
first_name (name ∷ names) = name

-- the plan of members of a root, or want of memory where no test of names fails, with what it promises: a cleared one that the members are
-- safe, and that its certificate can be read; a blocked one that of the merges in its order one is refused. Memory aside it is cleared exactly
-- where the members are safe, and where they were cleared before and only quiet commands came since
pub record IsPlanned (o : Office) (s : MergeSet) (p : Plan) : Type 0 where
  pub plan : IsPlan o s p
  pub promises : Promises o s p
  pub exact : IsExact o s p
  pub lasts : StaysCleared o s p
  pub readable : IsReadableWhereCleared o p

-- the plan of members of a root in the order in which they are listed, or want of memory where no test of names fails, with what it promises: a
-- cleared one that the members are safe where merges come in turn, and that its certificate can be read; a blocked one that of the merges in its
-- order one is refused. Memory aside it is cleared exactly where none of the merges is refused in the order of the list, if the members are mergeable. A
-- certificate without pairs is that of the plan in every order
pub record IsPlannedInOrder (o : Office) (s : MergeSet) (p : Plan) : Type 0 where
  pub plan : IsPlanInOrder o s p
  pub promises : PromisesInOrder o s p
  pub exact : IsExactInOrder o s p
  pub readable : IsReadableWhereCleared o p
  pub without_pairs : IsPlanWithoutPairs o s p

-- the plan for the orders in which the members are to be merged
abbrev pub IsPlannedFor : Orders → Office → MergeSet → Plan → Type 0
IsPlannedFor Every o s p = IsPlanned o s p
IsPlannedFor AsNamed o s p = IsPlannedInOrder o s p

-- the outcome of a plan: its lines; all but a cleared plan counts as a refusal
abbrev pub plan_outcome : Office → MergeSet → Plan → Outcome
plan_outcome o s p = outcome (plan_text o.schema s.members s.root p) (not (is_cleared p)) (is_out_of_memory p) o

abbrev pub IsPlanOutcome : Orders → Office → MergeSet → Outcome → Type 0
IsPlanOutcome orders o s all = (p : Plan) × IsPlannedFor orders o s p × (all ≡ plan_outcome o s p)

-- a step; where it is asked of a root, the first name is the root and the others are the members
abbrev pub IsOutcome : Office → Step → Outcome → Type 0
IsOutcome o (Act command) all = IsCommandOutcome o command all
IsOutcome o (Report word.Show names) all = all ≡ show_outcome o (first_name names)
IsOutcome o (Report word.Changes names) all = all ≡ changes_outcome o (first_name names)
IsOutcome o (Report word.Conflicts names) all = all ≡ conflicts_outcome o (first_name names)
IsOutcome o (Report word.Audit names) all = all ≡ audit_outcome o (first_name names)
IsOutcome o (Report word.Workspaces names) all = all ≡ workspaces_outcome o
IsOutcome o (Report word.Dump names) all = all ≡ dump_outcome o
IsOutcome o (Report word.Plan names) all = IsPlanOutcome Every o (merge_set live_name names) all
IsOutcome o (Report word.PlanUnder names) all = IsPlanOutcome Every o (merge_set (first_name names) (drop 1 names)) all
IsOutcome o (Report word.PlanInOrder names) all = IsPlanOutcome AsNamed o (merge_set live_name names) all
IsOutcome o (Report word.PlanInOrderUnder names) all = IsPlanOutcome AsNamed o (merge_set (first_name names) (drop 1 names)) all
IsOutcome o (Report word.Independence names) all = IsIndependenceOutcome o (merge_set live_name names) all
IsOutcome o (Report word.IndependenceUnder names) all = IsIndependenceOutcome o (merge_set (first_name names) (drop 1 names)) all

-- the outcome of two things one after another, the second in the office that the first left
abbrev pub followed_by : Outcome → Outcome → Outcome
followed_by first later = outcome (first.lines ++ later.lines) (first.refused || later.refused) (first.lost || later.lost) later.office

-- nothing is printed
abbrev pub nothing : Office → Outcome
nothing o = shown [] false o

-- steps one after another, each in the office that the one before left
abbrev pub IsScriptOutcome : Office → List Step → Outcome → Type 0
IsScriptOutcome o [] all = all ≡ nothing o
IsScriptOutcome o (s ∷ steps) all =
    (first : Outcome) × (later : Outcome) × IsOutcome o s first × IsScriptOutcome first.office steps later × (all ≡ followed_by first later)
