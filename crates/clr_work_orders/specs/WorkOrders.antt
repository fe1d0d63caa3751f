-- What a work order is: sentences, the trials that were made, what is said of orders, and the lines of the plan.
use Rattle.std.specs.Prelude.{◌≡◌, ◌++◌, ◌==◌, ℕ, Bool, true, false, List, [], codes, length, if◌then◌else◌}
use Rattle.std.specs.List.{flat_map}
use Rattle.clr_steps.specs.Offices.{Office}
use Rattle.clr_steps.specs.Quiet.{MergeSet}
use Rattle.clr_clearance.specs.Plans.{members_at}
use Rattle.clr_merge_sets.specs.declared.plans.Plan.{Plan}
use Rattle.clr_merge_sets.specs.Plans.{is_cleared, is_out_of_memory}
use Rattle.clr_plan.specs.PlanLines.{plan_text}
use Rattle.clr_order_sentences.specs.OrderSentences.{AreOrderSentences}
use Rattle.clr_plan_sentences.specs.Sentences.{IsSentences}
use Rattle.clr_work_orders.specs.declared.answers.Answer.{Answer}
use Rattle.clr_work_orders.specs.declared.trials.Trial.{Trial}
use Rattle.clr_work_orders.specs.declared.work_orders.WorkOrder.{WorkOrder}
use Rattle.clr_work_orders.specs.Among.{among_text, blocked_order}
use Rattle.clr_work_orders.specs.Trials.{AreTrialsOf, IsAnswered}

-- what the planner says of a trial, as a line ends with it
abbrev pub answer_text : Answer → List ℕ
answer_text told = if told.is_cleared then codes ": cleared\n" else codes ": not cleared: " ++ told.why

abbrev pub trial_line : Trial → List ℕ
trial_line trial = codes "  - " ++ trial.words ++ answer_text trial.answer

-- the line of a trial that has this answer, and nothing of another
abbrev pub trial_text : Bool → Trial → List ℕ
trial_text true trial = if trial.answer.is_cleared then trial_line trial else []
trial_text false trial = if trial.answer.is_cleared then [] else trial_line trial

-- behind an empty line among whom trials were made, and then their lines, those first that are cleared; nothing where nothing was tried
abbrev pub trials_text : List ℕ → List Trial → List ℕ
trials_text among trials =
    if length trials == 0 then [] else codes "\n" ++ among ++ flat_map (trial_text true) trials ++ flat_map (trial_text false) trials

-- sentences behind an empty line; no sentences are nothing
abbrev pub set_apart : List ℕ → List ℕ
set_apart sentences = if length sentences == 0 then [] else codes "\n" ++ sentences

-- the sentences of the plan, the trials of its remedies among the designs of its cause, the sentences of orders, and the lines of the plan; the answer is
-- that of the plan
pub record IsWorkOrder (o : Office) (s : MergeSet) (order : WorkOrder) : Type 0 where
  pub plan : Plan
  pub planned : IsAnswered o s plan
  pub sentences : List ℕ
  pub told : IsSentences o s plan sentences
  pub trials : List Trial
  pub tried : AreTrialsOf o s plan trials
  pub orders : List ℕ
  pub ordered : AreOrderSentences o s plan orders
  pub text : order.text.items ≡ sentences ++ trials_text (among_text (members_at s (blocked_order plan))) trials ++ set_apart orders
      ++ codes "\n" ++ plan_text o.schema s.members s.root plan
  pub cleared : order.is_cleared ≡ is_cleared plan
  pub lost : order.is_lost ≡ is_out_of_memory plan
