-- Why members are blocked, and what was tried to help, as a report tells it.
use Rattle.std.specs.Prelude.{◌≡◌, ◌++◌, ◌==◌, ℕ, Bool, true, false, List, [], ◌∷◌, codes, length, if◌then◌else◌}
use Rattle.std.specs.List.{flat_map}
use Rattle.clr_rows.specs.Contents.{Changes}
use Rattle.clr_steps.specs.Offices.{Office}
use Rattle.clr_steps.specs.Quiet.{MergeSet}
use Rattle.clr_clearance.specs.Plans.{members_at}
use Rattle.clr_clearance.specs.declared.verdicts.Verdict.{Verdict}
use Rattle.clr_plan_sentences.specs.declared.told_rows.CauseWords.{CauseWords}
use Rattle.clr_plan_sentences.specs.Causes.{IsCause}
use Rattle.clr_work_orders.specs.declared.answers.Answer.{Answer}
use Rattle.clr_work_orders.specs.declared.trials.Trial.{Trial}
use Rattle.clr_work_orders.specs.Among.{among_text}
use Rattle.clr_page_parts.specs.Causes.{cause_shown}
use Rattle.clr_page_parts.specs.Shown.{Shown, Heading, Table, said}

-- what was tried --------------------------------------------------------------------------------

-- what the planner says of a trial, and behind a no why
abbrev pub answer_words : Answer → List ℕ
answer_words told = if told.is_cleared then codes "cleared" else codes "not cleared: " ++ told.why

abbrev pub trial_words : Trial → List (List ℕ)
trial_words trial = trial.words ∷ answer_words trial.answer ∷ []

-- the row of a trial that has this answer, and nothing of another
abbrev pub trial_rows : Bool → Trial → List (List (List ℕ))
trial_rows true trial = if trial.answer.is_cleared then trial_words trial ∷ [] else []
trial_rows false trial = if trial.answer.is_cleared then [] else trial_words trial ∷ []

abbrev pub trial_heads : List (List ℕ)
trial_heads = codes "Tried" ∷ codes "Then they are" ∷ []

-- a row for each trial, the cleared ones first
abbrev pub rows_of_trials : List Trial → List (List (List ℕ))
rows_of_trials trials = flat_map (trial_rows true) trials ++ flat_map (trial_rows false) trials

-- below a heading among whom trials were made, and then the trials; nothing where nothing was tried
abbrev pub trials_shown : List ℕ → List Trial → List Shown
trials_shown among trials =
    if length trials == 0 then []
    else Heading (codes "What would help") ∷ (said among ++ Table trial_heads (rows_of_trials trials) ∷ [])

-- both ------------------------------------------------------------------------------------------

-- why members that make these changes are blocked in this order, and then these trials, among the designs of the order
abbrev pub AreBlocked : Office → MergeSet → List Changes → List ℕ → Verdict → List Trial → List Shown → Type 0
AreBlocked o s sets order v trials blocks =
    (cause : CauseWords) × IsCause o s sets v cause × (blocks ≡ cause_shown cause ++ trials_shown (among_text (members_at s order)) trials)
