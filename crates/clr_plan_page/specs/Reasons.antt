-- Why a plan says what it says, what was tried to help, and what is said of orders.
use Rattle.std.specs.Prelude.{◌≡◌, ◌++◌, ℕ, List, [], ◌∷◌, codes}
use Rattle.clr_rows.specs.Contents.{Changes}
use Rattle.clr_steps.specs.Offices.{Office}
use Rattle.clr_steps.specs.Quiet.{MergeSet}
use Rattle.clr_clearance.specs.MergeSets.{change_sets}
use Rattle.clr_merge_sets.specs.declared.plans.Plan.{Plan}
use Rattle.clr_merge_sets.specs.declared.plans.Plan.TheVariants as plan
use Rattle.clr_plan_answers.specs.Answers.{answer_text}
use Rattle.clr_order_sentences.specs.OrderSentences.{AreOrderSentences}
use Rattle.clr_work_orders.specs.declared.trials.Trial.{Trial}
use Rattle.clr_plan_page.specs.Causes.{AreBlocked}
use Rattle.clr_plan_page.specs.Needs.{needs_shown}
use Rattle.clr_page_parts.specs.Shown.{Shown, Heading, said}

-- of a plan of members that make these changes: what serves each need, or the cause with what was tried; nothing of any other plan
abbrev pub AreReasons : Office → MergeSet → List Changes → Plan → List Trial → List Shown → Type 0
AreReasons o s sets (plan.Cleared c) trials blocks = blocks ≡ needs_shown o s.members sets c.entries
AreReasons o s sets (plan.Blocked order v) trials blocks = AreBlocked o s sets order.items v trials blocks
AreReasons o s sets (plan.Unfit v) trials blocks = blocks ≡ []
AreReasons o s sets plan.OutOfMemory trials blocks = blocks ≡ []

-- what a plan answers, its reasons, and what is said of orders
abbrev pub IsWhy : Office → MergeSet → Plan → List Trial → List Shown → Type 0
IsWhy o s p trials blocks =
    (reasons : List Shown) × AreReasons o s (change_sets o s) p trials reasons × (orders : List ℕ) × AreOrderSentences o s p orders
    × (blocks ≡ Heading (codes "Why") ∷ (said (answer_text s p) ++ (reasons ++ said orders)))
