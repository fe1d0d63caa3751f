-- Among whom trials are made: the designs of the cause, which are the members in the order of a plan that is blocked.
use Rattle.std.specs.Prelude.{ℕ, ◌==◌, not, List, [], ◌++◌, codes, filter, length, if◌then◌else◌}
use Rattle.clr_workspaces.specs.Marks.{Name}
use Rattle.clr_merge_sets.specs.declared.plans.Plan.{Plan}
use Rattle.clr_merge_sets.specs.declared.plans.Plan.TheVariants as plan
use Rattle.clr_phrases.specs.Lists.{names_text}

-- the order of a plan that is blocked, by position
abbrev pub blocked_order : Plan → List ℕ
blocked_order (plan.Blocked order cause) = order.items
blocked_order (plan.Cleared c) = []
blocked_order (plan.Unfit v) = []
blocked_order plan.OutOfMemory = []

-- positions but one
abbrev pub positions_without : List ℕ → ℕ → List ℕ
positions_without positions at = filter (λ k. not (k == at)) positions

abbrev pub among_front : ℕ → List ℕ
among_front count = if count == 1 then codes "Tried with " else codes "Tried among "

-- among which designs trials are made, on a line
abbrev pub among_text : List Name → List ℕ
among_text names = among_front (length names) ++ names_text names ++ codes ", each by itself:\n"
