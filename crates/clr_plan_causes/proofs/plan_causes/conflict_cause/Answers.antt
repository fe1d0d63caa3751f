use Rattle.std.proofs.Common.{◌∷◌, [], ℕ, List, subst}
use Rattle.clr_plan_causes.specs.PlanCauses.{Finds, IsCellCause}
use Rattle.clr_plan_causes.proofs.plan_causes.conflict_cause.Goals as goal

pub returns : goal.returns
returns c =
    subst (λ (words : List ℕ). Finds (IsCellCause c.args.members.now.changes.items c.args.cell (c.args.member ∷ []) words) c.in_ok-found.found)
    c.in_ok-says.ensures c.in_ok-found.ensures
