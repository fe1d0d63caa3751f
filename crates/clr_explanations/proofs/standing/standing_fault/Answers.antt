use Rattle.std.proofs.Common.{sym, subst}
use Rattle.clr_explanations.specs.Standing.{IsStandingFault}
use Rattle.clr_explanations.proofs.StandingLemmas.{refused_stands}
use Rattle.clr_explanations.proofs.standing.standing_fault.Goals as goal

pub returns : goal.returns
returns c =
    let text = c.args.text.now in
    let refused = c.in-Err-of_deltas.refused in
    let found = c.in_ok-known_refusal-in-Err-of_deltas.ensures in
    subst (λ first. IsStandingFault text first) (sym found.0)
    (refused_stands text _ refused c.in-Ok.ensures.value c.in-Err-of_deltas.ensures.refused found.1)
