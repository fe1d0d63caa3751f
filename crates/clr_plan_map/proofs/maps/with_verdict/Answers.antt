use Rattle.clr_plan_map.proofs.maps.with_verdict.Goals as goal

pub returns : goal.returns
returns c = (c.in_ok-verdict.verdict, c.in_ok-verdict.ensures, c.in_ok-push.ensures.items)
