use Rattle.serde_json.specs.View.{view}
use Rattle.clr_explanations.proofs.PathLemmas.{all_steps, no_step_at, step_at}
use Rattle.clr_explanations.proofs.places.steps_within.Goals as goal

pub loop-step-preserved : goal.loop-step-preserved
loop-step-preserved c =
    step_at c.loop-step.within.items _ c.args.steps.now c.loop-step.step-index _ (view c.loop-step.value.now) (view c.in-Some.inner.now) _ c.loop-step-test.true
    c.in_ok-push.ensures.items c.in-Some.ensures c.loop-step.invariant

pub returns-in-None : goal.returns-in-None
returns-in-None c =
    no_step_at c.loop-step.within.items c.args.steps.now c.loop-step.step-index _ (view c.loop-step.value.now) _ c.loop-step-test.true c.in-None.ensures
    c.loop-step.invariant

pub returns : goal.returns
returns c =
    all_steps c.loop-step.within.items c.args.steps.now c.loop-step.step-index (view c.loop-step.value.now) _ c.loop-step-test.false c.loop-step.invariant
