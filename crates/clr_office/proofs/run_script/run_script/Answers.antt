use Rattle.clr_office.proofs.ScriptOutcomes.{goes_on, ends}
use Rattle.clr_office.proofs.run_script.run_script.Goals as goal

pub loop-step-preserved : goal.loop-step-preserved
loop-step-preserved c =
    rw (c.in_ok-append.ensures.lines, c.in_ok-append.ensures.refused, c.in_ok-append.ensures.lost)
    (goes_on c.args.office.now c.loop-step.office c.run_step.new.office c.args.steps.now c.loop-step.step-index c.step-item.result _ _ _ _ _ _
    c.loop-step-test.true c.step-item.is c.in_ok-output.ensures c.loop-step.invariant)

pub returns : goal.returns
returns c = ends c.args.office.now c.loop-step.office c.args.steps.now c.loop-step.step-index _ _ _ c.loop-step-test.false c.loop-step.invariant
