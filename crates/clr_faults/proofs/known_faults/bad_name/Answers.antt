use Rattle.std.proofs.Common.{sym, ◌∙◌}
use Rattle.clr_faults.specs.KnownFaults.{first_bad_name}
use Rattle.clr_faults.proofs.KnownFaultLemmas.{name_found, name_passed, no_name}
use Rattle.clr_faults.proofs.known_faults.bad_name.Goals as goal

pub returns-in-Some : goal.returns-in-Some
returns-in-Some c =
    sym (name_found c.args.schema.now c.args.rule.now c.args.names.now c.loop-at.at _ c.loop-at-test.true c.in-Some.fault
    (sym c.need_fault.ensures ∙ c.in-Some.is)) ∙ c.loop-at.invariant

pub loop-at-preserved : goal.loop-at-preserved
loop-at-preserved c =
    name_passed c.args.schema.now c.args.rule.now c.args.names.now c.loop-at.at _ c.loop-at-test.true
    (sym c.need_fault.ensures ∙ c.in_default.is) (first_bad_name c.args.schema.now c.args.rule.now 0 c.args.names.now) c.loop-at.invariant

pub returns : goal.returns
returns c = sym (no_name c.args.schema.now c.args.rule.now c.args.names.now c.loop-at.at c.loop-at-test.false) ∙ c.loop-at.invariant
