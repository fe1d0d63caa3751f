use Rattle.std.proofs.Common.{◌∙◌, arith, not, sym}
use Rattle.clr_steps.specs.Offices.{stands}
use Rattle.clr_merge_sets.proofs.NameLemmas.{first_passes, none_passes, one_fails}
use Rattle.clr_merge_sets.proofs.name_tests.first_missing.Goals as goal

pub returns-then-is_missing : goal.returns-then-is_missing
returns-then-is_missing g c =
    first_passes (λ name. not (stands c.args.office.now name)) (g.N.NameList.names c.args.members.now) c.loop-position.position c.name_at.result.now
    c.name_at.ensures
    (sym c.is_missing.ensures ∙ c.if-is_missing.true) c.loop-position.invariant

pub loop-position-preserved : goal.loop-position-preserved
loop-position-preserved g c =
    one_fails (λ name. not (stands c.args.office.now name)) (g.N.NameList.names c.args.members.now) c.loop-position.position c.name_at.result.now
    c.name_at.ensures
    (sym c.is_missing.ensures ∙ c.if-is_missing.false) c.loop-position.invariant

pub returns : goal.returns
returns g c = none_passes (λ name. not (stands c.args.office.now name)) (g.N.NameList.names c.args.members.now) c.loop-position.position (omega arith)
    c.loop-position.invariant
