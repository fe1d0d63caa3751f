use Rattle.std.proofs.Common.{◌≡◌, ◌∙◌, ap, arith, sym, take}
use Rattle.clr_steps.specs.Names.{has}
use Rattle.clr_merge_sets.proofs.RepeatLemmas.{found_earlier, has_none, not_earlier, repeated_is}
use Rattle.clr_merge_sets.proofs.repeats.stands_earlier.Goals as goal

pub loop-earlier-init : goal.loop-earlier-init
loop-earlier-init g c = has_none (g.N.NameList.names c.args.names.now) c.name_at-name.result.now

pub returns-then-eq : goal.returns-then-eq
returns-then-eq g c =
    found_earlier (g.N.NameList.names c.args.names.now) c.loop-earlier.earlier c.args.position c.name_at.result.now c.name_at-name.result.now
    c.loop-earlier-test.true c.name_at.ensures c.name_at-name.ensures
    (sym c.eq.ensures ∙ c.if-eq.true)

pub loop-earlier-preserved : goal.loop-earlier-preserved
loop-earlier-preserved g c =
    not_earlier (g.N.NameList.names c.args.names.now) c.loop-earlier.earlier c.name_at.result.now c.name_at-name.result.now c.name_at.ensures (sym c.eq.ensures
    ∙ c.if-eq.false) c.loop-earlier.invariant

pub returns : goal.returns
returns g c =
    let names = g.N.NameList.names c.args.names.now in
    let whole : c.loop-earlier.earlier ≡ c.args.position = omega arith in
    sym (repeated_is names c.args.position c.name_at-name.result.now c.name_at-name.ensures ∙ ap (λ k. has (take k names) c.name_at-name.result.now) (sym whole)
    ∙ c.loop-earlier.invariant)
