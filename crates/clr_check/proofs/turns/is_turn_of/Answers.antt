use Rattle.std.proofs.Common.{◌∙◌, map, subst, sym}
use Rattle.clr_check.proofs.TurnLemmas.{IsTurnBy, all_let, none_yet, one_holds_back, one_more_lets}
use Rattle.clr_check.proofs.turns.is_turn_of.Goals as goal

pub loop-precedence-init : goal.loop-precedence-init
loop-precedence-init c = none_yet c.args.certificate.now (map (λ other. other.now) c.args.merged.now) c.args.name.now c.as_slice-precedence-items.result.now

pub loop-precedence-preserved : goal.loop-precedence-preserved
loop-precedence-preserved c =
    let merged = map (λ other. other.now) c.args.merged.now in
    one_more_lets c.args.certificate.now merged c.args.name.now c.as_slice-precedence-items.result.now c.loop-precedence.precedence-index
    c.precedence-item.result c.precedence-item.result c.loop-precedence-test.true c.precedence-item.is (sym c.is_held_back_by.ensures ∙ c.if-is_held_back_by.false) c.loop-precedence.invariant

pub returns-then-is_held_back_by : goal.returns-then-is_held_back_by
returns-then-is_held_back_by c =
    let merged = map (λ other. other.now) c.args.merged.now in
    rw c.as_slice-precedence-items.ensures at
    (one_holds_back c.args.certificate.now merged c.args.name.now c.as_slice-precedence-items.result.now c.loop-precedence.precedence-index
    c.precedence-item.result c.precedence-item.result c.loop-precedence-test.true c.precedence-item.is (sym c.is_held_back_by.ensures ∙ c.if-is_held_back_by.true))

pub returns : goal.returns
returns c =
    let merged = map (λ other. other.now) c.args.merged.now in
    subst (IsTurnBy c.args.certificate.now merged c.args.name.now) c.as_slice-precedence-items.ensures
    (all_let c.args.certificate.now merged c.args.name.now c.as_slice-precedence-items.result.now c.loop-precedence.precedence-index
    c.loop-precedence-test.false c.loop-precedence.invariant)
