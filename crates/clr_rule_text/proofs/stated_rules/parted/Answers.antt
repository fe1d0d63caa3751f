use Rattle.std.proofs.Common.{◌≡◌, [], append-nil, arith, sym, ◌∙◌}
use Rattle.std.proofs.lemmas.List.{nil_from_length}
use Rattle.std.specs.Vec.Iter.{into_iter_items}
use Rattle.clr_rule_text.proofs.stated_rules.parted.Goals as goal

pub returns-clause-rules : goal.returns-clause-rules
returns-clause-rules c =
    let none : into_iter_items c.loop-one.one-iterator ≡ [] = nil_from_length _ (omega (arith, c.in-None.ensures.steps.0)) in
    sym (append-nil c.loop-one.rules.items) ∙ (rw none at c.loop-one.invariant.0)

pub returns-clause-known : goal.returns-clause-known
returns-clause-known c =
    let none : into_iter_items c.loop-one.one-iterator ≡ [] = nil_from_length _ (omega (arith, c.in-None.ensures.steps.0)) in
    sym (append-nil c.loop-one.known.items) ∙ (rw none at c.loop-one.invariant.1)
