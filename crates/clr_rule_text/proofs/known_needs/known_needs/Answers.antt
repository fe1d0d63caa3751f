use Rattle.std.proofs.Common.{◌+◌, drop}
use Rattle.std.proofs.lemmas.List.{drop_all}
use Rattle.std.proofs.lemmas.Result.{err_from_is_err_and}
use Rattle.clr_rule_text.specs.Known.{known_needs}
use Rattle.clr_rule_text.proofs.EachIn.{from_position}
use Rattle.clr_rule_text.proofs.KnownLemmas.{dropped_at, ends, goes_on, is_done}
use Rattle.clr_rule_text.proofs.known_needs.known_needs.Goals as goal

pub returns-in_err-needs : goal.returns-in_err-needs
returns-in_err-needs c =
    let p = err_from_is_err_and c.from_residual.result c.from_residual.ensures.1 in
    let i = c.loop-number.number in
    let rule = c.rule-rule.result.now in
    let names = c.index-names-number.result in
    let here = dropped_at c.args.book.now i rule c.rule-rule.ensures in
    let named = from_position c.args.names.now i names c.loop-number-test.true c.index-names-number.is in
    rw (p.1, p.2) (ends c.args.schema.now i c.loop-number.all.items rule (drop (i + 1) c.args.book.now) names (drop (i + 1) c.args.names.now)
    c.in_err-needs.field-0.0 (known_needs c.args.schema.now 0 c.args.book.now c.args.names.now) (rw c.as_slice.ensures at c.in_err-needs.ensures)
    (rw (here, named) at c.loop-number.invariant))

pub loop-number-preserved : goal.loop-number-preserved
loop-number-preserved c =
    let i = c.loop-number.number in
    let rule = c.rule-rule.result.now in
    let names = c.index-names-number.result in
    let here = dropped_at c.args.book.now i rule c.rule-rule.ensures in
    let named = from_position c.args.names.now i names c.loop-number-test.true c.index-names-number.is in
    rw c.in_ok-append.ensures.items (goes_on c.args.schema.now i c.loop-number.all.items rule (drop (i + 1) c.args.book.now) names
    (drop (i + 1) c.args.names.now) c.in_ok-needs.needs.items (known_needs c.args.schema.now 0 c.args.book.now c.args.names.now)
    (rw c.as_slice.ensures at c.in_ok-needs.ensures) (rw (here, named) at c.loop-number.invariant))

pub returns : goal.returns
returns c =
    let i = c.loop-number.number in
    let none = drop_all i c.args.names.now c.loop-number-test.false in
    is_done c.args.schema.now i c.loop-number.all.items (drop i c.args.book.now) (known_needs c.args.schema.now 0 c.args.book.now c.args.names.now)
    (rw none at c.loop-number.invariant)
