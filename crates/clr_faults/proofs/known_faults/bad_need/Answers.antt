use Rattle.std.proofs.Common.{◌≡◌, ◌+◌, drop, Some, None, sym, ◌∙◌}
use Rattle.std.proofs.lemmas.List.{drop_all}
use Rattle.clr_rule_text.proofs.EachIn.{from_position}
use Rattle.clr_rule_text.proofs.KnownLemmas.{dropped_at}
use Rattle.clr_faults.specs.KnownFaults.{first_bad_name}
use Rattle.clr_faults.proofs.KnownFaultLemmas.{no_rule, rule_found, rule_passed}
use Rattle.clr_faults.proofs.known_faults.bad_need.Goals as goal

pub returns-in-Some : goal.returns-in-Some
returns-in-Some c =
    let i = c.loop-number.number in
    let rule = c.rule.result.now in
    let names = c.index-names-number.result in
    let here = dropped_at c.args.book.now i rule c.rule.ensures in
    let named = from_position c.args.names.now i names c.loop-number-test.true c.index-names-number.is in
    let told : first_bad_name c.args.schema.now rule 0 c.as_slice.result.now ≡ Some (c.in-Some.place, c.in-Some.fault) = sym c.bad_name.ensures ∙ c.in-Some.is in
    sym (rule_found c.args.schema.now i rule (drop (i + 1) c.args.book.now) names (drop (i + 1) c.args.names.now) c.in-Some.place c.in-Some.fault
    (rw c.as_slice.ensures at told))
    ∙ (rw (here, named) at c.loop-number.invariant)

pub loop-number-preserved : goal.loop-number-preserved
loop-number-preserved c =
    let i = c.loop-number.number in
    let rule = c.rule.result.now in
    let names = c.index-names-number.result in
    let here = dropped_at c.args.book.now i rule c.rule.ensures in
    let named = from_position c.args.names.now i names c.loop-number-test.true c.index-names-number.is in
    let told : first_bad_name c.args.schema.now rule 0 c.as_slice.result.now ≡ None = sym c.bad_name.ensures ∙ c.in_default.is in
    sym (rule_passed c.args.schema.now i rule (drop (i + 1) c.args.book.now) names (drop (i + 1) c.args.names.now)
    (rw c.as_slice.ensures at told))
    ∙ (rw (here, named) at c.loop-number.invariant)

pub returns : goal.returns
returns c =
    let i = c.loop-number.number in
    let none = drop_all i c.args.names.now c.loop-number-test.false in
    sym (no_rule c.args.schema.now i (drop i c.args.book.now)) ∙ (rw none at c.loop-number.invariant)
