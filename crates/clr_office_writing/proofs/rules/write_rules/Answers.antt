use Rattle.std.proofs.Common.{◌+◌, ◌++◌, List, drop, ap, ◌∙◌}
use Rattle.std.specs.List.{enumerate_from}
use Rattle.std.proofs.lemmas.List.{drop_all}
use Rattle.std.proofs.lemmas.Result.{on_ok_weaker}
use Rattle.clr_rules.specs.declared.rules.Rule.{Rule}
use Rattle.clr_rule_text.proofs.EachIn.{from_position}
use Rattle.clr_office_writing.specs.RuleData.{rule_data, rules_data}
use Rattle.clr_office_writing.specs.Tokens.{tokens_of}
use Rattle.clr_office_writing.proofs.ListsWritten.{list_goes_on}
use Rattle.clr_office_writing.proofs.rules.write_rules.Goals as goal

pub loop-number-preserved : goal.loop-number-preserved
loop-number-preserved c =
    let i = c.loop-number.number in
    let rules = c.rules-rules.result.now in
    let rule = c.index-rules-number.result in
    let here = from_position rules i rule c.loop-number-test.true c.index-rules-number.is in
    list_goes_on (rule_data c.args.schema.now c.args.known.now) c.loop-number.text c.write_numbered.new.text _ (i, rule)
    (enumerate_from (i + 1) (drop (i + 1) rules)) c.in_ok-write_numbered.ensures (rw here at c.loop-number.invariant)

pub returns : goal.returns
returns c =
    let none = drop_all c.loop-number.number c.rules-rules.result.now c.loop-number-test.false in
    on_ok_weaker c.end_array.result (λ e. e ∙ (rw none at c.loop-number.invariant)
    ∙ ap (λ (rs : List Rule). c.args.text.now ++ tokens_of (rules_data c.args.schema.now rs c.args.known.now)) c.rules-rules.ensures.value) c.end_array.ensures.ok
