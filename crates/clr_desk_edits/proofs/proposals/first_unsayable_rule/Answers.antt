use Rattle.std.proofs.Common.{◌≡◌, ◌≤◌, ◌∙◌, ap, length, rules, sym, false, true}
use Rattle.std.proofs.lemmas.List.{drop_all}
use Rattle.clr_rules.specs.Sides.{each_side}
use Rattle.clr_desk_edits.specs.Proposals.{first_unsayable_rule, is_sayable_side}
use Rattle.clr_desk_edits.proofs.Firsts.{no_rule, rule_here, rules_behind}
use Rattle.clr_desk_edits.proofs.proposals.first_unsayable_rule.Goals as goal

pub returns-then-not-is_sayable_rule : goal.returns-then-not-is_sayable_rule
returns-then-not-is_sayable_rule c =
    let rule = c.index-rules-number.result in
    let unsayable : each_side is_sayable_side rule ≡ false = search rules in
    sym (rule_here c.args.rules.now c.loop-number.number rule c.loop-number-test.true c.index-rules-number.is unsayable) ∙ c.loop-number.invariant

pub loop-number-preserved : goal.loop-number-preserved
loop-number-preserved c =
    let rule = c.index-rules-number.result in
    let sayable : each_side is_sayable_side rule ≡ true = search rules in
    sym (rules_behind c.args.rules.now c.loop-number.number rule c.loop-number-test.true c.index-rules-number.is sayable) ∙ c.loop-number.invariant

pub returns : goal.returns
returns c =
    let given = c.args.rules.now in
    let number = c.loop-number.number in
    let past : length given ≤ number = search rules in
    sym (ap (first_unsayable_rule number) (drop_all number given past) ∙ no_rule number) ∙ c.loop-number.invariant
