use Rattle.std.proofs.Common.{◌≡◌, ◌++◌, drop}
use Rattle.std.specs.List.{enumerate_from}
use Rattle.clr_office_writing.specs.RuleData.{rule_data, rules_data}
use Rattle.clr_office_writing.specs.Tokens.{list_tokens, tokens_of}
use Rattle.clr_office_writing.proofs.rules.write_rules.Given as goal

-- what is written, with the rules that are left, is all
abbrev pub invariant-loop-number : goal.invariant-loop-number
invariant-loop-number l =
    l.text ++ list_tokens (rule_data l.schema l.known) (enumerate_from l.number (drop l.number l.rules)) ≡ l.fn.text ++ tokens_of (rules_data l.schema l.rules l.known)
