use Rattle.std.proofs.Common.{◌≡◌, drop}
use Rattle.clr_rules.specs.Books.{first_fault}
use Rattle.clr_rules.proofs.books.rule_checks.check_rules.Given as goal

-- the rules so far have no fault, so the others decide
abbrev pub invariant-loop-number : goal.invariant-loop-number
invariant-loop-number l = first_fault l.schema 0 l.rules ≡ first_fault l.schema l.number (drop l.number l.rules)
