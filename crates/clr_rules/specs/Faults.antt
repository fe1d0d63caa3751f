-- The numbers of faults.
use Rattle.std.specs.Prelude.{ℕ}
use Rattle.clr_rules.specs.declared.books.faults.RuleFault.{RuleFault}
use Rattle.clr_rules.specs.declared.books.faults.RuleFault.TheVariants.{NoTable, NoColumn, KindsDiffer, WrongShape, BadDistance, BadFilter, TooMany}

abbrev pub rule_fault_number : RuleFault → ℕ
rule_fault_number NoTable = 1
rule_fault_number NoColumn = 2
rule_fault_number KindsDiffer = 3
rule_fault_number WrongShape = 4
rule_fault_number BadDistance = 5
rule_fault_number BadFilter = 6
rule_fault_number TooMany = 7
