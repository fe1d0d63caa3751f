-- Why a rule can't stand in a book of rules.
use Rattle.std.specs.Prelude.{ℕ, List, codes}
use Rattle.clr_rules.specs.declared.books.faults.RuleFault.{RuleFault}
use Rattle.clr_rules.specs.declared.books.faults.RuleFault.TheVariants as fault
use Rattle.clr_item_explanations.specs.Tellings.{Plain, Wrong, itself}

abbrev pub rule_fault_name : RuleFault → List ℕ
rule_fault_name fault.NoTable = codes "NoTable"
rule_fault_name fault.NoColumn = codes "NoColumn"
rule_fault_name fault.KindsDiffer = codes "KindsDiffer"
rule_fault_name fault.WrongShape = codes "WrongShape"
rule_fault_name fault.BadDistance = codes "BadDistance"
rule_fault_name fault.BadFilter = codes "BadFilter"
rule_fault_name fault.TooMany = codes "TooMany"

-- what a fault of a rule means
abbrev pub rule_fault_text : RuleFault → List ℕ
rule_fault_text fault.NoTable = codes "the table of a side isn't known"
rule_fault_text fault.NoColumn = codes "a list of columns is empty, or KEY stands in a UNIQUE"
rule_fault_text fault.KindsDiffer = codes "the two lists of columns differ in length or kinds"
rule_fault_text fault.WrongShape = codes "a side is of another shape than the rule asks for"
rule_fault_text fault.BadDistance = codes "d isn't from 1 to 1000000 millimetres"
rule_fault_text fault.BadFilter = codes "a literal is of another kind than its column"
rule_fault_text fault.TooMany = codes "more than 64 rules"

abbrev pub wrong_of_rule : RuleFault → Wrong
wrong_of_rule f = itself (Plain (rule_fault_text f))
