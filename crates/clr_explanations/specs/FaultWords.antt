-- The names of faults of office texts, each with its number.
use Rattle.std.specs.Prelude.{ℕ, List, codes}
use Rattle.clr_rule_text.specs.declared.faults.TextFault.{TextFault}
use Rattle.clr_rule_text.specs.declared.faults.TextFault.TheVariants as office

abbrev pub office_fault_words : TextFault → List ℕ
office_fault_words office.OutOfMemory = codes "office 0 OutOfMemory"
office_fault_words office.NotJson = codes "office 1 NotJson"
office_fault_words office.BadField = codes "office 2 BadField"
office_fault_words office.BadSchema = codes "office 3 BadSchema"
office_fault_words office.BadRule = codes "office 4 BadRule"
office_fault_words office.BadRow = codes "office 5 BadRow"
office_fault_words office.RepeatedCell = codes "office 6 RepeatedCell"
office_fault_words office.BadPart = codes "office 7 BadPart"
