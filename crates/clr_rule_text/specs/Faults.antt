-- The numbers of faults.
use Rattle.std.specs.Prelude.{ℕ}
use Rattle.clr_rule_text.specs.declared.faults.TextFault.{TextFault}
use Rattle.clr_rule_text.specs.declared.faults.TextFault.TheVariants.{OutOfMemory, NotJson, BadField, BadSchema, BadRule, BadRow, RepeatedCell, BadPart}

abbrev pub text_fault_number : TextFault → ℕ
text_fault_number OutOfMemory = 0
text_fault_number NotJson = 1
text_fault_number BadField = 2
text_fault_number BadSchema = 3
text_fault_number BadRule = 4
text_fault_number BadRow = 5
text_fault_number RepeatedCell = 6
text_fault_number BadPart = 7
