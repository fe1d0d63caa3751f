-- The line of a layer that can't be read.
use Rattle.std.specs.Prelude.{ℕ, List, ◌++◌, codes}
use Rattle.std.specs.Fmt.{decimal}
use Rattle.clr_lines.specs.Replies.{row_fault_name}
use Rattle.clr_layer_text.specs.declared.faults.LayerFault.{LayerFault}
use Rattle.clr_layer_text.specs.declared.faults.LayerFault.TheVariants as of_text
use Rattle.clr_layer_changes.specs.declared.faults.LayersFault.{LayersFault}
use Rattle.clr_layer_changes.specs.declared.faults.LayersFault.TheVariants as of_layer

-- the number and the name of a fault of a layer's text, and behind them the name of the row's fault, where it is one of the row
abbrev pub text_fault_word : LayerFault → List ℕ
text_fault_word of_text.OutOfMemory = codes "0 OutOfMemory"
text_fault_word of_text.NotCsv = codes "1 NotCsv"
text_fault_word of_text.NoColumn = codes "2 NoColumn"
text_fault_word of_text.ColumnTwice = codes "3 ColumnTwice"
text_fault_word of_text.FieldCount = codes "4 FieldCount"
text_fault_word of_text.BadNumber = codes "5 BadNumber"
text_fault_word of_text.NotWkt = codes "6 NotWkt"
text_fault_word of_text.NotFlat = codes "7 NotFlat"
text_fault_word of_text.Curve = codes "8 Curve"
text_fault_word of_text.SeveralParts = codes "9 SeveralParts"
text_fault_word of_text.NotDecimal = codes "10 NotDecimal"
text_fault_word of_text.Finer = codes "11 Finer"
text_fault_word (of_text.Unfit why) = codes "12 Unfit " ++ row_fault_name why

-- the number and name of a fault of a layer
abbrev pub fault_word : LayersFault → List ℕ
fault_word of_layer.NoTable = codes "13 NoTable"
fault_word of_layer.TableTwice = codes "14 TableTwice"
fault_word (of_layer.Unread fault) = text_fault_word fault
fault_word of_layer.KeyTwice = codes "15 KeyTwice"
fault_word of_layer.NoKey = codes "16 NoKey"

-- the line of a layer with a fault: the name of its table, the fault, and the record that has it, or 0 where it is one of the whole layer
abbrev pub table_fault_line : List ℕ → LayersFault → ℕ → List ℕ
table_fault_line table fault number = codes "unreadable layer " ++ table ++ codes " " ++ fault_word fault ++ codes " at " ++ decimal number ++ codes "\n"
