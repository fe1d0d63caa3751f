-- The lines of replies.
use Rattle.std.specs.Prelude.{ℕ, List, ◌++◌, codes}
use Rattle.std.specs.Fmt.{decimal}
use Rattle.clr_rows.specs.declared.faults.RowFault.{RowFault}
use Rattle.clr_rows.specs.declared.faults.RowFault.TheVariants.{NoTable, WrongCount, WrongKind, WordsTooLong, WrongShape, OutOfRange, ZeroSegment, BadPath}
use Rattle.clr_rows.specs.declared.tables.TableDef.{TableDef}
use Rattle.clr_change.specs.declared.edits.EditFault.{EditFault}
use Rattle.clr_change.specs.declared.edits.EditFault.TheVariants as edit_fault
use Rattle.clr_steps.specs.declared.commands.Reply.{Reply}
use Rattle.clr_steps.specs.declared.commands.Reply.TheVariants as reply
use Rattle.clr_lines.specs.Pieces.{cell_text, need_text}

abbrev pub row_fault_name : RowFault → List ℕ
row_fault_name NoTable = codes "NoTable"
row_fault_name WrongCount = codes "WrongCount"
row_fault_name WrongKind = codes "WrongKind"
row_fault_name WordsTooLong = codes "WordsTooLong"
row_fault_name WrongShape = codes "WrongShape"
row_fault_name OutOfRange = codes "OutOfRange"
row_fault_name ZeroSegment = codes "ZeroSegment"
row_fault_name BadPath = codes "BadPath"

abbrev pub edit_fault_name : EditFault → List ℕ
edit_fault_name edit_fault.OutOfMemory = codes "OutOfMemory"
edit_fault_name (edit_fault.Row fault) = row_fault_name fault
edit_fault_name edit_fault.KeyTaken = codes "KeyTaken"
edit_fault_name edit_fault.NoRow = codes "NoRow"

-- the line of a reply: the number and the name of a refusal, with its details
abbrev pub reply_text : List TableDef → Reply → List ℕ
reply_text tables reply.Done = codes "done\n"
reply_text tables reply.OutOfMemory = codes "refused 0 OutOfMemory\n"
reply_text tables reply.NoWorkspace = codes "refused 1 NoWorkspace\n"
reply_text tables reply.NameTaken = codes "refused 2 NameTaken\n"
reply_text tables reply.BadName = codes "refused 3 BadName\n"
reply_text tables reply.LiveIsFixed = codes "refused 4 LiveIsFixed\n"
reply_text tables reply.NotLeaf = codes "refused 5 NotLeaf\n"
reply_text tables reply.TooMany = codes "refused 6 TooMany\n"
reply_text tables reply.NoSavepoint = codes "refused 7 NoSavepoint\n"
reply_text tables reply.SavepointHeld = codes "refused 8 SavepointHeld\n"
reply_text tables (reply.BadEdit number fault) = codes "refused 9 BadEdit " ++ decimal number ++ codes " " ++ edit_fault_name fault ++ codes "\n"
reply_text tables (reply.Conflict cell count) = codes "refused 10 Conflict " ++ cell_text tables cell ++ codes " " ++ decimal count ++ codes "\n"
reply_text tables reply.NotInConflict = codes "refused 11 NotInConflict\n"
reply_text tables (reply.RuleBroken need) = codes "refused 12 RuleBroken " ++ need_text tables need ++ codes "\n"
