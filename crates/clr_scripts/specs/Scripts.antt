-- The script that records are: its steps, or the first fault with the number of its record.
use Rattle.std.specs.Prelude.{ℕ, zero, suc, ◌+◌, ◌==◌, ℤ, pos, negsuc, Bool, true, false, List, [], ◌∷◌, length, take, drop, codes, nat_le}
use Rattle.std.specs.Prelude.{Option, Some, None, Result, Ok, Err, if◌then◌else◌}
use Rattle.std.specs.Str.{bytes_eq}
use Rattle.clr_rows.specs.declared.cells.CellId.{CellId}
use Rattle.clr_rows.specs.declared.tables.TableDef.{TableDef}
use Rattle.clr_rows.specs.Schemas.{table_named}
use Rattle.clr_workspaces.specs.declared.rebases.Keep.{Keep}
use Rattle.clr_workspaces.specs.declared.rebases.Keep.TheVariants.{Parent, Child, Base}
use Rattle.clr_steps.specs.declared.commands.Command.{Command}
use Rattle.clr_steps.specs.declared.commands.Command.TheVariants.{Create, Remove, Apply, Mark, Unmark, RollTo, RollAll, Refresh, Merge, Resolve, Hold, Release}
use Rattle.clr_scripts.specs.declared.faults.RecordFault.{RecordFault}
use Rattle.clr_scripts.specs.declared.faults.RecordFault.TheVariants.{FieldCount, BadWord, NoTable, BadNumber}
use Rattle.clr_scripts.specs.declared.plain_steps.CommandWord.{CommandWord}
use Rattle.clr_scripts.specs.declared.plain_steps.CommandWord.TheVariants as asked
use Rattle.clr_scripts.specs.declared.steps.Step.{Step}
use Rattle.clr_scripts.specs.declared.steps.Step.TheVariants.{Act, Report}
use Rattle.clr_scripts.specs.declared.steps.Word.{Word}
use Rattle.clr_scripts.specs.declared.steps.Word.TheVariants.{Show, Changes, Conflicts, Audit, Workspaces, Dump}
use Rattle.clr_scripts.specs.declared.steps.Word.TheVariants.{Plan, PlanUnder, PlanInOrder, PlanInOrderUnder, Independence, IndependenceUnder}
use Rattle.clr_readings.specs.Readings.{◌>>=◌, or_fault}
use Rattle.clr_records.specs.Records.{field_of, at_record}
use Rattle.clr_scripts.specs.Records.{records_or_fault}
use Rattle.clr_scripts.specs.Edits.{edits_from, whole_number}

-- what a record is, if it has so many fields
abbrev pub with_count : {A : Type 0} → ℕ → List (List ℕ) → Result A RecordFault → Result A RecordFault
with_count n fields read = if length fields == n then read else Err FieldCount

-- the command that a word asks for, but `apply`
abbrev pub command_word_of : List ℕ → Option CommandWord
command_word_of word =
    if bytes_eq word (codes "create") then Some asked.Create
    else (if bytes_eq word (codes "remove") then Some asked.Remove
    else (if bytes_eq word (codes "mark") then Some asked.Mark
    else (if bytes_eq word (codes "unmark") then Some asked.Unmark
    else (if bytes_eq word (codes "rollto") then Some asked.RollTo
    else (if bytes_eq word (codes "rollall") then Some asked.RollAll
    else (if bytes_eq word (codes "refresh") then Some asked.Refresh
    else (if bytes_eq word (codes "merge") then Some asked.Merge
    else (if bytes_eq word (codes "resolve") then Some asked.Resolve
    else (if bytes_eq word (codes "hold") then Some asked.Hold
    else (if bytes_eq word (codes "release") then Some asked.Release
    else None))))))))))

-- the report that a word asks for
abbrev pub report_word_of : List ℕ → Option Word
report_word_of word =
    if bytes_eq word (codes "show") then Some Show
    else (if bytes_eq word (codes "changes") then Some Changes
    else (if bytes_eq word (codes "conflicts") then Some Conflicts
    else (if bytes_eq word (codes "audit") then Some Audit
    else (if bytes_eq word (codes "workspaces") then Some Workspaces
    else (if bytes_eq word (codes "dump") then Some Dump
    else (if bytes_eq word (codes "plan") then Some Plan
    else (if bytes_eq word (codes "planunder") then Some PlanUnder
    else (if bytes_eq word (codes "planinorder") then Some PlanInOrder
    else (if bytes_eq word (codes "planinorderunder") then Some PlanInOrderUnder
    else (if bytes_eq word (codes "independence") then Some Independence
    else (if bytes_eq word (codes "independenceunder") then Some IndependenceUnder
    else None)))))))))))

abbrev pub only_name_of : List (List ℕ) → Result (List ℕ) RecordFault
only_name_of fields = with_count 2 fields (Ok (field_of fields 1))

abbrev pub two_names_of : List (List ℕ) → Result (List ℕ × List ℕ) RecordFault
two_names_of fields = with_count 3 fields (Ok (field_of fields 1, field_of fields 2))

abbrev pub create_of : List (List ℕ) → Result Command RecordFault
create_of fields = two_names_of fields >>= λ names. Ok (Create names.0 names.1)

abbrev pub mark_of : List (List ℕ) → Result Command RecordFault
mark_of fields = two_names_of fields >>= λ names. Ok (Mark names.0 names.1)

abbrev pub unmark_of : List (List ℕ) → Result Command RecordFault
unmark_of fields = two_names_of fields >>= λ names. Ok (Unmark names.0 names.1)

abbrev pub roll_to_of : List (List ℕ) → Result Command RecordFault
roll_to_of fields = two_names_of fields >>= λ names. Ok (RollTo names.0 names.1)

-- whether a merge takes the workspace away
abbrev pub removal_of : List ℕ → Result Bool RecordFault
removal_of word = if bytes_eq word (codes "keep") then Ok false else (if bytes_eq word (codes "remove") then Ok true else Err BadWord)

abbrev pub merge_of : List (List ℕ) → Result Command RecordFault
merge_of fields = with_count 3 fields (removal_of (field_of fields 2) >>= λ remove. Ok (Merge (field_of fields 1) remove))

-- the word that says whose row stands from now on
abbrev pub keep_of : List ℕ → Result Keep RecordFault
keep_of word =
    if bytes_eq word (codes "PARENT") then Ok Parent
    else (if bytes_eq word (codes "CHILD") then Ok Child
    else (if bytes_eq word (codes "BASE") then Ok Base
    else Err BadWord))

-- the cell of a table's name and a key
unfoldable pub cell_of : List TableDef → List ℕ → List ℕ → Result CellId RecordFault
cell_of tables name text = do
  table ← or_fault NoTable (table_named tables name)
  key ← whole_number text
  Ok (record { table = table; key = key })

abbrev pub resolve_of : List TableDef → List (List ℕ) → Result Command RecordFault
resolve_of tables fields =
    with_count 5 fields
    (cell_of tables (field_of fields 2) (field_of fields 3) >>= λ cell. keep_of (field_of fields 4) >>= λ keep. Ok (Resolve (field_of fields 1) cell keep))

-- the command of a record that begins with its word
unfoldable pub command_of : List TableDef → CommandWord → List (List ℕ) → Result Command RecordFault
command_of tables asked.Create fields = create_of fields
command_of tables asked.Remove fields = only_name_of fields >>= λ ws. Ok (Remove ws)
command_of tables asked.Mark fields = mark_of fields
command_of tables asked.Unmark fields = unmark_of fields
command_of tables asked.RollTo fields = roll_to_of fields
command_of tables asked.RollAll fields = only_name_of fields >>= λ ws. Ok (RollAll ws)
command_of tables asked.Refresh fields = only_name_of fields >>= λ ws. Ok (Refresh ws)
command_of tables asked.Merge fields = merge_of fields
command_of tables asked.Resolve fields = resolve_of tables fields
command_of tables asked.Hold fields = only_name_of fields >>= λ ws. Ok (Hold ws)
command_of tables asked.Release fields = only_name_of fields >>= λ ws. Ok (Release ws)

-- whether a report can have so many fields, from its word on
abbrev pub can_have_fields : Word → ℕ → Bool
can_have_fields Show n = n == 2
can_have_fields Changes n = n == 2
can_have_fields Conflicts n = n == 2
can_have_fields Audit n = n == 2
can_have_fields Workspaces n = n == 1
can_have_fields Dump n = n == 1
can_have_fields Plan n = true
can_have_fields PlanUnder n = nat_le 2 n
can_have_fields PlanInOrder n = true
can_have_fields PlanInOrderUnder n = nat_le 2 n
can_have_fields Independence n = true
can_have_fields IndependenceUnder n = nat_le 2 n

-- a report with its names, which are all fields but the first
abbrev pub report_of : Word → List (List ℕ) → Result Step RecordFault
report_of word fields = if can_have_fields word (length fields) then Ok (Report word (drop 1 fields)) else Err FieldCount

abbrev pub step_by_words : List TableDef → Option CommandWord → Option Word → List (List ℕ) → Result Step RecordFault
step_by_words tables (Some word) report fields = command_of tables word fields >>= λ command. Ok (Act command)
step_by_words tables None (Some word) fields = report_of word fields
step_by_words tables None None fields = Err BadWord

-- the step of a record that is no `apply`
unfoldable pub plain_step_of : List TableDef → List (List ℕ) → Result Step RecordFault
plain_step_of tables fields = step_by_words tables (command_word_of (field_of fields 0)) (report_word_of (field_of fields 0)) fields

-- the count that a number is, if it isn't negative
abbrev pub count_of : ℤ → Result ℕ RecordFault
count_of (pos n) = Ok n
count_of (negsuc n) = Err BadNumber

-- how many edits an `apply` says that it has
abbrev pub edit_count : List (List ℕ) → Result ℕ RecordFault
edit_count fields = with_count 3 fields (whole_number (field_of fields 2) >>= count_of)

-- an `apply` at record n, with the records after it: its edits are read first, and then it is tested whether they are enough
unfoldable pub apply_of : List TableDef → ℕ → List (List ℕ) → List (List (List ℕ)) → Result Step (ℕ × RecordFault)
apply_of tables n fields rest = do
  count ← at_record n (edit_count fields)
  edits ← edits_from tables (n + 1) (take count rest)
  if nat_le count (length rest) then Ok (Act (Apply (field_of fields 1) edits)) else Err (n, FieldCount)

-- the step that begins at record n, with the records after it
unfoldable pub step_of : List TableDef → ℕ → List (List ℕ) → List (List (List ℕ)) → Result Step (ℕ × RecordFault)
step_of tables n fields rest =
    if bytes_eq (field_of fields 0) (codes "apply") then apply_of tables n fields rest
    else at_record n (plain_step_of tables fields)

-- how many of the records after a step are its own
abbrev pub edits_in : Step → ℕ
edits_in (Act (Apply ws edits)) = length edits
edits_in (Act (Create name parent)) = 0
edits_in (Act (Remove ws)) = 0
edits_in (Act (Mark ws name)) = 0
edits_in (Act (Unmark ws name)) = 0
edits_in (Act (RollTo ws name)) = 0
edits_in (Act (RollAll ws)) = 0
edits_in (Act (Refresh ws)) = 0
edits_in (Act (Merge ws remove)) = 0
edits_in (Act (Resolve ws cell keep)) = 0
edits_in (Act (Hold ws)) = 0
edits_in (Act (Release ws)) = 0
edits_in (Report word names) = 0

-- the steps of records that are numbered from n, of which the first k are the last step's own
unfoldable pub steps_from : List TableDef → ℕ → ℕ → List (List (List ℕ)) → Result (List Step) (ℕ × RecordFault)
steps_from tables k n [] = Ok []
steps_from tables (suc k) n (fields ∷ rest) = steps_from tables k (n + 1) rest
steps_from tables zero n (fields ∷ rest) = do
  step ← step_of tables n fields rest
  others ← steps_from tables (edits_in step) (n + 1) rest
  Ok (step ∷ others)

-- the script of records, or the first fault
abbrev pub script_of : List TableDef → List (List (List ℕ)) → Result (List Step) (ℕ × RecordFault)
script_of tables rows = steps_from tables 0 1 rows

-- the script of a text
abbrev pub script_in_text : List TableDef → List ℕ → Result (List Step) (ℕ × RecordFault)
script_in_text tables bytes = records_or_fault bytes >>= λ rows. script_of tables rows
