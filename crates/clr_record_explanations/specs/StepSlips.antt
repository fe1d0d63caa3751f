-- What is said of a record that is read as a step.
use Rattle.std.specs.Prelude.{ℕ, ◌+◌, ◌==◌, Bool, List, [], ◌∷◌, ◌++◌, length, count_by, codes, decimal, Option, option_map, position, unwrap_or}
use Rattle.std.specs.Prelude.{◌||◌, if◌then◌else◌}
use Rattle.std.specs.List.{after_first, before_first, find}
use Rattle.std.specs.Str.{bytes_eq}
use Rattle.clr_records.specs.Records.{field_of}
use Rattle.clr_scripts.specs.declared.faults.RecordFault.{RecordFault}
use Rattle.clr_scripts.specs.declared.faults.RecordFault.TheVariants as fault
use Rattle.clr_record_explanations.specs.FirstFaults.{RecordFields}
use Rattle.clr_record_explanations.specs.RecordSlips.{Said, no_number, no_table}

-- patterns -----------------------------------------------------------------------------------

abbrev pub is_comma : ℕ → Bool
is_comma byte = byte == 44

-- what stands before and behind the first comma of a text, if it has one
unfoldable pub comma_cut_of : List ℕ → Option (List ℕ × List ℕ)
comma_cut_of text = option_map (λ _. (before_first is_comma text, after_first is_comma text)) (position is_comma text)

-- the word that a pattern begins with: what stands before its first comma, or all of it
abbrev pub word_of : List ℕ → List ℕ
word_of pattern = unwrap_or (option_map (λ parts. parts.0) (comma_cut_of pattern)) pattern

-- how many fields a step of a pattern has
abbrev pub count_of : List ℕ → ℕ
count_of pattern = count_by is_comma pattern + 1

-- the pattern of each step, which begins with its word
unfoldable pub step_patterns : List (List ℕ)
step_patterns =
    codes "create,NAME,PARENT" ∷ codes "remove,WS" ∷ codes "apply,WS,n" ∷ codes "mark,WS,NAME" ∷ codes "unmark,WS,NAME" ∷ codes "rollto,WS,NAME" ∷
    codes "rollall,WS" ∷ codes "refresh,WS" ∷ codes "merge,WS,keep" ∷ codes "resolve,WS,TABLE,KEY,PARENT" ∷ codes "hold,WS" ∷ codes "release,WS" ∷
    codes "show,WS" ∷ codes "changes,WS" ∷ codes "conflicts,WS" ∷ codes "audit,WS" ∷ codes "workspaces" ∷ codes "dump" ∷ codes "plan,NAME" ∷
    codes "planunder,ROOT,NAME" ∷ codes "planinorder,NAME" ∷ codes "planinorderunder,ROOT,NAME" ∷ codes "independence,NAME" ∷
    codes "independenceunder,ROOT,NAME" ∷ []

-- the pattern of the steps that begin with a word, and nothing where none do
abbrev pub pattern_of : List ℕ → List ℕ
pattern_of word = unwrap_or (find (λ pattern. bytes_eq (word_of pattern) word) step_patterns) []

-- faults -------------------------------------------------------------------------------------

-- the count of fields isn't that of the pattern
abbrev pub step_count_sentence : List ℕ → ℕ → ℕ → List ℕ → List ℕ
step_count_sentence word wanted count pattern =
    word ++ codes " has " ++ decimal wanted ++ codes " fields, and here are " ++ decimal count ++ codes ": " ++ pattern

abbrev pub wrong_step_count : RecordFields → Said
wrong_step_count fields =
    (0, step_count_sentence (field_of fields 0) (count_of (pattern_of (field_of fields 0))) (length fields) (pattern_of (field_of fields 0)))

-- the field of a step that must be a number: the key of a `resolve`, and the count of an `apply`
abbrev pub number_place : RecordFields → ℕ
number_place fields = if bytes_eq (field_of fields 0) (codes "resolve") then 3 else 2

abbrev pub is_edit_word : List ℕ → Bool
is_edit_word word = bytes_eq word (codes "insert") || bytes_eq word (codes "update") || bytes_eq word (codes "delete")

abbrev pub unknown_word : List ℕ → Said
unknown_word word = (0, codes "no step begins with '" ++ word ++ codes "'")

-- a word isn't known where it stands
abbrev pub wrong_step_word : RecordFields → Said
wrong_step_word fields =
    if bytes_eq (field_of fields 0) (codes "merge") then (2, codes "the third field of a merge is keep or remove")
    else (if bytes_eq (field_of fields 0) (codes "resolve") then (4, codes "the last field of a resolve is PARENT, CHILD or BASE")
    else (if is_edit_word (field_of fields 0) then (0, codes "an edit stands behind an apply, which says how many there are")
    else unknown_word (field_of fields 0)))

-- what is said of a step, by its fault
abbrev pub step_slip : RecordFault → RecordFields → Said
step_slip fault.FieldCount fields = wrong_step_count fields
step_slip fault.NoTable fields = no_table 2 fields
step_slip fault.BadNumber fields = no_number (number_place fields) fields
step_slip fault.BadWord fields = wrong_step_word fields
step_slip fault.NotCsv fields = wrong_step_word fields
step_slip fault.OutOfMemory fields = wrong_step_word fields

-- an `apply` asks for more edits than records stand behind it
abbrev pub short_apply_slip : RecordFields → Said
short_apply_slip fields = (2, codes "apply asks for " ++ field_of fields 2 ++ codes " edits, and fewer records follow")
