-- Sets of keys, as they are kept while records are read.
use Rattle.std.specs.Prelude.{◌≡◌, ℕ, ℤ, List, ◌++◌, Option, option_to_list}
use Rattle.std.specs.BTreeSet.{BTreeSet, contains}
use Rattle.std.specs.Ordering.{int_cmp}
use Rattle.clr_rows.specs.declared.tables.TableDef.{TableDef}
use Rattle.clr_layer_faults.specs.declared.found.FoundFault.{FoundFault}
use Rattle.clr_layer_faults.specs.FoundFaults.{Record, RowOrFault, has_key, key_fault, own_keys, record_fault}

-- a set has just these keys
abbrev pub HasKeys : List ℤ → BTreeSet ℤ → Type 0
HasKeys keys set = (key : ℤ) → contains int_cmp set key ≡ has_key keys key

-- where a set has the keys of the rows before a row, it has the row's own too behind it, and this is the fault of its key
abbrev pub NotesKey : ℕ → Option ℤ → BTreeSet ℤ → BTreeSet ℤ → Option FoundFault → Type 0
NotesKey number key old new found =
    (before : List ℤ) → HasKeys before old → (found ≡ key_fault before number key) × HasKeys (before ++ option_to_list key) new

-- the same of a record of which this is read
abbrev pub NotesRecord : TableDef → Record → ℕ → Record → RowOrFault → BTreeSet ℤ → BTreeSet ℤ → Option FoundFault → Type 0
NotesRecord table names number fields read old new found =
    (before : List ℤ) → HasKeys before old → (found ≡ record_fault table names before number fields read) × HasKeys (before ++ own_keys read) new
