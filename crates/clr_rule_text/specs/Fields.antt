-- Fields of JSON values, read one after another up to the first fault.
use Rattle.std.specs.Prelude.{ℕ, ℤ, Bool, true, false, List, [], ◌∷◌, Option, Some, None, Result, Ok, Err, option_and_then}
use Rattle.serde_json.specs.Data.{Data, Items, no_items, item}
use Rattle.serde_json.specs.Find.{get, as_bool, as_array, as_i64, as_number, as_str}
use Rattle.clr_readings.specs.Readings.{◌>>=◌}
use Rattle.clr_rule_text.specs.declared.faults.TextFault.{TextFault}
use Rattle.clr_rule_text.specs.declared.faults.TextFault.TheVariants.{OutOfMemory, BadField}

-- whether a fault says that memory ran out
abbrev pub text_lacks_memory : TextFault → Bool
text_lacks_memory OutOfMemory = true
text_lacks_memory e = false

-- a value that is there, or BadField in its place
abbrev pub or_bad_field : {A : Type 0} → Option A → Result A TextFault
or_bad_field None = Err BadField
or_bad_field (Some x) = Ok x

-- f of each item in turn, up to the first fault
unfoldable pub each : {A : Type 0} → (Data → Result A TextFault) → Items → Result (List A) TextFault
each f no_items = Ok []
each f (item d ds) = do
  first ← f d
  others ← each f ds
  Ok (first ∷ others)

-- f of each element in turn, up to the first fault
unfoldable pub each_in : {X A : Type 0} → (X → Result A TextFault) → List X → Result (List A) TextFault
each_in f [] = Ok []
each_in f (x ∷ xs) = do
  first ← f x
  others ← each_in f xs
  Ok (first ∷ others)

abbrev pub number_of : Data → Result ℤ TextFault
number_of d = or_bad_field (option_and_then as_i64 (as_number d))

abbrev pub words_of : Data → Result (List ℕ) TextFault
words_of d = or_bad_field (as_str d)

abbrev pub array_of : Data → Result Items TextFault
array_of d = or_bad_field (as_array d)

-- the value at a key
abbrev pub field_of : List ℕ → Data → Result Data TextFault
field_of key d = or_bad_field (get key d)

abbrev pub number_at : List ℕ → Data → Result ℤ TextFault
number_at key d = field_of key d >>= number_of

abbrev pub words_at : List ℕ → Data → Result (List ℕ) TextFault
words_at key d = field_of key d >>= words_of

abbrev pub list_at : List ℕ → Data → Result Items TextFault
list_at key d = field_of key d >>= array_of

-- a missing list is empty
abbrev pub list_or_none : Option Data → Result Items TextFault
list_or_none None = Ok no_items
list_or_none (Some d) = array_of d

-- nothing, or else a fault
abbrev pub none_or_fault : {A : Type 0} → TextFault → Option A → Result Unit TextFault
none_or_fault fault None = Ok tt
none_or_fault fault (Some x) = Err fault

-- a missing flag isn't set
abbrev pub flag_or_not : Option Data → Result Bool TextFault
flag_or_not None = Ok false
flag_or_not (Some d) = or_bad_field (as_bool d)
