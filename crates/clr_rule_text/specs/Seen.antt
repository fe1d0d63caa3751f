-- JSON values over the text that they stand in, seen as the values that serde_json reads there.
use Rattle.std.specs.Prelude.{List, Bool, true, ◌&&◌, map, Option, Some, None, is_some, Result, Ok, Err}
use Rattle.std.specs.declared.alloc.Global.{Global}
use Rattle.json.specs.Json as json
use Rattle.json.specs.Value.{value_view}
use Rattle.json.specs.declared.error.Error.{Error}
use Rattle.json.specs.declared.error.Error.TheVariants as error
use Rattle.json.specs.declared.value.Value.{Value}
use Rattle.serde_json.specs.Data.{Data, Num, null, boolean, number, string, array, object, Items, no_items, item, Members, no_members, put}
use Rattle.serde_json.specs.Read.{number_of}
use Rattle.serde_json.specs.View.{items_of}
use Rattle.clr_rule_text.specs.declared.faults.TextFault.{TextFault}
use Rattle.clr_rule_text.specs.declared.faults.TextFault.TheVariants.{NotJson, OutOfMemory}

-- the items that values stand for, one after another
abbrev pub items_seen : {J : Type 0} → (J → Data) → List J → Items
items_seen stands_for vs = items_of (map stands_for vs)

-- serde_json reads each number: none is too large for a float
abbrev mutual
  pub has_numbers : json.Json → Bool
  has_numbers json.null = true
  has_numbers (json.boolean b) = true
  has_numbers (json.number s) = is_some (number_of s)
  has_numbers (json.string s) = true
  has_numbers (json.array js) = items_have_numbers js
  has_numbers (json.object ms) = members_have_numbers ms

  pub items_have_numbers : json.Items → Bool
  items_have_numbers json.no_items = true
  items_have_numbers (json.item j js) = has_numbers j && items_have_numbers js

  pub members_have_numbers : json.Members → Bool
  members_have_numbers json.no_members = true
  members_have_numbers (json.member k j ms) = has_numbers j && members_have_numbers ms

-- a number that isn't read is no value
abbrev pub number_or_null : Option Num → Data
number_or_null None = null
number_or_null (Some n) = number n

-- the value that is read, where its numbers are; of the members at one key the last stays
abbrev mutual
  pub data_of : json.Json → Data
  data_of json.null = null
  data_of (json.boolean b) = boolean b
  data_of (json.number s) = number_or_null (number_of s)
  data_of (json.string s) = string s
  data_of (json.array js) = array (items_data js)
  data_of (json.object ms) = object (members_data ms no_members)

  pub items_data : json.Items → Items
  items_data json.no_items = no_items
  items_data (json.item j js) = item (data_of j) (items_data js)

  -- members, after those that were found before
  pub members_data : json.Members → Members → Members
  members_data json.no_members found = found
  members_data (json.member k j ms) found = members_data ms (put k (data_of j) found)

-- what a value over its text stands for
abbrev pub seen : Value Global → Data
seen v = data_of (value_view v)

-- the value that was read in a text, or NotJson
abbrev pub value_if_read : Option Data → Result Data TextFault
value_if_read None = Err NotJson
value_if_read (Some d) = Ok d

-- what is said of a text that isn't read
abbrev pub fault_of : Error → TextFault
fault_of error.OutOfMemory = OutOfMemory
fault_of _ = NotJson
