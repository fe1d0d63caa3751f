-- Lists, numbers and values as JSON.
use Rattle.std.specs.Prelude.{ℤ, List, map}
use Rattle.serde_json.specs.Data.{Data, array, number, string}
use Rattle.serde_json.specs.Find.{of_integer}
use Rattle.serde_json.specs.View.{items_of}
use Rattle.clr_rows.specs.declared.rows.Value.{Value}
use Rattle.clr_rows.specs.declared.rows.Value.TheVariants.{Int, Words}

abbrev pub list_data : {A : Type 0} → (A → Data) → List A → Data
list_data f xs = array (items_of (map f xs))

abbrev pub number_data : ℤ → Data
number_data z = number (of_integer z)

abbrev pub value_data : Value → Data
value_data (Int n) = number_data n
value_data (Words text) = string text
