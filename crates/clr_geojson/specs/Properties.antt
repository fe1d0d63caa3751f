-- Properties by their names and what they say.
use Rattle.std.specs.Prelude.{ℕ, ℤ, Bool, List}
use Rattle.clr_geojson.specs.declared.features.Property.{Property}
use Rattle.clr_geojson.specs.declared.features.PropertyValue.TheVariants.{Text, Number, Flag}

abbrev pub text_property : List ℕ → List ℕ → Property
text_property name text = record { name = name; value = Text text }

abbrev pub number_property : List ℕ → ℤ → Property
number_property name number = record { name = name; value = Number number }

abbrev pub flag_property : List ℕ → Bool → Property
flag_property name flag = record { name = name; value = Flag flag }
