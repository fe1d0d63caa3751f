-- How collections of features are written.
use Rattle.std.specs.Prelude.{ℕ, ◌-◌, List, [], ◌++◌, codes, Option, Some, None, decimal, length, nat_eq, take, if◌then◌else◌}
use Rattle.std.specs.List.{ends_with, flat_map}
use Rattle.clr_geojson.specs.declared.features.Feature.{Feature}
use Rattle.clr_geojson.specs.declared.marks.TheConstants.{COLLECTION, FEATURES, SYSTEM}
use Rattle.clr_geojson.specs.Features.{feature_text, with_commas}

-- a system of coordinates, by its number in the register of EPSG
abbrev pub system_text : Option ℕ → List ℕ
system_text None = []
system_text (Some code) = SYSTEM.now ++ decimal code ++ codes "\"}}"

-- what stands before the features
unfoldable pub head_text : Option ℕ → List ℕ
head_text system = COLLECTION.now ++ system_text system ++ FEATURES.now ++ codes "["

-- a feature, on a line of its own
unfoldable pub line_of : Feature → List ℕ
line_of f = codes "\n" ++ feature_text f

-- features, one a line
unfoldable pub collection_text : Option ℕ → List Feature → List ℕ
collection_text system features = head_text system ++ with_commas line_of features ++ codes "\n]}\n"

-- a text without the comma at its end, if one is there
abbrev pub without_comma : List ℕ → List ℕ
without_comma text = if ends_with nat_eq text (codes ",") then take (length text - 1) text else text

-- a feature of a collection while it is written: a comma follows each
unfoldable pub line_with_comma : Feature → List ℕ
line_with_comma f = line_of f ++ codes ","

-- what is written of a collection before its end
abbrev pub begun_text : Option ℕ → List Feature → List ℕ
begun_text system features = head_text system ++ flat_map line_with_comma features
