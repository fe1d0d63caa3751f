-- How features are written.
use Rattle.std.specs.Prelude.{ℕ, Bool, true, false, List, [], ◌∷◌, ◌++◌, codes}
use Rattle.std.specs.Fmt.{signed_decimal}
use Rattle.std.specs.List.{flat_map}
use Rattle.json.specs.Print.{quoted}
use Rattle.clr_metres.specs.Metres.{metres_text}
use Rattle.clr_rows.specs.declared.places.Place.{Place}
use Rattle.clr_rows.specs.declared.places.Shape.{Shape}
use Rattle.clr_rows.specs.declared.places.Shape.TheVariants.{Bare, At, Line, Chain}
use Rattle.clr_geojson.specs.declared.features.Feature.{Feature}
use Rattle.clr_geojson.specs.declared.features.Property.{Property}
use Rattle.clr_geojson.specs.declared.features.PropertyValue.{PropertyValue}
use Rattle.clr_geojson.specs.declared.features.PropertyValue.TheVariants.{Text, Number, Flag}
use Rattle.clr_geojson.specs.declared.marks.TheConstants.{FEATURE, GEOMETRY, LINE, POINT}

abbrev pub after_comma : {A : Type 0} → (A → List ℕ) → A → List ℕ
after_comma f x = codes "," ++ f x

-- the texts of a list, with commas between them
abbrev pub with_commas : {A : Type 0} → (A → List ℕ) → List A → List ℕ
with_commas f [] = []
with_commas f (x ∷ xs) = f x ++ flat_map (after_comma f) xs

-- properties ---------------------------------------------------------------------------------

unfoldable pub flag_text : Bool → List ℕ
flag_text true = codes "true"
flag_text false = codes "false"

abbrev pub value_text : PropertyValue → List ℕ
value_text (Text words) = quoted words
value_text (Number n) = signed_decimal n
value_text (Flag flag) = flag_text flag

unfoldable pub property_text : Property → List ℕ
property_text p = quoted p.name ++ codes ":" ++ value_text p.value

unfoldable pub properties_text : List Property → List ℕ
properties_text properties = with_commas property_text properties

-- shapes -------------------------------------------------------------------------------------

-- a place is written as `[30.000,4.000]`
unfoldable pub place_text : Place → List ℕ
place_text p = codes "[" ++ metres_text p.x ++ codes "," ++ metres_text p.y ++ codes "]"

unfoldable pub places_text : List Place → List ℕ
places_text places = with_commas place_text places

unfoldable pub point_text : Place → List ℕ
point_text p = POINT.now ++ place_text p ++ codes "}"

unfoldable pub line_text : List Place → List ℕ
line_text places = LINE.now ++ places_text places ++ codes "]}"

unfoldable pub shape_text : Shape → List ℕ
shape_text Bare = codes "null"
shape_text (At p) = point_text p
shape_text (Line p q) = line_text (p ∷ q ∷ [])
shape_text (Chain vertices) = line_text vertices

-- features -----------------------------------------------------------------------------------

unfoldable pub feature_text : Feature → List ℕ
feature_text f =
    FEATURE.now ++ properties_text f.properties ++ GEOMETRY.now ++ shape_text f.shape ++ codes "}"
