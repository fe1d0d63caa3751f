-- Shapes as WKT, in metres.
use Rattle.std.specs.Prelude.{ℕ, ◌&&◌, ◌||◌, List, [], ◌∷◌, ◌++◌, map, codes}
use Rattle.std.specs.Prelude.{Bool, Option, Some, None, Result, Ok, Err, if◌then◌else◌}
use Rattle.std.specs.Char.{to_ascii_lowercase}
use Rattle.std.specs.List.{flat_map}
use Rattle.std.specs.Str.{bytes_eq}
use Rattle.clr_rows.specs.declared.faults.RowFault.TheVariants.{WrongShape}
use Rattle.clr_rows.specs.declared.places.Place.{Place}
use Rattle.clr_rows.specs.declared.places.Shape.{Shape}
use Rattle.clr_rows.specs.declared.places.Shape.TheVariants.{Bare, At, Line, Chain}
use Rattle.clr_rows.specs.declared.tables.Form.{Form}
use Rattle.clr_rows.specs.declared.tables.Form.TheVariants as form
use Rattle.clr_readings.specs.Readings.{◌>>=◌, or_fault}
use Rattle.clr_records.specs.Records.{in_turn}
use Rattle.clr_metres.specs.Metres.{metres_text}
use Rattle.clr_layer_text.specs.declared.faults.LayerFault.{LayerFault}
use Rattle.clr_layer_text.specs.declared.faults.LayerFault.TheVariants.{NotWkt, NotFlat, Curve, SeveralParts, Unfit}
use Rattle.clr_layer_text.specs.declared.geometries.Geometry.{Geometry}
use Rattle.clr_layer_text.specs.declared.geometries.Geometry.TheVariants as geometry
use Rattle.clr_layer_text.specs.Metres.{millimetres_of}
use Rattle.clr_layer_text.specs.Pieces.{comma, contains_byte, cut_of, is_blank, pieces_of, space, spaced_words_of}

abbrev pub opening : ℕ
opening = 40

abbrev pub closing : ℕ
closing = 41

-- writing -----------------------------------------------------------------------------------------

abbrev pub place_text : Place → List ℕ
place_text p = metres_text p.x ++ space ∷ metres_text p.y

-- a place behind another one
abbrev pub next_text : Place → List ℕ
next_text p = comma ∷ space ∷ place_text p

abbrev pub places_text : List Place → List ℕ
places_text [] = []
places_text (p ∷ places) = place_text p ++ flat_map next_text places

abbrev pub line_text : List Place → List ℕ
line_text places = codes "LINESTRING (" ++ (places_text places ++ closing ∷ [])

abbrev pub point_text : Place → List ℕ
point_text p = codes "POINT (" ++ (place_text p ++ closing ∷ [])

-- a shape as WKT
abbrev pub shape_text : Shape → List ℕ
shape_text Bare = []
shape_text (At p) = point_text p
shape_text (Line p q) = line_text (p ∷ q ∷ [])
shape_text (Chain vertices) = line_text vertices

-- reading: the kind of geometry ---------------------------------------------------------------------

-- one word, small and capital letters being the same
abbrev pub same_letters : List ℕ → List ℕ → Bool
same_letters a b = bytes_eq (map to_ascii_lowercase a) (map to_ascii_lowercase b)

-- kinds that may have curves
abbrev pub is_curve : List ℕ → Bool
is_curve word =
    same_letters word (codes "CIRCULARSTRING") || same_letters word (codes "COMPOUNDCURVE") || same_letters word (codes "MULTICURVE")
    || same_letters word (codes "CURVEPOLYGON")

-- kinds of points and lines whose word says that their places have a height, a measure, or both
abbrev pub has_height : List ℕ → Bool
has_height word =
    same_letters word (codes "POINTZ") || same_letters word (codes "LINESTRINGZ") || same_letters word (codes "MULTIPOINTZ")
    || same_letters word (codes "MULTILINESTRINGZ")

abbrev pub has_measure : List ℕ → Bool
has_measure word =
    same_letters word (codes "POINTM") || same_letters word (codes "LINESTRINGM") || same_letters word (codes "MULTIPOINTM")
    || same_letters word (codes "MULTILINESTRINGM")

abbrev pub has_both : List ℕ → Bool
has_both word =
    same_letters word (codes "POINTZM") || same_letters word (codes "LINESTRINGZM") || same_letters word (codes "MULTIPOINTZM")
    || same_letters word (codes "MULTILINESTRINGZM")

abbrev pub is_not_flat : List ℕ → Bool
is_not_flat word = has_height word || has_measure word || has_both word

abbrev pub geometry_of : List ℕ → Result Geometry LayerFault
geometry_of word =
    if same_letters word (codes "POINT") then Ok geometry.Point
    else (if same_letters word (codes "LINESTRING") then Ok geometry.Line
    else (if same_letters word (codes "MULTIPOINT") then Ok geometry.Points
    else (if same_letters word (codes "MULTILINESTRING") then Ok geometry.Lines
    else (if is_curve word then Err Curve
    else (if is_not_flat word then Err NotFlat
    else Err NotWkt)))))

-- the geometry of the words before the first `(`; a second word says that there are more than two coordinates
abbrev pub geometry_by : List (List ℕ) → Result Geometry LayerFault
geometry_by [] = Err NotWkt
geometry_by (word ∷ []) = geometry_of word
geometry_by (word ∷ other ∷ more) = Err NotFlat

-- reading: what stands in parentheses ---------------------------------------------------------------

-- what stands before the first `)`, if only spaces stand behind it
unfoldable pub closed_of : List ℕ → Result (List ℕ) LayerFault
closed_of text = do
  parts ← or_fault NotWkt (cut_of closing text)
  if is_blank parts.1 then Ok parts.0 else Err NotWkt

-- what stands in brackets, if no other part follows behind a comma
abbrev pub single_of : List ℕ → Result (List ℕ) LayerFault
single_of text = if contains_byte comma text then Err SeveralParts else closed_of text

-- the one part in parentheses of its own, of what stands before its `(` and behind it
unfoldable pub inner_of : List ℕ → List ℕ → Result (List ℕ) LayerFault
inner_of before behind = do
  parts ← or_fault NotWkt (cut_of closing behind)
  rest ← single_of parts.1
  if is_blank before && is_blank rest then Ok parts.0 else Err NotWkt

-- the one part of several that may be, in parentheses of its own or without them
abbrev pub one_part : Option (List ℕ × List ℕ) → List ℕ → Result (List ℕ) LayerFault
one_part None text = single_of text
one_part (Some around) text = inner_of around.0 around.1

-- reading: places -----------------------------------------------------------------------------------

abbrev pub place_by : Bool → List (List ℕ) → Result Place LayerFault
place_by rounded [] = Err NotWkt
place_by rounded (x ∷ []) = Err NotWkt
place_by rounded (x ∷ y ∷ []) = millimetres_of rounded x >>= λ a. millimetres_of rounded y >>= λ b. Ok (record { x = a; y = b })
place_by rounded (x ∷ y ∷ z ∷ more) = Err NotFlat

abbrev pub place_of : Bool → List ℕ → Result Place LayerFault
place_of rounded text = place_by rounded (spaced_words_of text)

-- the places of pieces, up to the first fault
abbrev pub places_between : Bool → List (List ℕ) → Result (List Place) LayerFault
places_between rounded pieces = in_turn (λ _. place_of rounded) 0 pieces

-- the places between commas
abbrev pub places_of : Bool → List ℕ → Result (List Place) LayerFault
places_of rounded text = places_between rounded (pieces_of comma text)

-- reading: shapes -----------------------------------------------------------------------------------

-- a line as the shape of a row: a segment has two ends
abbrev pub line_as : Form → List Place → Result Shape LayerFault
line_as form.Segment (p ∷ q ∷ []) = Ok (Line p q)
line_as form.Path places = Ok (Chain places)
line_as _ _ = Err (Unfit WrongShape)

abbrev pub point_inside : Bool → List ℕ → Result Shape LayerFault
point_inside rounded text = place_of rounded text >>= λ p. Ok (At p)

abbrev pub line_in : Bool → Form → List ℕ → Result Shape LayerFault
line_in rounded wanted text = places_of rounded text >>= λ places. line_as wanted places

-- the shape of a geometry, of what stands behind its first `(`
abbrev pub shape_by : Bool → Form → List ℕ → Geometry → Result Shape LayerFault
shape_by rounded wanted text geometry.Point = closed_of text >>= point_inside rounded
shape_by rounded wanted text geometry.Line = closed_of text >>= line_in rounded wanted
shape_by rounded wanted text geometry.Points = one_part (cut_of opening text) text >>= point_inside rounded
shape_by rounded wanted text geometry.Lines = one_part (cut_of opening text) text >>= line_in rounded wanted

-- the shape that WKT says
unfoldable pub shape_of : Bool → Form → List ℕ → Result Shape LayerFault
shape_of rounded wanted text = do
  parts ← or_fault NotWkt (cut_of opening text)
  kind ← geometry_by (spaced_words_of parts.0)
  shape_by rounded wanted parts.1 kind
