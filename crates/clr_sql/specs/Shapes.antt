-- Shapes as geometries of a database, whose coordinates are metres from an origin.
use Rattle.std.specs.Prelude.{ℕ, ℤ, ◌∷◌, [], List, ◌++◌, codes, length}
use Rattle.std.specs.Fmt.{decimal, signed_decimal}
use Rattle.std.specs.List.{enumerate_from, flat_map}
use Rattle.clr_rows.specs.declared.places.Place.{Place}
use Rattle.clr_rows.specs.declared.places.Shape.{Shape}
use Rattle.clr_rows.specs.declared.places.Shape.TheVariants.{Bare, At, Line, Chain}
use Rattle.clr_metres.specs.Metres.{metres_text}
use Rattle.clr_layer_text.specs.Wkt.{shape_text}
use Rattle.clr_sql.specs.declared.targets.Target.{Target}

-- a shape as a geometry: its WKT in the system of coordinates, moved to the origin
abbrev pub geometry_text : Target → Shape → List ℕ
geometry_text target shape =
    codes "ST_Translate(ST_GeomFromText('" ++ shape_text shape ++ codes "', " ++ decimal target.system ++ codes "), " ++ metres_text target.origin.x
    ++ codes ", " ++ metres_text target.origin.y ++ codes ", 0)"

-- conditions on a geometry -------------------------------------------------------------------------
-- A coordinate of a database is a floating point number, so it is compared as a whole number of millimetres.

-- a coordinate of a point, in millimetres from that of the origin
unfoldable pub coordinate_condition : (function point : List ℕ) (origin z : ℤ) → List ℕ
coordinate_condition function point origin z =
    codes "round((" ++ function ++ codes "(" ++ point ++ codes ") - (" ++ metres_text origin ++ codes ")) * 1000) = " ++ signed_decimal z

-- a point is at a place
unfoldable pub place_condition : Place → (point : List ℕ) → Place → List ℕ
place_condition origin point p =
    coordinate_condition (codes "ST_X") point origin.x p.x ++ codes " AND " ++ coordinate_condition (codes "ST_Y") point origin.y p.y

abbrev pub vertex_text : ℕ → List ℕ
vertex_text number = codes "ST_PointN(\"WKT\", " ++ decimal number ++ codes ")"

-- the vertex of a number is at a place
abbrev pub vertex_condition : Place → ℕ × Place → List ℕ
vertex_condition origin e = codes " AND " ++ place_condition origin (vertex_text e.0) e.1

-- a line has just these vertices
abbrev pub line_condition : Place → List Place → List ℕ
line_condition origin places =
    codes " AND ST_NumPoints(\"WKT\") = " ++ decimal (length places) ++ flat_map (vertex_condition origin) (enumerate_from 1 places)

-- the geometry of a row is a shape, behind other conditions; a row without a shape has none
abbrev pub shape_condition : Place → Shape → List ℕ
shape_condition origin Bare = []
shape_condition origin (At p) = codes " AND " ++ place_condition origin (codes "\"WKT\"") p
shape_condition origin (Line p q) = line_condition origin (p ∷ q ∷ [])
shape_condition origin (Chain vertices) = line_condition origin vertices
