-- Squares round a geometry in SQL: all that rows share a square with which it may share one.
use Rattle.std.specs.Prelude.{ℕ, ℤ, pos, List, ◌++◌, codes}
use Rattle.std.specs.Fmt.{decimal}
use Rattle.clr_rules.specs.declared.rules.Tip.TheVariants.{First, Second}
use Rattle.clr_metres.specs.Metres.{metres_text}
use Rattle.clr_spots.specs.declared.limits.TheConstants.{SQUARE_SIDE}
use Rattle.clr_sql.specs.declared.targets.Dialect.{Dialect}
use Rattle.clr_sql.specs.declared.targets.Dialect.TheVariants.{PostGis, SpatiaLite}
use Rattle.clr_sql.specs.declared.targets.Target.{Target}
use Rattle.clr_cut_proposals.specs.Roles.{Mark, AtEnd, Within}

-- the least and the greatest coordinates of a geometry
abbrev pub least_x : Dialect → List ℕ
least_x PostGis = codes "ST_XMin"
least_x SpatiaLite = codes "ST_MinX"

abbrev pub least_y : Dialect → List ℕ
least_y PostGis = codes "ST_YMin"
least_y SpatiaLite = codes "ST_MinY"

abbrev pub most_x : Dialect → List ℕ
most_x PostGis = codes "ST_XMax"
most_x SpatiaLite = codes "ST_MaxX"

abbrev pub most_y : Dialect → List ℕ
most_y PostGis = codes "ST_YMax"
most_y SpatiaLite = codes "ST_MaxY"

abbrev pub box_function : Dialect → List ℕ
box_function PostGis = codes "ST_MakeEnvelope"
box_function SpatiaLite = codes "BuildMbr"

-- how much a box is grown: by the distance of a rule
abbrev pub reach_of : Mark → ℤ
reach_of (Within d) = d
reach_of _ = pos 0

-- the place of a version (v) by which it is found: an end of its geometry, or all of it
abbrev pub geometry_of : Mark → List ℕ
geometry_of (AtEnd First) = codes "ST_StartPoint(v.\"WKT\")"
geometry_of (AtEnd Second) = codes "ST_EndPoint(v.\"WKT\")"
geometry_of _ = codes "v.\"WKT\""

-- how far a coordinate of a geometry is from that of the origin, by the squares, which are counted from there
unfoldable pub from_origin : (function geometry : List ℕ) → (origin : ℤ) → List ℕ
from_origin function geometry origin = codes "floor((" ++ function ++ codes "(" ++ geometry ++ codes ") - (" ++ metres_text origin ++ codes ")"

-- the lower edge of the square of a coordinate that is reduced by the reach; by a millimetre more, since coordinates of a database aren't whole ones
unfoldable pub square_below : (function geometry : List ℕ) → (origin reach : ℤ) → List ℕ
square_below function geometry origin reach =
    from_origin function geometry origin ++ codes " - " ++ metres_text reach ++ codes " - 0.001) / " ++ metres_text SQUARE_SIDE ++ codes ") * "
    ++ metres_text SQUARE_SIDE

-- that edge reduced by the reach again
unfoldable pub lower_edge : (function geometry : List ℕ) → (origin reach : ℤ) → List ℕ
lower_edge function geometry origin reach =
    square_below function geometry origin reach ++ codes " + (" ++ metres_text origin ++ codes ") - " ++ metres_text reach ++ codes " - 0.001"

-- the upper edge of the square of a coordinate that is raised by the reach, and by a millimetre more
unfoldable pub square_above : (function geometry : List ℕ) → (origin reach : ℤ) → List ℕ
square_above function geometry origin reach =
    from_origin function geometry origin ++ codes " + " ++ metres_text reach ++ codes " + 0.001) / " ++ metres_text SQUARE_SIDE ++ codes ") * "
    ++ metres_text SQUARE_SIDE ++ codes " + " ++ metres_text SQUARE_SIDE

-- that edge raised by the reach again
unfoldable pub upper_edge : (function geometry : List ℕ) → (origin reach : ℤ) → List ℕ
upper_edge function geometry origin reach =
    square_above function geometry origin reach ++ codes " + (" ++ metres_text origin ++ codes ") + " ++ metres_text reach ++ codes " + 0.001"

unfoldable pub lower_corner : Target → Mark → List ℕ
lower_corner target mark =
    lower_edge (least_x target.dialect) (geometry_of mark) target.origin.x (reach_of mark) ++ codes ", "
    ++ lower_edge (least_y target.dialect) (geometry_of mark) target.origin.y (reach_of mark)

unfoldable pub upper_corner : Target → Mark → List ℕ
upper_corner target mark =
    upper_edge (most_x target.dialect) (geometry_of mark) target.origin.x (reach_of mark) ++ codes ", "
    ++ upper_edge (most_y target.dialect) (geometry_of mark) target.origin.y (reach_of mark)

-- the box of all squares in which the version may be, grown by the reach again for the row that is looked for
unfoldable pub squares_box : Target → Mark → List ℕ
squares_box target mark =
    box_function target.dialect ++ codes "(" ++ lower_corner target mark ++ codes ", " ++ upper_corner target mark ++ codes ", " ++ decimal target.system
    ++ codes ")"

-- the box of a row (m) of a table meets another, by the index of its geometries
unfoldable pub meets_in_index : (table box : List ℕ) → List ℕ
meets_in_index table box =
    codes " AND m.ROWID IN (SELECT ROWID FROM SpatialIndex WHERE f_table_name = '" ++ table ++ codes "' AND f_geometry_column = 'WKT' AND search_frame = "
    ++ box ++ codes ")"

abbrev pub meets_by : Dialect → (table : List ℕ) → (box : List ℕ) → List ℕ
meets_by PostGis table box = codes " AND m.\"WKT\" && " ++ box
meets_by SpatiaLite table box = meets_in_index table box
