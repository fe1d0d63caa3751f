-- The tables of an office in a database. Each has the table's name, and a column for each field of its layers: KEY, the columns of the table, and WKT, which
-- is a geometry, where its rows have shapes.
use Rattle.std.specs.Prelude.{ℕ, List, [], ◌++◌, codes}
use Rattle.std.specs.List.{flat_map}
use Rattle.clr_rows.specs.declared.tables.Form.{Form}
use Rattle.clr_rows.specs.declared.tables.Form.TheVariants as form
use Rattle.clr_rows.specs.declared.tables.Kind.{Kind}
use Rattle.clr_rows.specs.declared.tables.TableDef.{TableDef}
use Rattle.clr_metres.specs.Metres.{metres_text}
use Rattle.clr_sql.specs.declared.targets.Dialect.{Dialect}
use Rattle.clr_sql.specs.declared.targets.Dialect.TheVariants.{PostGis, SpatiaLite}
use Rattle.clr_sql.specs.declared.targets.Target.{Target}
use Rattle.clr_sql.specs.Quoting.{quoted_name, quoted_text}

-- the function that gives the WKT of a geometry with three decimals
abbrev pub wkt_function : Dialect → List ℕ
wkt_function PostGis = codes "ST_AsText"
wkt_function SpatiaLite = codes "AsWKT"

abbrev pub column_name : List ℕ × Kind → List ℕ
column_name column = codes ", " ++ quoted_name column.0

-- the function that leaves the heights of a geometry out
abbrev pub flat_function : Dialect → List ℕ
flat_function PostGis = codes "ST_Force2D"
flat_function SpatiaLite = codes "CastToXY"

-- the WKT of a row's geometry without heights, moved back from the origin, behind other columns
abbrev pub wkt_column : Target → List ℕ
wkt_column target =
    codes ", " ++ wkt_function target.dialect ++ codes "(ST_Translate(" ++ flat_function target.dialect ++ codes "(\"WKT\"), -("
    ++ metres_text target.origin.x ++ codes "), -(" ++ metres_text target.origin.y ++ codes "), 0), 3) AS \"WKT\""

abbrev pub shape_column : Target → Form → List ℕ
shape_column target form.Bare = []
shape_column target _ = wkt_column target

-- the rows of a table, as a layer has them
abbrev pub layer_query : Target → TableDef → List ℕ
layer_query target table =
    codes "SELECT \"KEY\"" ++ flat_map column_name table.columns ++ shape_column target table.shape ++ codes " FROM " ++ quoted_name table.name

abbrev pub column_title : List ℕ × Kind → List ℕ
column_title column = codes ", " ++ quoted_text column.0

abbrev pub shape_title : Form → List ℕ
shape_title form.Bare = []
shape_title _ = codes ", 'WKT'"

-- a row with the names of a layer's columns
abbrev pub titles : TableDef → List ℕ
titles table = codes "SELECT 'KEY'" ++ flat_map column_title table.columns ++ shape_title table.shape

-- the rows of a table behind the names of their columns: sqlite3 prints no names of its own for a query without rows
abbrev pub titled_query : Target → TableDef → List ℕ
titled_query target table = titles table ++ codes " UNION ALL " ++ layer_query target table
