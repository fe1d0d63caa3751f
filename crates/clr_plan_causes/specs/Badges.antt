-- The few words beside the place of a cause.
use Rattle.std.specs.Prelude.{ℕ, Bool, false, not, List, [], ◌∷◌, ◌++◌, codes, nat_eq, nat_lt, slice_get, unwrap_or, if◌then◌else◌}
use Rattle.std.specs.List.{flat_map}
use Rattle.std.specs.Option.{option_and_then, option_map}
use Rattle.std.specs.Fmt.{signed_decimal}
use Rattle.clr_metres.specs.Metres.{metres_text}
use Rattle.clr_rows.specs.declared.cells.CellId.{CellId}
use Rattle.clr_rows.specs.declared.tables.TableDef.{TableDef}
use Rattle.clr_rows.specs.Schemas.{name_of_table}
use Rattle.clr_rules.specs.declared.columns.Col.{Col}
use Rattle.clr_rules.specs.declared.columns.Col.TheVariants as column
use Rattle.clr_rules.specs.declared.rules.Rule.{Rule}
use Rattle.clr_rules.specs.declared.rules.Rule.TheVariants.{Crossing, EndNode, Near, Partner, Unique}
use Rattle.clr_map_scenes.specs.declared.shown_causes.Mark.{Mark}
use Rattle.clr_map_scenes.specs.declared.shown_causes.Mark.TheVariants as mark

-- the name of a column of a table, and no bytes where it isn't there
abbrev pub column_name : List TableDef → ℕ → Col → List ℕ
column_name tables table column.Key = codes "KEY"
column_name tables table (column.At n) =
    unwrap_or (option_map (λ c. c.0) (option_and_then (λ def. slice_get def.columns n) (slice_get tables table))) []

-- the columns that rows have in common
abbrev pub same_words : List TableDef → ℕ → List Col → List ℕ
same_words tables table [] = []
same_words tables table (c ∷ cs) = codes "the same " ++ column_name tables table c ++ flat_map (λ other. codes ", " ++ column_name tables table other) cs

-- a ring round a place where no row can stand
abbrev pub is_between : Mark → Bool
is_between (mark.Ring ring) = not ring.is_whole
is_between mark.Link = false
is_between (mark.Near d) = false
is_between mark.Nothing = false

-- a server is missing: some that served go, or none stands at this mark
abbrev pub server_words : List ℕ → Mark → ℕ → List ℕ
server_words server m goers =
    if nat_lt 1 goers then codes "all its " ++ server ++ codes "s go"
    else if nat_eq goers 1 then codes "its " ++ server ++ codes " goes"
    else if is_between m then codes "no " ++ server ++ codes " can stand here"
    else codes "no " ++ server ++ codes " here"

-- why a need fails under a rule, where so many rows that served it go
abbrev pub badge_words : List TableDef → Rule → Mark → ℕ → List ℕ
badge_words tables (Unique subject columns) m goers = same_words tables subject.table columns
badge_words tables (Partner subject columns server others) m goers =
    if nat_eq goers 0 then codes "its " ++ name_of_table tables server.table ++ codes " is missing"
    else server_words (name_of_table tables server.table) m goers
badge_words tables (EndNode subject tip server) m goers = server_words (name_of_table tables server.table) m goers
badge_words tables (Crossing a b server) m goers = server_words (name_of_table tables server.table) m goers
badge_words tables (Near a b d) m goers = codes "closer than " ++ metres_text d ++ codes " m"

-- at a cell that a design and the root both change
abbrev pub conflict_words : List ℕ → List ℕ
conflict_words root = root ++ codes " changed too"

-- at a cell that two designs change
abbrev pub shared_words : List TableDef → CellId → List ℕ
shared_words tables q = codes "both change " ++ name_of_table tables q.table ++ codes " " ++ signed_decimal q.key
