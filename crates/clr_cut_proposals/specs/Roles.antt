-- The roles of rows in a rule, each with what its rows are found by: the values of columns, or a place. A row shares a spot with another where these agree
-- (clr_spots).
use Rattle.std.specs.Prelude.{ℤ, ◌==◌, List, [], ◌∷◌, ◌++◌, Option, Some, None, if◌then◌else◌}
use Rattle.std.specs.List.{filter_map, flat_map}
use Rattle.clr_rules.specs.declared.columns.Col.{Col}
use Rattle.clr_rules.specs.declared.rules.Rule.{Rule}
use Rattle.clr_rules.specs.declared.rules.Rule.TheVariants.{Unique, Partner, EndNode, Crossing, Near}
use Rattle.clr_rules.specs.declared.rules.Tip.{Tip}
use Rattle.clr_rules.specs.declared.sides.Side.{Side}

-- by these columns, by the whole geometry, by an end of it, or by all that is nearer to it than a distance
pub data Mark : Type 0 where
  ByColumns : List Col → Mark
  Whole : Mark
  AtEnd : Tip → Mark
  Within : ℤ → Mark

abbrev pub Role : Type 0
Role = Side × Mark

-- the roles of two subjects: where one of these rows is new, the other stands beside it
abbrev pub paired_roles : Rule → List Role
paired_roles (Unique subject columns) = (subject, ByColumns columns) ∷ []
paired_roles (Crossing a b server) = (a, Whole) ∷ (b, Whole) ∷ []
paired_roles (Near a b d) = (a, Within d) ∷ (b, Within d) ∷ []
paired_roles _ = []

-- the role of a subject alone
abbrev pub lone_roles : Rule → List Role
lone_roles (Partner subject columns server server_columns) = (subject, ByColumns columns) ∷ []
lone_roles (EndNode subject tip server) = (subject, AtEnd tip) ∷ []
lone_roles _ = []

-- the role of rows that serve
abbrev pub serving_roles : Rule → List Role
serving_roles (Partner subject columns server server_columns) = (server, ByColumns server_columns) ∷ []
serving_roles (EndNode subject tip server) = (server, Whole) ∷ []
serving_roles (Crossing a b server) = (server, Whole) ∷ []
serving_roles _ = []

abbrev pub all_roles : Rule → List Role
all_roles rule = lone_roles rule ++ paired_roles rule ++ serving_roles rule

-- a row of one role has the mark of another too, if both are of one table: as where rows of a table name others of it
abbrev pub marked_as : Role → Role → Option Role
marked_as role other = if role.0.table == other.0.table then Some (role.0, other.1) else None

-- the rows that serve, by each mark that they may have
abbrev pub serving_marks : Rule → List Role
serving_marks rule = flat_map (λ role. filter_map (marked_as role) (all_roles rule)) (serving_roles rule)
