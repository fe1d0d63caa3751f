-- Rows that serve under a rule.
use Rattle.std.specs.Prelude.{ℕ, ◌==◌, pos, List, [], ◌∷◌, map, if◌then◌else◌}
use Rattle.std.specs.List.{enumerate_from}
use Rattle.clr_rows.specs.declared.places.Place.{Place}
use Rattle.clr_rows.specs.declared.places.Shape.TheVariants.{At}
use Rattle.clr_rows.specs.declared.rows.Row.{Row}
use Rattle.clr_rows.specs.declared.rows.Value.{Value}
use Rattle.clr_rows.specs.declared.rows.Value.TheVariants as value
use Rattle.clr_rows.specs.declared.tables.Kind.{Kind}
use Rattle.clr_rows.specs.declared.tables.Kind.TheVariants as kind
use Rattle.clr_rows.specs.declared.tables.TableDef.{TableDef}
use Rattle.clr_rules.specs.declared.sides.Side.{Side}

abbrev pub empty_value : Kind → Value
empty_value kind.Int = value.Int (pos 0)
empty_value kind.Words = value.Words []

-- the value that a filter asks for in a column, or an empty one of its kind
abbrev pub wanted_value : List (ℕ × Value) → ℕ → Kind → Value
wanted_value [] column k = empty_value k
wanted_value (c ∷ cs) column k = if c.0 == column then c.1 else wanted_value cs column k

abbrev pub wanted_in : List (ℕ × Value) → ℕ × (List ℕ × Kind) → Value
wanted_in filter e = wanted_value filter e.0 e.1.1

-- a row of a side at a place: the values that the side asks for, and else empty ones
abbrev pub serving_row : TableDef → Side → Place → Row
serving_row table side p = record { values = map (wanted_in side.filter) (enumerate_from 0 table.columns); shape = At p }
