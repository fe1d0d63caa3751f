-- The cells behind a given one.
use Rattle.std.specs.Prelude.{Option, Some, None}
use Rattle.std.specs.declared.ops.Bound.{Bound}
use Rattle.std.specs.declared.ops.Bound.TheVariants.{Excluded, Unbounded}
use Rattle.clr_rows.specs.declared.cells.CellId.{CellId}

-- where the cells behind a given one begin
abbrev pub bound_behind : Option CellId → Bound CellId
bound_behind None = Unbounded
bound_behind (Some p) = Excluded p
