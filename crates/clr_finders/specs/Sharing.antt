-- Which rows a row is found with under a rule: both have a role in it, and they share a spot or one of them is wide.
use Rattle.std.specs.Prelude.{◌≡◌, ℕ, Bool, false, not, List, [], ◌∷◌, ◌&&◌, ◌||◌, Option, Some, None, map, filter, length, slice_get}
use Rattle.std.specs.FinMap as finite
use Rattle.std.specs.List.{range_with_len}
use Rattle.std.specs.Option.{option_map}
use Rattle.clr_rows.specs.declared.cells.CellId.{CellId}
use Rattle.clr_rows.specs.declared.rows.Row.{Row}
use Rattle.clr_rows.specs.Cells.{cell_cmp}
use Rattle.clr_rows.specs.Contents.{Content, row_at}
use Rattle.clr_rules.specs.declared.rules.Rule.{Rule}
use Rattle.clr_rows.specs.Held.{Held}
use Rattle.clr_rules.specs.Sides.{has_role, is_of, sides}
use Rattle.clr_spots.specs.Spots.{are_sharing, have_common_spot, spots_under, is_wide_under}
use Rattle.clr_finders.specs.declared.row_spots.RuleSpots.{RuleSpots}

-- rows ---------------------------------------------------------------------------------------

-- the row is of the side that serves
abbrev pub may_serve : Rule → Held → Bool
may_serve rule s = is_of (sides rule).server s

abbrev pub may_serve_by : Option Rule → Held → Bool
may_serve_by None s = false
may_serve_by (Some rule) s = may_serve rule s

unfoldable pub may_serve_under : List Rule → ℕ → Held → Bool
may_serve_under rules number s = may_serve_by (slice_get rules number) s

-- contents -----------------------------------------------------------------------------------

-- the cells of a content whose rows share with a row, ascending
unfoldable pub sharing : List Rule → ℕ → Content → Held → List CellId
sharing rules number content s = map (λ t. t.0) (filter (are_sharing rules number s) (finite.entries content))

-- the cells of a content whose rows share with a row and are of the side that serves, ascending
unfoldable pub sharing_servers : List Rule → ℕ → Content → Held → List CellId
sharing_servers rules number content s = map (λ t. t.0) (filter (λ t. are_sharing rules number s t && may_serve_under rules number t) (finite.entries content))

-- finders ------------------------------------------------------------------------------------

-- what a finder keeps of a row under the rule of a number
unfoldable pub rule_spots : List Rule → ℕ → Held → RuleSpots
rule_spots rules number s = record {
  spots = record { list = spots_under rules number s; wide = is_wide_under rules number s };
  has_role = has_role rules number s;
  may_serve = may_serve_under rules number s;
}

-- what a finder keeps of a row under each rule
abbrev pub row_spots : List Rule → Held → List RuleSpots
row_spots rules s = map (λ number. rule_spots rules number s) (range_with_len 0 (length rules))

-- the row at a cell, if there is one
abbrev pub rows_at : CellId → Option Row → List Held
rows_at cell None = []
rows_at cell (Some row) = (cell, row) ∷ []

-- the spots of rows under each rule, by cell
abbrev pub Settled : Type 0
Settled = finite.FinMap cell_cmp (List RuleSpots)

-- the spots of rows that are to stand at some cells, or none where no row is to stand
abbrev pub Pending : Type 0
Pending = finite.FinMap cell_cmp (Option (List RuleSpots))

abbrev pub next_of : Option (List RuleSpots) → Option (Option (List RuleSpots)) → Option (List RuleSpots)
next_of now None = now
next_of now (Some next) = next

-- what stands at a cell once what is pending is settled
abbrev pub next_at : Settled → Pending → CellId → Option (List RuleSpots)
next_at settled pending q = next_of (finite.get settled q) (finite.get pending q)

-- two rows of these spots have a role, and they share a spot or one of them is wide
unfoldable pub are_meeting : RuleSpots → RuleSpots → Bool
are_meeting x y = x.has_role && (y.has_role && (x.spots.wide || y.spots.wide || have_common_spot x.spots.list y.spots.list))

-- a row is found, servers alone or all
abbrev pub is_met : Bool → RuleSpots → Option RuleSpots → Bool
is_met servers x None = false
is_met servers x (Some y) = are_meeting x y && (not servers || y.may_serve)

abbrev pub is_met_at : Bool → RuleSpots → ℕ → Option (List RuleSpots) → Bool
is_met_at servers x number None = false
is_met_at servers x number (Some ys) = is_met servers x (slice_get ys number)

-- the cells whose rows are found under the rule of a number, ascending
unfoldable pub found_cells : Bool → Settled → ℕ → RuleSpots → List CellId
found_cells servers settled number x = map (λ e. e.0) (filter (λ e. is_met_at servers x number (Some e.1)) (finite.entries settled))

-- each row of a content is settled, and no other
abbrev pub IsSettledFor : Settled → List Rule → Content → Type 0
IsSettledFor settled rules content = (q : CellId) → finite.get settled q ≡ option_map (λ row. row_spots rules (q, row)) (row_at content q)
