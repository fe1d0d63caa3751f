-- The designs that a plan is about, and what each changes.
use Rattle.std.specs.Prelude.{ℕ, ◌==◌, Bool, List, [], ◌∷◌, ◌++◌, flat_map, position, take, Option, Some, None, slice_get, unwrap_or, if◌then◌else◌}
use Rattle.std.specs.FinMap as finite
use Rattle.std.specs.List.{list_any, range_with_len}
use Rattle.std.specs.Option.{option_and_then}
use Rattle.clr_rows.specs.declared.cells.CellId.{CellId}
use Rattle.clr_rows.specs.declared.cells.Change.{Change}
use Rattle.clr_rows.specs.Contents.{Changes}
use Rattle.clr_needs.specs.Members.{after_of, positions}
use Rattle.clr_needs.specs.Settings.{first_changer}
use Rattle.clr_member_changes.specs.declared.counts.Counts.{Counts}
use Rattle.clr_member_changes.specs.Counts.{counts_of}
use Rattle.clr_map_scenes.specs.declared.designs.Designs.{Designs}

abbrev pub is_among : List ℕ → ℕ → Bool
is_among positions at = list_any (λ other. other == at) positions

-- a position that doesn't lead
abbrev pub follower : List ℕ → ℕ → List ℕ
follower leaders at = if is_among leaders at then [] else at ∷ []

-- of the first so many positions, those that don't lead
unfoldable pub followers : List ℕ → ℕ → List ℕ
followers leaders count = flat_map (follower leaders) (range_with_len 0 count)

-- the positions of designs, those that lead first
abbrev pub order_of : ℕ → List ℕ → List ℕ
order_of count leaders = leaders ++ followers leaders count

-- the designs that a cause names
abbrev pub leaders_of : Designs → List ℕ
leaders_of d = take d.leading d.order.items

abbrev pub sets_of : Designs → List Changes
sets_of d = d.members.now.changes.items

-- the place of a design in the order in which they are told
unfoldable pub index_of_design : List ℕ → ℕ → Option ℕ
index_of_design order at = position (λ other. other == at) order

abbrev pub rank_of : List ℕ → ℕ → ℕ
rank_of order at = unwrap_or (index_of_design order at) at

-- what a design changes at a cell
abbrev pub change_of : List Changes → ℕ → CellId → Option Change
change_of sets at q = option_and_then (λ set. finite.get set q) (slice_get sets at)

-- the first design that changes a cell
abbrev pub changer_of : List Changes → CellId → Option ℕ
changer_of sets q = first_changer (after_of sets) (positions sets) q

abbrev pub counts_by : Option Changes → Counts
counts_by None = record { added = 0; changed = 0; removed = 0 }
counts_by (Some set) = counts_of set

-- past the end no row is changed
abbrev pub counts_at : List Changes → ℕ → Counts
counts_at sets at = counts_by (slice_get sets at)
