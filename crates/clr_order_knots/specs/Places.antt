-- Tests of needs by tables of members, and at places of a list.
use Rattle.std.specs.Prelude.{ℕ, Bool, true, false, not, ◌&&◌, ◌||◌, List, Option, Some, None, slice_get}
use Rattle.std.specs.List.{list_all, list_any}
use Rattle.clr_order_search.specs.declared.open_needs.OpenNeed.{OpenNeed}

abbrev pub passes : (OpenNeed → Bool) → Option OpenNeed → Bool
passes test None = false
passes test (Some need) = test need

-- the need at a place passes the test
abbrev pub passes_at : List OpenNeed → (OpenNeed → Bool) → ℕ → Bool
passes_at needs test at = passes test (slice_get needs at)

-- all who help the need pass one test, and all who block it another
abbrev pub keeps : (ℕ → Bool) → (ℕ → Bool) → OpenNeed → Bool
keeps blocking helping need = list_all blocking need.helpers.items && list_all helping need.blockers.items

-- one who blocks the need or helps it passes the test
abbrev pub reaches : (ℕ → Bool) → OpenNeed → Bool
reaches test need = list_any test need.blockers.items || list_any test need.helpers.items

-- a test that is wanted, or its opposite
abbrev pub as_wanted : Bool → Bool → Bool
as_wanted true passed = passed
as_wanted false passed = not passed
