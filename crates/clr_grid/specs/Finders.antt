-- Finders by position: where there is a content, one of exactly its rows.
use Rattle.std.specs.Prelude.{◌≡◌, ℕ, List, [], ◌∷◌, ⊤, Option, Some, None, slice_index_or, slice_set}
use Rattle.std.specs.FinMap as finite
use Rattle.std.specs.Option.{option_map}
use Rattle.clr_rows.specs.declared.cells.CellId.{CellId}
use Rattle.clr_rows.specs.declared.cells.Change.{Change}
use Rattle.clr_rows.specs.Contents.{Changes, Content}
use Rattle.clr_rules.specs.Books.{FitTogether}
use Rattle.clr_rules.specs.declared.rules.Rule.{Rule}
use Rattle.clr_finders.specs.declared.row_spots.RuleSpots.{RuleSpots}
use Rattle.clr_finders.specs.RowMaps.{FiledRows}
use Rattle.clr_finders.specs.Sharing.{IsSettledFor, Pending, next_at, row_spots, rows_at}

-- a finder has settled just the rows of a content, and nothing is pending
abbrev pub IsFinderOf : List Rule → Content → FiledRows → Type 0
IsFinderOf book content finder = IsSettledFor finder.settled book content × (finder.pending ≡ finite.empty)

-- where there is a content
abbrev pub IsFinderAt : List Rule → Option Content → Option FiledRows → Type 0
IsFinderAt book None None = ⊤
IsFinderAt book (Some content) (Some finder) = IsFinderOf book content finder
IsFinderAt book _ _ = ⊥

-- one for each position
abbrev pub AreFinders : List Rule → List (Option Content) → List (Option FiledRows) → Type 0
AreFinders book [] [] = ⊤
AreFinders book (content ∷ contents) (finder ∷ finders) = IsFinderAt book content finder × AreFinders book contents finders
AreFinders book _ _ = ⊥

-- changes that are noted ----------------------------------------------------------------------------------------------

-- the rules and each row that is to stand fit one schema
abbrev pub FitAfter : List Rule → Changes → Type 0
FitAfter book changed = (q : CellId) (change : Change) → finite.get changed q ≡ Some change → FitTogether book (rows_at q change.after)

-- what is to stand at a cell
abbrev pub spots_after : List Rule → CellId → Change → Option (List RuleSpots)
spots_after book q change = option_map (λ row. row_spots book (q, row)) change.after

-- just these changes are pending
abbrev pub ArePending : List Rule → Changes → Pending → Type 0
ArePending book changed pending = (q : CellId) → finite.get pending q ≡ option_map (spots_after book q) (finite.get changed q)

-- a finder, where there is one, has noted changes
abbrev pub HasNoted : List Rule → Changes → Option FiledRows → Option FiledRows → Type 0
HasNoted book changed None None = ⊤
HasNoted book changed (Some old) (Some new) = (new.settled ≡ old.settled) × ArePending book changed new.pending
HasNoted book changed _ _ = ⊥

-- a finder, where there is one, has taken over what it noted
abbrev pub HasSettled : Option FiledRows → Option FiledRows → Type 0
HasSettled None None = ⊤
HasSettled (Some old) (Some new) = ((q : CellId) → finite.get new.settled q ≡ next_at old.settled old.pending q) × (new.pending ≡ finite.empty)
HasSettled _ _ = ⊥

-- a finder, where there is one, has dropped what it noted
abbrev pub HasForgotten : Option FiledRows → Option FiledRows → Type 0
HasForgotten None None = ⊤
HasForgotten (Some old) (Some new) = (new.settled ≡ old.settled) × (new.pending ≡ finite.empty)
HasForgotten _ _ = ⊥

-- the finder at a position has changed in a given way, and the others are as they were
abbrev pub IsChangedAt : (Option FiledRows → Option FiledRows → Type 0) → ℕ → List (Option FiledRows) → List (Option FiledRows) → Type 0
IsChangedAt changed at old new = (finder : Option FiledRows) × changed (slice_index_or old at None) finder × (new ≡ slice_set old at finder)
