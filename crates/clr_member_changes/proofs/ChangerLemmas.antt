-- The change set that is read first of those that change a cell.
use Rattle.std.proofs.Common.{◌∙◌, ◌≡◌, ◌<◌, ℕ, Bor, List, Option, None, Some, ap, is_some, length, refl, slice_index_or}
use Rattle.std.specs.FinMap as finite
use Rattle.std.specs.Option.{option_copied}
use Rattle.std.proofs.lemmas.Option.{slice_get_read}
use Rattle.clr_rows.specs.declared.cells.CellId.{CellId}
use Rattle.clr_rows.specs.Contents.{Changes}
use Rattle.clr_needs.specs.Members.{after_at, after_of}
use Rattle.clr_row_versions.proofs.SharedCells.{changes_mapped}

pub some_copied : {A : Type 0} (r : Option (Bor A)) → is_some (option_copied r) ≡ is_some r
some_copied None = refl
some_copied (Some a) = refl

-- a change set that is read changes the cell, or doesn't
pub changes_here : (sets : List Changes) (q : CellId) (at : ℕ) (set : Changes) → at < length sets → set ≡ slice_index_or sets at set
    → is_some (after_of sets at q) ≡ is_some (finite.get set q)
changes_here sets q at set less read =
    ap (λ s. is_some (after_at s q)) (slice_get_read sets (length sets) at set refl less read) ∙ changes_mapped (finite.get set q)
