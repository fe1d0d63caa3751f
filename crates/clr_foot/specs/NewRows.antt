-- The rows that members bring, as a finder has them.
use Rattle.std.specs.Prelude.{◌≡◌, List}
use Rattle.std.specs.FinMap as finite
use Rattle.std.specs.Option.{option_map}
use Rattle.clr_rows.specs.declared.cells.CellId.{CellId}
use Rattle.clr_rows.specs.Contents.{Changes}
use Rattle.clr_rules.specs.declared.rules.Rule.{Rule}
use Rattle.clr_finders.specs.Sharing.{Settled, row_spots}
use Rattle.clr_row_versions.specs.Versions.{new_version_at}

-- the rows that members bring are filed by their spots, and no others
abbrev pub AreNewRowsFiled : Settled → List Rule → List Changes → Type 0
AreNewRowsFiled settled rules sets = (q : CellId) → finite.get settled q ≡ option_map (λ l. row_spots rules (q, l.row)) (new_version_at sets q)
