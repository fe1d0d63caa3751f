-- A root with some of its change sets over it.
use Rattle.std.specs.Prelude.{ℕ, List, slice_get}
use Rattle.std.specs.List.{filter_map}
use Rattle.clr_rows.specs.Contents.{Changes, Content}
use Rattle.clr_rules.specs.declared.rules.Rule.{Rule}
use Rattle.clr_needs.specs.Members.{setting}
use Rattle.clr_needs.specs.Settings.{Setting}

-- the change sets at some positions
abbrev pub sets_at : List Changes → List ℕ → List Changes
sets_at sets positions = filter_map (slice_get sets) positions

-- a root with the change sets at some positions over it, and no others
abbrev pub setting_at : List Rule → Content → List Changes → List ℕ → Setting ℕ
setting_at rules root sets positions = setting rules root (sets_at sets positions)
