-- Workspaces of a tree that are kept and break a need that isn't known.
use Rattle.std.specs.Prelude.{ℕ, suc, List, [], ◌∷◌, Option, None, if◌then◌else◌}
use Rattle.std.specs.Option.{option_or, option_map}
use Rattle.clr_audit.specs.Unknown.{first_unknown}
use Rattle.clr_rules.specs.declared.needs.Broken.{Broken}
use Rattle.clr_rules.specs.declared.rules.Rule.{Rule}
use Rattle.clr_workspaces.specs.Workspaces.{Workspace}

-- the least need that a workspace breaks, where it is kept, and that isn't known
abbrev pub unknown_at : List Rule → List Broken → Workspace → Option Broken
unknown_at book known w = if w.kept then first_unknown book known w.current else None

-- the first of some workspaces, counted on from a position, that is kept and breaks a need that isn't known, and the least such need
unfoldable pub unknown_from : List Rule → List Broken → ℕ → List Workspace → Option (ℕ × Broken)
unknown_from book known at [] = None
unknown_from book known at (w ∷ ws) = option_or (option_map (λ need. (at, need)) (unknown_at book known w)) (unknown_from book known (suc at) ws)
