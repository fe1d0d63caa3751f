use Rattle.std.proofs.Common.{◌≡◌, map, take}
use Rattle.clr_office.specs.NameHints.{workspace_names}
use Rattle.clr_office.proofs.name_hints.names_of_workspaces.Given as goal

-- the names so far
abbrev pub invariant-loop-at : goal.invariant-loop-at
invariant-loop-at l = map (λ name. name.now) l.names.items ≡ take l.at (workspace_names l.fn.office)
