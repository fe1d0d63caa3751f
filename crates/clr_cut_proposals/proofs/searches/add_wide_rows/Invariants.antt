use Rattle.std.proofs.Common.{◌≡◌, ◌++◌, map, take}
use Rattle.std.specs.List.{flat_map}
use Rattle.clr_cut_proposals.specs.RoleModels.{role_of}
use Rattle.clr_cut_proposals.specs.Searches.{wide_text}
use Rattle.clr_cut_proposals.proofs.searches.add_wide_rows.Given as goal

-- the statements so far are added
abbrev pub invariant-loop-role : goal.invariant-loop-role
invariant-loop-role l = l.text.items ≡ l.initial.text.items ++ flat_map (wide_text l.target l.schema) (map role_of (take l.role-index l.roles))
