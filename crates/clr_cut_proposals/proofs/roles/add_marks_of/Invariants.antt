use Rattle.std.proofs.Common.{◌≡◌, ◌++◌, map, take}
use Rattle.std.specs.List.{filter_map}
use Rattle.clr_cut_proposals.specs.RoleModels.{role_of}
use Rattle.clr_cut_proposals.specs.Roles.{marked_as}
use Rattle.clr_cut_proposals.proofs.roles.add_marks_of.Given as goal

-- the marks so far are added
abbrev pub invariant-loop-other : goal.invariant-loop-other
invariant-loop-other l = map role_of l.roles.items
    ≡ map role_of l.initial.roles.items ++ filter_map (marked_as (role_of l.role)) (map role_of (take l.other-index l.all))
