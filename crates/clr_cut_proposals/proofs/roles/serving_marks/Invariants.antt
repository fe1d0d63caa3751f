use Rattle.std.proofs.Common.{◌≡◌, map, take}
use Rattle.std.specs.List.{filter_map, flat_map}
use Rattle.clr_cut_proposals.specs.RoleModels.{role_of}
use Rattle.clr_cut_proposals.specs.Roles.{all_roles, marked_as, serving_roles}
use Rattle.clr_cut_proposals.proofs.roles.serving_marks.Given as goal

-- the roles so far are there by each mark
abbrev pub invariant-loop-role : goal.invariant-loop-role
invariant-loop-role l = map role_of l.roles.items
    ≡ flat_map (λ role. filter_map (marked_as role) (all_roles l.rule)) (take l.role-index (serving_roles l.rule))
