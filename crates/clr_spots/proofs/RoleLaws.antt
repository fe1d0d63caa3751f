-- The rows of one need share a spot of their roles in it.
use Rattle.std.proofs.Common.{◌≡◌, true, List, Option, Some, slice_get}
use Rattle.clr_rows.specs.Held.{Held}
use Rattle.clr_rules.specs.declared.needs.Ask.{Ask}
use Rattle.clr_rules.specs.declared.rules.Rule.{Rule}
use Rattle.clr_rules.specs.Books.{FitTogether}
use Rattle.clr_rules.specs.Calls as call
use Rattle.clr_rules.specs.Calls.{are_subjects, calls, serves}
use Rattle.clr_rules.proofs.CallLaws.{called_by}
use Rattle.clr_rules.proofs.FittingLemmas.{distance_fits}
use Rattle.clr_spots.specs.RoleSpots.{subject_spots_under, server_spots_under}
use Rattle.clr_spots.proofs.SharedSpots.{Common}
use Rattle.clr_spots.proofs.ShareLaws.{pair_meets, server_meets}

pub subjects_meet : (rules : List Rule) (rows : List Held) (ask : Ask) (s t : Held) → FitTogether rules rows → calls rules ask s (Some t) ≡ true
    → Common (subject_spots_under rules ask.rule ask.first_part s) (subject_spots_under rules ask.rule ask.second_part t)
unfolding subject_spots_under
subjects_meet rules rows ask s t fit e = let (rule, at, called) = called_by rules ask s (Some t) e in
    rw at (pair_meets rule ask s t (distance_fits rules rows ask.rule rule fit at) called)

pub servers_meet : (rules : List Rule) (ask : Ask) (s : Held) (t : Option Held) (r : Held) → calls rules ask s t ≡ true → serves rules ask s t r ≡ true
    → Common (subject_spots_under rules ask.rule ask.first_part s) (server_spots_under rules ask.rule r)
unfolding subject_spots_under server_spots_under serves
servers_meet rules ask s t r e f = let (rule, at, called) = called_by rules ask s t e in go rule at called f
  where
    go : (rule : Rule) → slice_get rules ask.rule ≡ Some rule → are_subjects rule ask s t ≡ true → call.is_server_of (slice_get rules ask.rule) ask s t r ≡ true
        → Common (subject_spots_under rules ask.rule ask.first_part s) (server_spots_under rules ask.rule r)
    go rule at called g = rw at (server_meets rule ask s t r called (rw at at g)).0
