-- Rows filed by their spots under a rule, each role apart.
use Rattle.std.specs.Prelude.{ℕ, zero, suc, Bool, List, [], ◌∷◌, ◌++◌, ◌||◌, if◌then◌else◌}
use Rattle.clr_rules.specs.declared.roles.Roles.{Roles}
use Rattle.clr_rules.specs.declared.rules.Rule.{Rule}
use Rattle.clr_spots.specs.declared.spots.Spot.{Spot}
use Rattle.clr_rules.specs.Calls.{part_count}
use Rattle.clr_rules.specs.Roles.{roles_under}
use Rattle.clr_spots.specs.RoleSpots.{subject_spots_under, server_spots_under}
use Rattle.clr_rows.specs.Held.{Held}
use Rattle.clr_spots.specs.Spots.{unless_many, are_many}
use Rattle.clr_audit.specs.declared.role_index.RoleIndex.{RoleIndex}
use Rattle.clr_spots.specs.declared.spot_maps.FiledPart.{FiledPart}
use Rattle.clr_spots.specs.Filing.{nothing_filed, with_filed, near}

abbrev pub no_rows_filed : RoleIndex
no_rows_filed = record { firsts = nothing_filed; seconds = nothing_filed; boths = nothing_filed; servers = nothing_filed }

-- a part of one of two subjects, filed by which of them it may be
abbrev pub with_subject : RoleIndex → Roles → FiledPart → List Spot → Bool → RoleIndex
with_subject index roles e xs wide =
    if roles.first
    then (if roles.second then record index { boths = with_filed index.boths e xs wide } else record index { firsts = with_filed index.firsts e xs wide })
    else (if roles.second then record index { seconds = with_filed index.seconds e xs wide } else index)

-- the first parts of a row, as many as the number says
abbrev pub with_parts : List Rule → ℕ → RoleIndex → ℕ → Held → ℕ → RoleIndex
with_parts rules n index position s zero = index
with_parts rules n index position s (suc k) =
    with_subject (with_parts rules n index position s k) (roles_under rules n s) (record { position = position; part = suc k })
    (unless_many (subject_spots_under rules n (suc k) s)) (are_many (subject_spots_under rules n (suc k) s))

-- all parts of a row that may be one of two subjects
abbrev pub with_pairs : List Rule → ℕ → RoleIndex → ℕ → Held → RoleIndex
with_pairs rules n index position s =
    if (roles_under rules n s).first || (roles_under rules n s).second then with_parts rules n index position s (part_count rules n s) else index

abbrev pub with_server : List Rule → ℕ → RoleIndex → ℕ → Held → RoleIndex
with_server rules n index position s =
    if (roles_under rules n s).server
    then record index {
      servers = with_filed index.servers (record { position = position; part = 1 })
          (unless_many (server_spots_under rules n s)) (are_many (server_spots_under rules n s));
    }
    else index

abbrev pub with_row : List Rule → ℕ → RoleIndex → ℕ → Held → RoleIndex
with_row rules n index position s = with_pairs rules n (with_server rules n index position s) position s

-- the rows from a position on, filed under the rule of a number
abbrev pub filed_rows : List Rule → ℕ → RoleIndex → ℕ → List Held → RoleIndex
filed_rows rules n index position [] = index
filed_rows rules n index position (s ∷ rows) = filed_rows rules n (with_row rules n index position s) (suc position) rows

-- the filed parts of subjects that may stand beside a row of these roles and spots
abbrev pub partners : RoleIndex → Roles → List Spot → Bool → List FiledPart
partners index roles xs wide =
    near index.boths xs wide
    ++ ((if roles.second then near index.firsts xs wide else []) ++ (if roles.first then near index.seconds xs wide else []))
