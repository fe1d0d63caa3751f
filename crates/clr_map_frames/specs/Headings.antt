-- The names of designs in a heading.
use Rattle.std.specs.Prelude.{ℕ, ◌-◌, min, List, [], ◌∷◌, ◌++◌, codes, decimal, flat_map, length, map, nat_le, take, if◌then◌else◌}
use Rattle.clr_member_changes.specs.Names.{member_name}
use Rattle.clr_map_scenes.specs.declared.designs.Designs.{Designs}
use Rattle.clr_map_scenes.specs.Designs.{leaders_of}

abbrev pub design_names : Designs → List (List ℕ)
design_names d = map (λ name. name.now) d.members.now.names.now

-- the names of designs by position, with a comma before each
unfoldable pub behind_commas : List (List ℕ) → List ℕ → List ℕ
behind_commas names positions = flat_map (λ at. codes ", " ++ member_name names at) positions

-- with commas between them
abbrev pub listed : List (List ℕ) → List ℕ → List ℕ
listed names [] = []
listed names (at ∷ ats) = member_name names at ++ behind_commas names ats

abbrev pub design_count : Designs → ℕ
design_count d = length d.members.now.names.now

-- how many of many designs are named: four, or fewer where there are fewer
abbrev pub named_of : Designs → ℕ
named_of d = min 4 (length d.order.items)

unfoldable pub some_names : Designs → List ℕ
some_names d = listed (design_names d) (take (named_of d) d.order.items) ++ codes " and " ++ decimal (design_count d - named_of d) ++ codes " more"

unfoldable pub names_of_leaders : Designs → List ℕ
names_of_leaders d = listed (design_names d) (leaders_of d) ++ codes ", of " ++ decimal (design_count d) ++ codes " designs"

-- of many designs those that a cause names, or the first
abbrev pub few_names : Designs → List ℕ
few_names d = if nat_le (length (leaders_of d)) 0 then some_names d else names_of_leaders d

-- of up to six designs all, in the order in which they are told
abbrev pub design_names_text : Designs → List ℕ
design_names_text d = if nat_le (design_count d) 6 then listed (design_names d) d.order.items else few_names d
