use Rattle.std.proofs.Common.{◌≡◌, ◌++◌, map, take}
use Rattle.std.specs.List.{flat_map}
use Rattle.clr_cut_proposals.specs.RoleModels.{role_of, table_of}
use Rattle.clr_cut_proposals.specs.Searches.{search_text}
use Rattle.clr_cut_proposals.proofs.searches.add_searches_from.Given as goal

-- the searches so far are added
abbrev pub invariant-loop-row : goal.invariant-loop-row
invariant-loop-row l = l.text.items ≡ l.initial.text.items
    ++ flat_map (search_text l.target l.schema (table_of l.versions) (role_of l.version)) (map role_of (take l.row-index l.rows))
