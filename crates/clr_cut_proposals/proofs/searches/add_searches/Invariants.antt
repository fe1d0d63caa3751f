use Rattle.std.proofs.Common.{◌≡◌, ◌++◌, map, take}
use Rattle.clr_cut_proposals.specs.RoleModels.{role_of, table_of}
use Rattle.clr_cut_proposals.specs.Searches.{searches}
use Rattle.clr_cut_proposals.proofs.searches.add_searches.Given as goal

-- the searches so far are added
abbrev pub invariant-loop-version : goal.invariant-loop-version
invariant-loop-version l = l.text.items ≡ l.initial.text.items
    ++ searches l.target l.schema (table_of l.versions) (map role_of (take l.version-index l.from)) (map role_of l.rows)
