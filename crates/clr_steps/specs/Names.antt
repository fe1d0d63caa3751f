-- Names of workspaces, and lists of names as sets.
use Rattle.std.specs.Prelude.{Bool, false, ◌||◌, List, [], ◌∷◌}
use Rattle.std.specs.Str.{bytes_eq}
use Rattle.clr_rows.specs.Names.{live_name}
use Rattle.clr_workspaces.specs.Marks.{Name}

unfoldable pub same_name : Name → Name → Bool
same_name = bytes_eq

unfoldable pub is_live : Name → Bool
is_live name = bytes_eq name live_name

-- whether a name stands in a list
abbrev pub has : List Name → Name → Bool
has [] name = false
has (n ∷ ns) name = same_name n name || has ns name
