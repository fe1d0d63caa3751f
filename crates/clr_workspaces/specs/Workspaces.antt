-- Workspaces with whole contents, in order of creation, LIVE first.
use Rattle.std.specs.Prelude.{ℕ, zero, suc, ◌+◌, Bool, true, false, ◌&&◌, List, [], Option, Some, None, count_by, position, slice_index_or, codes, refl}
use Rattle.std.specs.Coded.{Coded, code_by, coded×, coded_list, coded_bool}
use Rattle.std.specs.Str.{bytes_eq}
use Rattle.clr_rows.specs.Contents.{Content, coded_content, no_rows}
use Rattle.clr_rows.specs.Names.{live_name}
use Rattle.clr_workspaces.specs.Marks.{Name, Mark, coded_name, coded_mark}

-- a workspace: what it took over from its parent, what it sees now, its marks in order, and whether every rule is to hold in it
pub record Workspace : Type 0 where
  pub name : Name
  pub parent : Name
  pub base : Content
  pub current : Content
  pub marks : List Mark
  pub kept : Bool

abbrev pub coded_workspace : Coded Workspace
coded_workspace =
    code_by (Name × (Name × (Content × (Content × (List Mark × Bool)))))
    (coded× coded_name (coded× coded_name (coded× coded_content (coded× coded_content (coded× (coded_list coded_mark) coded_bool)))))
    (λ w. (w.name, (w.parent, (w.base, (w.current, (w.marks, w.kept))))))
    (λ p. record { name = p.0; parent = p.1.0; base = p.1.1.0; current = p.1.1.1.0; marks = p.1.1.1.1.0; kept = p.1.1.1.1.1 })
    (λ _. refl)

abbrev pub no_workspace : Workspace
no_workspace = record { name = []; parent = []; base = no_rows; current = no_rows; marks = []; kept = false }

-- LIVE with this content: it has no parent, no base and no marks, and every rule is to hold in it
abbrev pub live_workspace : Content → Workspace
live_workspace live = record { name = live_name; parent = []; base = no_rows; current = live; marks = []; kept = true }

-- the workspace at a position
abbrev pub workspace_at : List Workspace → ℕ → Workspace
workspace_at ws at = slice_index_or ws at no_workspace

-- the position of a name
abbrev pub find : List Workspace → Name → Option ℕ
find ws name = position (λ w. bytes_eq name w.name) ws

-- the position of the parent, which LIVE lacks
abbrev pub parent_of : List Workspace → ℕ → Option ℕ
parent_of ws at = find ws (workspace_at ws at).parent

-- how many workspaces have that name as their parent
abbrev pub children_of : List Workspace → Name → ℕ
children_of ws name = count_by (λ w. bytes_eq name w.parent) ws

abbrev pub is_child_named : Name → Name → Workspace → Bool
is_child_named parent name w = bytes_eq parent w.parent && bytes_eq name w.name

-- how many children of a workspace have this name
abbrev pub child_count : List Workspace → Name → Name → ℕ
child_count ws parent name = count_by (is_child_named parent name) ws

-- one more than what is above the parent, if there is one
abbrev pub one_above : (ℕ → ℕ) → Option ℕ → ℕ
one_above count None = 0
one_above count (Some above) = count above + 1

-- how many workspaces are above the one at a position, going up n steps at most
unfoldable pub depth_within : List Workspace → ℕ → ℕ → ℕ
depth_within ws zero at = 0
depth_within ws (suc n) at = one_above (depth_within ws n) (parent_of ws at)

-- how many workspaces are above the one at a position; they stand earlier, so there are no more than positions before it
abbrev pub depth_of : List Workspace → ℕ → ℕ
depth_of ws at = depth_within ws at at
