-- Offices: a schema, rules, LIVE's content, and the workspaces under LIVE in order of creation.
use Rattle.std.specs.Prelude.{Bool, false, not, List, [], ◌∷◌, Option, Some, None, if◌then◌else◌, refl, filter, ◌||◌, is_some}
use Rattle.std.specs.Coded.{Coded, code_by, coded×, coded_list}
use Rattle.std.specs.Option.{option_map_or}
use Rattle.clr_rows.specs.declared.tables.TableDef.{TableDef}
use Rattle.clr_rows.specs.contracts.tables.TableDef as table_type
use Rattle.clr_rows.specs.Contents.{Content, coded_content, no_rows}
use Rattle.clr_rules.specs.declared.rules.Rule.{Rule}
use Rattle.clr_rules.specs.contracts.rules.Rule as rule_type
use Rattle.clr_workspaces.specs.Marks.{Mark, Name}
use Rattle.clr_workspaces.specs.Workspaces.{Workspace, coded_workspace, workspace_at}
use Rattle.clr_workspaces.specs.Operations.{with_current, with_marks}
use Rattle.clr_steps.specs.Names.{same_name, is_live}

pub record Office : Type 0 where
  pub schema : List TableDef
  pub book : List Rule
  pub live : Content
  pub workspaces : List Workspace

abbrev pub office_code : Coded Office
office_code =
    code_by (List TableDef × (List Rule × (Content × List Workspace)))
    (coded× (coded_list table_type.the_row.coded) (coded× (coded_list rule_type.the_row.coded) (coded× coded_content (coded_list coded_workspace))))
    (λ o. (o.schema, (o.book, (o.live, o.workspaces))))
    (λ p. record { schema = p.0; book = p.1.0; live = p.1.1.0; workspaces = p.1.1.1 })
    (λ _. refl)

-- the first workspace of a name
abbrev pub find_name : Name → List Workspace → Option Workspace
find_name name [] = None
find_name name (w ∷ ws) = if same_name name w.name then Some w else find_name name ws

-- the workspace of a name under LIVE; LIVE itself is none here
unfoldable pub workspace : Office → Name → Option Workspace
workspace o name = if is_live name then None else find_name name o.workspaces

-- whether LIVE or a workspace has this name
unfoldable pub stands : Office → Name → Bool
stands o name = is_live name || is_some (find_name name o.workspaces)

-- whether every rule is to hold in the content of LIVE or of a workspace
unfoldable pub is_kept : Office → Name → Bool
is_kept o name = is_live name || option_map_or (λ w. w.kept) (workspace o name) false

abbrev pub current_of : Option Workspace → Content
current_of None = no_rows
current_of (Some w) = w.current

-- the current content of LIVE or of a workspace
unfoldable pub content_of : Office → Name → Content
content_of o name = if is_live name then o.live else current_of (find_name name o.workspaces)

-- an office with other parts ----------------------------------------------------------------------

-- the office with other workspaces
abbrev pub with_workspaces : Office → List Workspace → Office
with_workspaces o ws = record o { workspaces = ws }

-- the workspaces of a name modified by f
abbrev pub modify : Name → (Workspace → Workspace) → List Workspace → List Workspace
modify name f [] = []
modify name f (w ∷ ws) = (if same_name name w.name then f w else w) ∷ modify name f ws

-- the marks of a workspace modified by f; LIVE, which has none, is no workspace
abbrev pub modify_marks : Name → (List Mark → List Mark) → List Workspace → List Workspace
modify_marks name f = modify name (with_marks f)

-- all but the workspaces of a name
abbrev pub without : Name → List Workspace → List Workspace
without name = filter (λ w. not (same_name name w.name))

-- the office with another current content of LIVE or of a workspace
unfoldable pub set_content : Office → Name → Content → Office
set_content o name content =
    if is_live name then record o { live = content } else with_workspaces o (modify name (with_current content) o.workspaces)

-- the office of a tree -----------------------------------------------------------------------------

-- all workspaces but the first, which is LIVE
abbrev pub below_live : List Workspace → List Workspace
below_live [] = []
below_live (w ∷ ws) = ws

-- the office that a schema, rules and the workspaces of a tree make
abbrev pub office_of : List TableDef → List Rule → List Workspace → Office
office_of schema book ws = record { schema = schema; book = book; live = (workspace_at ws 0).current; workspaces = below_live ws }
