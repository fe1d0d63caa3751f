-- What holds of an office after every step, if it did before.
use Rattle.std.specs.Prelude.{◌≡◌, ℕ, suc, true, List, [], ◌∷◌, Option, None, if◌then◌else◌}
use Rattle.std.specs.Option.{option_or, option_map}
use Rattle.clr_rows.specs.declared.tables.TableDef.{TableDef}
use Rattle.clr_rows.specs.Contents.{row_at}
use Rattle.clr_rows.specs.Schemas.{FitsSchema}
use Rattle.clr_rules.specs.declared.needs.Broken.{Broken}
use Rattle.clr_rules.specs.declared.rules.Rule.{Rule}
use Rattle.clr_rules.specs.Needs.{Holds}
use Rattle.clr_workspaces.specs.Marks.{Name, saved_content, mark_at}
use Rattle.clr_workspaces.specs.Workspaces.{Workspace, workspace_at}
use Rattle.clr_steps.specs.Offices.{Office, content_of, is_kept}
use Rattle.clr_steps.specs.Refusals.{first_broken}

-- every rule holds in LIVE and in each workspace that is kept
abbrev pub HoldsWhereKept : Office → Type 0
HoldsWhereKept o = (name : Name) → is_kept o name ≡ true → Holds o.book (row_at (content_of o name))

-- the first of some workspaces, counted on from a position, that is kept and breaks a rule, and its least broken need
unfoldable pub unheld_from : List Rule → ℕ → List Workspace → Option (ℕ × Broken)
unheld_from book at [] = None
unheld_from book at (w ∷ ws) = option_or (option_map (λ need. (at, need)) (if w.kept then first_broken book w.current else None)) (unheld_from book (suc at) ws)

-- the first workspace of a tree that is kept and breaks a rule, LIVE having position 0
abbrev pub first_unheld : List Rule → List Workspace → Option (ℕ × Broken)
first_unheld book ws = unheld_from book 0 ws

-- each row of a workspace fits the schema, in its savepoints too
pub record WorkspaceFits (schema : List TableDef) (w : Workspace) : Type 0 where
  pub base : FitsSchema schema w.base
  pub current : FitsSchema schema w.current
  pub saved : (i : ℕ) → FitsSchema schema (saved_content (mark_at w.marks i))

-- each row of an office fits its schema; a position past the end has none
pub record OfficeFits (o : Office) : Type 0 where
  pub live : FitsSchema o.schema o.live
  pub workspaces : (i : ℕ) → WorkspaceFits o.schema (workspace_at o.workspaces i)
