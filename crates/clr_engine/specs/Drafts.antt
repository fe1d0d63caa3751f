-- Drafts, whose rows and rules fit one schema, and what keeps one from being an office.
use Rattle.std.specs.Prelude.{◌≡◌, ℕ, zero, suc, List, map, Option, Some, None, slice_get}
use Rattle.std.specs.Option.{option_or, option_map}
use Rattle.clr_audit.specs.Unknown.{first_unknown}
use Rattle.clr_judges.specs.Unheld.{unknown_from}
use Rattle.clr_rows.specs.Contents.{Content}
use Rattle.clr_rows.specs.declared.tables.TableDef.{TableDef}
use Rattle.clr_deltas.specs.Differing.{delta_from}
use Rattle.clr_deltas.specs.Deltas.{Delta}
use Rattle.clr_workspaces.specs.Workspaces.{Workspace}
use Rattle.clr_workspace_parts.specs.Parts.{workspace_of}
use Rattle.clr_workspace_parts.specs.declared.parts.Part.{Part}
use Rattle.clr_rules.specs.declared.rules.Rule.{Rule}
use Rattle.clr_rules.specs.declared.needs.Broken.{Broken}
use Rattle.clr_engine.specs.declared.drafts.AdmitFault.{AdmitFault}
use Rattle.clr_engine.specs.declared.drafts.AdmitFault.TheVariants as fault
use Rattle.clr_steps.specs.Offices.{Office, content_of}

-- the office that a schema, rules, LIVE's content and parts make
abbrev pub office_of_parts : List TableDef → List Rule → Content → List Part → Office
office_of_parts schema book live parts = record { schema = schema; book = book; live = live; workspaces = map workspace_of parts }

-- the workspace at a position in order of creation, where it isn't LIVE
abbrev pub part_at : Office → ℕ → Option Workspace
part_at o zero = None
part_at o (suc k) = slice_get o.workspaces k

-- a workspace by what it differs in from the current content of its parent
abbrev pub delta_in : Office → Workspace → Delta
delta_in o w = delta_from (content_of o w.parent) w

-- the first content that breaks a need which isn't known: its position, and the least such need. LIVE comes first, at 0, and then each kept workspace, in order
-- of creation
abbrev pub unheld_in : Office → List Broken → Option (ℕ × Broken)
unheld_in o known = option_or (option_map (λ need. (0, need)) (first_unknown o.book known o.live)) (unknown_from o.book known 1 o.workspaces)

-- a draft isn't admitted for that, or for want of memory
abbrev pub IsUnheld : Option (ℕ × Broken) → AdmitFault → Type 0
IsUnheld first fault.OutOfMemory = Unit {0}
IsUnheld first (fault.Broken position need) = first ≡ Some (position, need)
