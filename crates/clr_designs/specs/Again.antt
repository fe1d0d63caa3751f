-- Designs that stand and are brought again: each keeps its base, and its changes become others.
use Rattle.std.specs.Prelude.{◌≡◌, ◌&&◌, not, Bool, false, List, [], ◌∷◌, Option, Some, None}
use Rattle.std.specs.List.{list_any}
use Rattle.std.specs.Option.{option_map_or}
use Rattle.std.specs.Ordering.{eq_by_cmp}
use Rattle.clr_rows.specs.declared.cells.CellId.{CellId}
use Rattle.clr_rows.specs.Cells.{cell_cmp}
use Rattle.clr_rows.specs.Contents.{Content, changes, is_changed, no_rows}
use Rattle.clr_change.specs.declared.edits.Edit.{Edit}
use Rattle.clr_workspaces.specs.Marks.{Name}
use Rattle.clr_steps.specs.declared.commands.Command.{Command}
use Rattle.clr_steps.specs.declared.commands.Command.TheVariants.{Apply, RollAll}
use Rattle.clr_steps.specs.declared.commands.Reply.{Reply}
use Rattle.clr_steps.specs.declared.commands.Reply.TheVariants.{Done, NoWorkspace}
use Rattle.clr_steps.specs.Effects.{effect}
use Rattle.clr_steps.specs.Names.{is_live}
use Rattle.clr_steps.specs.Offices.{Office, content_of, set_content, stands, workspace}
use Rattle.clr_steps.specs.Readings.{changes_in, conflicts_in}
use Rattle.clr_steps.specs.Refusals.{breaks, first_of, refusal, when}
use Rattle.clr_steps.specs.Steps.{run}
use Rattle.clr_layer_changes.specs.Changes.{edits_between}

-- a command is done, or refused for the first reason that applies, and then nothing changes; no reason is that it is done
abbrev pub IsPerformed : Office → Command → Option Reply → Office → Type 0
IsPerformed o c None left = (refusal o c ≡ None) × (left ≡ effect o c)
IsPerformed o c (Some reply) left = (refusal o c ≡ Some reply) × (left ≡ o)

-- another content --------------------------------------------------------------------------------

-- why LIVE or a workspace can't have a content: nobody has the name, or else the content would break a need anew where every rule is to hold
abbrev pub content_refusal : Office → Name → Content → Option Reply
content_refusal o name content = first_of (when (not (stands o name)) NoWorkspace ∷ breaks o name content ∷ [])

-- LIVE or a workspace has this content; or it can't have it for this reason, and nothing changes
abbrev pub IsContentSet : Office → Name → Content → Option Reply → Office → Type 0
IsContentSet o name content None left = (content_refusal o name content ≡ None) × (left ≡ set_content o name content)
IsContentSet o name content (Some reply) left = (content_refusal o name content ≡ Some reply) × (left ≡ o)

-- designs that are brought again -----------------------------------------------------------------

-- a parent other than LIVE
abbrev pub is_elsewhere : Option Name → Bool
is_elsewhere None = false
is_elsewhere (Some parent) = not (is_live parent)

-- what the workspace of a name took over
abbrev pub base_in : Office → Name → Content
base_in o name = option_map_or (λ w. w.base) (workspace o name) no_rows

-- an office in which a workspace sees its base again; its savepoints are gone
abbrev pub rolled_back : Office → Name → Office
rolled_back o name = effect o (RollAll name)

-- the commands that bring a design again: its workspace is rolled back to its base, and then the edits are made in it
abbrev pub again_commands : Name → List Edit → List Command
again_commands name edits = RollAll name ∷ Apply name edits ∷ []

-- the office in which a design is brought again: as if its workspace had never been edited, and then came to see this content
abbrev pub with_design_again : Office → Name → Content → Office
with_design_again o name content = set_content (rolled_back o name) name content

-- a design is brought again
pub record IsBroughtAgain (o : Office) (name : Name) (content : Content) (left : Office) : Type 0 where
  -- both commands are done, the second with the edits that lead from the base to the content
  pub done : run o (again_commands name (edits_between (base_in o name) content)) (λ k. false) ≡ record { replies = Done ∷ Done ∷ []; office = left }
  -- rolled back, the workspace sees its base
  pub seen : content_of (rolled_back o name) name ≡ base_in o name
  -- the base is as it was
  pub base : base_in left name ≡ base_in o name
  -- the design changes just what the content changes of the base, and nothing else
  pub changed : changes_in left name ≡ changes (base_in o name) content
  -- and is in conflict just at the cells that LIVE has changed of the base too
  pub conflicts :
      (cell : CellId)
      → list_any (eq_by_cmp cell_cmp cell) (conflicts_in left name) ≡ (is_changed (base_in o name) content cell && is_changed (base_in o name) o.live cell)
