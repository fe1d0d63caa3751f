-- What holds of designs by their definitions, whatever the code does.
use Rattle.std.specs.Prelude.{◌≡◌, ◌∷◌, List, None, false}
use Rattle.std.specs.List.{All}
use Rattle.clr_rows.specs.declared.tables.TableDef.{TableDef}
use Rattle.clr_rows.specs.Contents.{Content}
use Rattle.clr_rows.specs.Schemas.{FitsSchema}
use Rattle.clr_workspaces.specs.Marks.{Name}
use Rattle.clr_workspaces.specs.Soundness.{IsSound}
use Rattle.clr_workspaces.specs.Workspaces.{live_workspace}
use Rattle.clr_steps.specs.Invariants.{OfficeFits}
use Rattle.clr_steps.specs.declared.commands.Command.TheVariants.{RollAll}
use Rattle.clr_steps.specs.Offices.{Office}
use Rattle.clr_steps.specs.Readings.{parent_in}
use Rattle.clr_steps.specs.Refusals.{refusal}
use Rattle.clr_layer_changes.specs.Changes.{edits_between}
use Rattle.clr_designs.specs.Again.{IsBroughtAgain, content_refusal, is_elsewhere, rolled_back, with_design_again}
use Rattle.clr_designs.specs.ReadBack.{Fits}
use Rattle.clr_designs.specs.Designs.{AreDone, design_refusal, with_design, with_design_over}
use Rattle.clr_designs.specs.Since.{IsMadeSince}

-- the edits that lead from one content to another fit the schema, if both contents do
abbrev pub EditsFitLaw : Type 0
EditsFitLaw = (tables : List TableDef) (base content : Content)
    → FitsSchema tables base → FitsSchema tables content → All (Fits tables) (edits_between base content)

-- where the workspace of a design may be created, both of its commands are done, and they leave the office with the design
abbrev pub DesignLaw : Type 0
DesignLaw = (o : Office) (name : Name) (content : Content)
    → IsSound (live_workspace o.live ∷ o.workspaces) → OfficeFits o → FitsSchema o.schema content → design_refusal o name ≡ None
    → AreDone o name content (with_design o name content)

-- where the workspace of a design may be created, an office with a design that took over a copied content is one in which the design was made where LIVE
-- had that content, and LIVE has moved on since
abbrev pub SinceLaw : Type 0
SinceLaw = (o : Office) (name : Name) (copied content : Content)
    → IsSound (live_workspace o.live ∷ o.workspaces) → OfficeFits o → FitsSchema o.schema copied → FitsSchema o.schema content
    → design_refusal o name ≡ None → IsMadeSince o name copied content (with_design_over o name copied content)

-- where a workspace under LIVE may be rolled back, and may then have a content, an office in which it has come to have it is one in which the design was
-- brought again
abbrev pub AgainLaw : Type 0
AgainLaw = (o : Office) (name : Name) (content : Content)
    → OfficeFits o → FitsSchema o.schema content → is_elsewhere (parent_in o name) ≡ false → refusal o (RollAll name) ≡ None
    → content_refusal (rolled_back o name) name content ≡ None → IsBroughtAgain o name content (with_design_again o name content)
