-- Designs that have a wanted content, and LIVE with another content: what is left, or why it isn't done.
use Rattle.std.specs.Prelude.{◌≡◌, ◌⊎◌, false, List, [], ◌∷◌, ◌++◌, Option, Some, None}
use Rattle.clr_rows.specs.Contents.{Content}
use Rattle.clr_rows.specs.Names.{live_name}
use Rattle.clr_change.specs.declared.edits.Edit.{Edit}
use Rattle.clr_rules.specs.declared.needs.Broken.{Broken}
use Rattle.clr_workspaces.specs.Marks.{Name}
use Rattle.clr_workspaces.specs.Workspaces.{Workspace}
use Rattle.clr_steps.specs.declared.commands.Command.{Command}
use Rattle.clr_steps.specs.declared.commands.Command.TheVariants.{Create, Apply}
use Rattle.clr_steps.specs.declared.commands.Reply.{Reply}
use Rattle.clr_steps.specs.declared.commands.Reply.TheVariants.{Done, RuleBroken}
use Rattle.clr_steps.specs.Offices.{Office, with_workspaces}
use Rattle.clr_steps.specs.Refusals.{first_newly_broken, refusal}
use Rattle.clr_steps.specs.Steps.{answer, run, step}
use Rattle.clr_layer_changes.specs.Changes.{edits_between}

-- a command is done, or refused for the first reason that applies, and then nothing changes
abbrev pub IsCommandAnswer : Office → Command → Option Reply → Office → Type 0
IsCommandAnswer o c None left = step o c ≡ answer Done left
IsCommandAnswer o c (Some reply) left = (refusal o c ≡ Some reply) × (left ≡ o)

-- designs ------------------------------------------------------------------------------------

-- the commands that make a design: its workspace is created under LIVE, and then the edits are made in it
abbrev pub design_commands : Name → List Edit → List Command
design_commands name edits = Create name live_name ∷ Apply name edits ∷ []

-- the workspace of a design: a child of LIVE, whose content it took over, and which sees another
abbrev pub design_of : Name → Content → Content → Workspace
design_of name live content = record { name = name; parent = live_name; base = live; current = content; marks = []; kept = false }

-- an office with the workspace of a design behind the others, which took over a copied content; LIVE and the others are as they were
abbrev pub with_design_over : Office → Name → Content → Content → Office
with_design_over o name copied content = with_workspaces o (o.workspaces ++ design_of name copied content ∷ [])

-- the same with a design that took over LIVE's content
abbrev pub with_design : Office → Name → Content → Office
with_design o name content = with_design_over o name o.live content

-- why a design of this name can't be made: its workspace can't be created
abbrev pub design_refusal : Office → Name → Option Reply
design_refusal o name = refusal o (Create name live_name)

-- both commands are done, the second with the edits that lead from LIVE's content to another, and this office is left
abbrev pub AreDone : Office → Name → Content → Office → Type 0
AreDone o name content left =
    run o (design_commands name (edits_between o.live content)) (λ k. false) ≡ record { replies = Done ∷ Done ∷ []; office = left }

-- a design has this content; or it can't be made for this reason, and nothing changes
abbrev pub IsDesignMade : Office → Name → Content → Option Reply → Office → Type 0
IsDesignMade o name content None left = (design_refusal o name ≡ None) × AreDone o name content left × (left ≡ with_design o name content)
IsDesignMade o name content (Some reply) left = (design_refusal o name ≡ Some reply) × (left ≡ o)

-- nothing changes, or the workspace of a design stands with LIVE's content
abbrev pub IsDesignBegun : Office → Name → Office → Type 0
IsDesignBegun o name left = (left ≡ o) ⊎ (left ≡ with_design o name o.live)

-- LIVE ---------------------------------------------------------------------------------------

-- an office with another content of LIVE; its workspaces are as they were
abbrev pub with_live : Office → Content → Office
with_live o content = record o { live = content }

-- LIVE has this content; or it breaks a need that LIVE doesn't break now, with the same rows, the reply names the least one, and nothing changes
abbrev pub IsLiveReplaced : Office → Content → Option Reply → Office → Type 0
IsLiveReplaced o content None left = (first_newly_broken o.book o.live content ≡ None) × (left ≡ with_live o content)
IsLiveReplaced o content (Some reply) left =
    (need : Broken) × (first_newly_broken o.book o.live content ≡ Some need) × (reply ≡ RuleBroken need) × (left ≡ o)
