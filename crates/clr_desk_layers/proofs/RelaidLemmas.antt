-- What is read of the text of a draft, with another content of LIVE.
use Rattle.std.proofs.Common.{◌≡◌, ◌∷◌, ℕ, List, Option, Some, None, Result, Ok, ap, sym, ◌∙◌}
use Rattle.clr_rows.specs.Contents.{Changes, Content, changes, taken_over}
use Rattle.clr_rows.specs.Schemas.{FitsSchema}
use Rattle.clr_rows.proofs.ChangeLemmas.{taken_over-own}
use Rattle.clr_workspaces.specs.Operations.{after_write}
use Rattle.clr_workspaces.specs.Workspaces.{Workspace, live_workspace, workspace_at}
use Rattle.clr_workspace_parts.specs.Parts.{workspaces_fault}
use Rattle.clr_workspace_parts.specs.declared.parts.PartFault.{PartFault}
use Rattle.clr_steps.specs.Offices.{Office, office_of}
use Rattle.clr_engine.specs.Fitting.{IsFitting}
use Rattle.clr_designs.specs.Designs.{with_live}
use Rattle.clr_readings.specs.Readings.{◌>>=◌}
use Rattle.clr_rule_text.specs.Fields.{none_or_fault}
use Rattle.clr_rule_text.specs.declared.faults.TextFault.{TextFault}
use Rattle.clr_rule_text.specs.declared.faults.TextFault.TheVariants as text_fault
use Rattle.clr_office_reading.specs.Offices.{OfficeText, office_in}
use Rattle.clr_office_texts.specs.Drafts.{draft_in, if_standing, whole_office}

-- an office that stands is the one that was asked
stands_as : (p o : Office) → if_standing p ≡ Ok o → p ≡ o
unfolding if_standing
stands_as p o is = by (workspaces_fault p.live p.workspaces) is
  where
    by : (fault : Option (ℕ × PartFault)) → (none_or_fault text_fault.BadPart fault >>= λ _. Ok p) ≡ Ok o → p ≡ o
    by None told = cc
    by (Some fault) told = absurd (cc)

-- the draft of a text is the office that is written in it
pub draft_read : (text : List ℕ) (o : Office) (read : OfficeText) → draft_in text ≡ Ok o → office_in text ≡ Ok read → whole_office read ≡ o
unfolding draft_in
draft_read text o read is of =
    stands_as (whole_office read) o (sym (ap (λ (r : Result OfficeText TextFault). r >>= λ t. if_standing (whole_office t)) of) ∙ is)

-- the tree of an office with another content of LIVE
module _ (o : Office) (content : Content) (list next : List Workspace) (is : list ≡ live_workspace o.live ∷ o.workspaces) where
  pub relaid : (set : Changes) → set ≡ changes (workspace_at list 0).current content → next ≡ after_write list 0 set
      → office_of o.schema o.book next ≡ with_live o content
  relaid set of written =
      let put : taken_over o.live set ≡ content =
      ap (taken_over o.live) (of ∙ ap (λ (ws : List Workspace). changes (workspace_at ws 0).current content) is) ∙ taken_over-own o.live content in
      ap (office_of o.schema o.book) (written ∙ ap (λ (ws : List Workspace). after_write ws 0 set) is) ∙ ap (with_live o) put

-- it fits the schema, where this content does
pub relaid_fits : (o : Office) (content : Content) → IsFitting o → FitsSchema o.schema content → IsFitting (with_live o content)
relaid_fits o content fit fits = record { book = fit.book; rows = record { live = fits; workspaces = fit.rows.workspaces } }
