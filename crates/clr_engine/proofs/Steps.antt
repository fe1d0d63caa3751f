-- What commands leave keeps fitting, and keeps the rules.
use Rattle.std.proofs.Common.{◌≡◌, ℕ, Bool, true, false, List, None, sym, ap, subst}
use Rattle.clr_rows.specs.declared.tables.TableDef.{TableDef}
use Rattle.clr_change.specs.declared.edits.Edit.{Edit}
use Rattle.clr_change.specs.Edits.{after_edits, first_bad_edit}
use Rattle.clr_change.proofs.EditLemmas.{all_edited_fits}
use Rattle.clr_rules.specs.declared.rules.Rule.{Rule}
use Rattle.clr_workspaces.specs.Workspaces.{Workspace, workspace_at}
use Rattle.clr_rules.specs.Books.{FitsBook}
use Rattle.clr_steps.specs.declared.commands.Command.{Command}
use Rattle.clr_steps.specs.declared.commands.Reply.{Reply}
use Rattle.clr_steps.specs.Offices.{Office, office_of}
use Rattle.clr_steps.specs.Steps.{Answer, IsAnswer, is_lost, step, step_or_lost}
use Rattle.clr_steps.proofs.FitLemmas.{fit_law}
use Rattle.clr_steps.proofs.SchemaLemmas.{schema_law}
use Rattle.clr_judges.specs.Fitting.{FitBoth}
use Rattle.clr_judges.proofs.Fits.{content_at}
use Rattle.clr_engine.specs.Fitting.{IsFitting}

-- what holds before a step and after it holds after an answer
after_answer : (P : Office → Type 0) (o : Office) (c : Command) (reply : Reply) (left : Office) → P o → P (step o c).office → IsAnswer o c reply left → P left
after_answer P o c reply left was is e = subst P (sym (ap (λ (a : Answer). a.office) e)) (by (is_lost reply))
  where
    by : (lost : Bool) → P (step_or_lost lost o c).office
    by true = was
    by false = is

fits_step : (o : Office) (c : Command) → IsFitting o → IsFitting (step o c).office
fits_step o c h =
    let same = schema_law o c in
    record {
      book = subst (λ schema. FitsBook schema (step o c).office.book) (sym same.0) (subst (FitsBook o.schema) (sym same.1) h.book);
      rows =
          fit_law o c h.rows;
    }

-- rules and rows fit after every command
pub fits_after : (o : Office) (c : Command) (reply : Reply) (left : Office) → IsFitting o → IsAnswer o c reply left → IsFitting left
fits_after o c reply left h answered = after_answer IsFitting o c reply left h (fits_step o c h) answered

-- a workspace after edits that can be made
pub fit_edited : (schema : List TableDef) (book : List Rule) (ws : List Workspace) → IsFitting (office_of schema book ws) → (at : ℕ) (edits : List Edit)
    → first_bad_edit schema (workspace_at ws at).current 1 edits ≡ None
    → FitBoth book (workspace_at ws at).current (after_edits (workspace_at ws at).current edits)
fit_edited schema book ws h at edits none = record {
  tables = schema;
  book = h.book;
  before = content_at schema book ws h.rows at;
  after = all_edited_fits schema (workspace_at ws at).current edits (content_at schema book ws h.rows at) none;
}
