-- The rules and what commands would leave fit one schema.
use Rattle.std.proofs.Common.{◌≡◌, ℕ, zero, suc, ◌<◌, List, [], ◌∷◌, sym, subst, arith}
use Rattle.clr_rows.specs.declared.cells.CellId.{CellId}
use Rattle.clr_rows.specs.declared.tables.TableDef.{TableDef}
use Rattle.clr_rows.specs.Contents.{Content, Changes, taken_over}
use Rattle.clr_rows.specs.Schemas.{FitsSchema}
use Rattle.clr_rules.specs.Books.{FitsBook, FitsContent}
use Rattle.clr_rules.specs.declared.rules.Rule.{Rule}
use Rattle.clr_workspaces.specs.Marks.{saved_content, mark_at}
use Rattle.clr_workspaces.specs.Workspaces.{Workspace, no_workspace, workspace_at}
use Rattle.clr_workspaces.specs.Operations.{keep_row, own_changes}
use Rattle.clr_workspaces.specs.declared.rebases.Keep.{Keep}
use Rattle.clr_steps.specs.Invariants.{OfficeFits, WorkspaceFits}
use Rattle.clr_steps.specs.Offices.{office_of}
use Rattle.clr_steps.proofs.FitLemmas.{keep_row_fits, none_fits, taken_fits}
use Rattle.clr_judges.specs.Fitting.{FitBoth, FitSome}

abbrev content_fits : (schema : List TableDef) (book : List Rule) (content : Content) → FitsBook schema book → FitsSchema schema content
    → FitsContent book content
content_fits schema book content rules rows = record { tables = schema; book = rules; rows = rows }

no_fits : (schema : List TableDef) → WorkspaceFits schema no_workspace
no_fits schema = record { base = none_fits schema; current = none_fits schema; saved = λ i. none_fits schema }

-- of an office, a workspace under LIVE, and any content
rows_at : (schema : List TableDef) (book : List Rule) (ws : List Workspace) → OfficeFits (office_of schema book ws) → (at : ℕ) → 0 < at
    → WorkspaceFits schema (workspace_at ws at)
rows_at schema book ws rows zero some = absurd (omega (arith, some))
rows_at schema book [] rows (suc k) some = no_fits schema
rows_at schema book (live ∷ ws) rows (suc k) some = rows.workspaces k

pub content_at : (schema : List TableDef) (book : List Rule) (ws : List Workspace) → OfficeFits (office_of schema book ws) → (at : ℕ)
    → FitsSchema schema (workspace_at ws at).current
content_at schema book ws rows zero = rows.live
content_at schema book ws rows (suc k) = (rows_at schema book ws rows (suc k) (omega arith)).current

pub next_fits : (book : List Rule) (current next : Content) → FitBoth book current next → FitsContent book next
next_fits book current next fit = record { tables = fit.tables; book = fit.book; rows = fit.after }

module _ (book : List Rule) (ws : List Workspace) (h : FitSome book ws) where
  pub fit_current : (at : ℕ) → FitsContent book (workspace_at ws at).current
  fit_current at = content_fits h.tables book _ h.book (content_at h.tables book ws h.rows at)

  -- a current content, and another one
  both : (at : ℕ) (next : Content) → FitsSchema h.tables next → FitBoth book (workspace_at ws at).current next
  both at next fits = record { tables = h.tables; book = h.book; before = content_at h.tables book ws h.rows at; after = fits }

  -- the current contents of two workspaces
  pub fit_two : (at other : ℕ) → FitBoth book (workspace_at ws at).current (workspace_at ws other).current
  fit_two at other = both at _ (content_at h.tables book ws h.rows other)

  module _ (at : ℕ) (some : 0 < at) where
    fits_at : WorkspaceFits h.tables (workspace_at ws at)
    fits_at = rows_at h.tables book ws h.rows at some

    pub fit_base : FitBoth book (workspace_at ws at).current (workspace_at ws at).base
    fit_base = both at _ fits_at.base

    pub fit_saved : (mark : ℕ) → FitBoth book (workspace_at ws at).current (saved_content (mark_at (workspace_at ws at).marks mark))
    fit_saved mark = both at _ (fits_at.saved mark)

    -- its changes, taken over by another workspace
    pub fit_taken : (here above : ℕ) (changed : Changes) → changed ≡ own_changes (workspace_at ws at)
        → FitBoth book (workspace_at ws here).current (taken_over (workspace_at ws above).current changed)
    fit_taken here above changed e =
        let w = workspace_at ws at in
        let content = (workspace_at ws above).current in
        subst (λ set. FitBoth book (workspace_at ws here).current (taken_over content set)) (sym e)
        (both here _ (taken_fits h.tables content w.base w.current (content_at h.tables book ws h.rows above) fits_at.current))

    -- after one cell was resolved
    pub fit_kept : (above : ℕ) (cell : CellId) (keep : Keep)
        → FitBoth book (workspace_at ws at).current (keep_row cell keep (workspace_at ws above).current (workspace_at ws at)).current
    fit_kept above cell keep = both at _ (keep_row_fits h.tables cell keep (workspace_at ws above).current (content_at h.tables book ws h.rows above)
        (workspace_at ws at) fits_at).current
