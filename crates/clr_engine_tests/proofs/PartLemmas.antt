-- Parts without rows fit every schema.
use Rattle.std.proofs.Common.{◌≡◌, ℕ, zero, suc, List, [], ◌∷◌, ◌++◌, map, subst, sym}
use Rattle.std.specs.List.{AllByRecursion}
use Rattle.clr_rows.specs.Contents.{Content, no_rows}
use Rattle.clr_rows.specs.Schemas.{FitsSchema}
use Rattle.clr_rows.specs.declared.tables.TableDef.{TableDef}
use Rattle.clr_rules.specs.Books.{FitsBook}
use Rattle.clr_rules.specs.declared.rules.Rule.{Rule}
use Rattle.clr_workspaces.specs.Marks.{mark_at, saved_content}
use Rattle.clr_workspaces.specs.Workspaces.{workspace_at}
use Rattle.clr_workspace_parts.specs.Parts.{marks_of, workspace_of}
use Rattle.clr_workspace_parts.specs.declared.parts.MarkPart.{MarkPart}
use Rattle.clr_workspace_parts.specs.declared.parts.Part.{Part}
use Rattle.clr_steps.specs.Invariants.{WorkspaceFits}
use Rattle.clr_steps.proofs.FitLemmas.{none_fits}
use Rattle.clr_engine.specs.Fitting.{IsFitting}
use Rattle.clr_engine.specs.Drafts.{office_of_parts}
use Rattle.clr_engine_tests.specs.Parts.{HasNoRows, SavesNoRows}

pub one_more : {X : Type 0} (P : X → Type 0) (xs : List X) (x : X) → AllByRecursion P xs → P x → AllByRecursion P (xs ++ x ∷ [])
one_more P [] x all one = (one, tt)
one_more P (y ∷ ys) x all one = (all.0, one_more P ys x all.1 one)

module _ (schema : List TableDef) where
  same_as_none : (content : Content) → content ≡ no_rows → FitsSchema schema content
  same_as_none content e = subst (λ c. FitsSchema schema c) (sym e) (none_fits schema)

  marks_fit : (marks : List MarkPart) → AllByRecursion SavesNoRows marks → (i : ℕ) → FitsSchema schema (saved_content (mark_at (marks_of marks) i))
  marks_fit [] all i = none_fits schema
  marks_fit (m ∷ ms) all zero = same_as_none _ all.0
  marks_fit (m ∷ ms) all (suc i) = marks_fit ms all.1 i

  parts_fit : (parts : List Part) → AllByRecursion HasNoRows parts → (i : ℕ) → WorkspaceFits schema (workspace_at (map workspace_of parts) i)
  parts_fit [] all i = record { base = none_fits schema; current = none_fits schema; saved = λ k. none_fits schema }
  parts_fit (p ∷ ps) all zero = record { base = same_as_none _ all.0.base; current = same_as_none _ all.0.current; saved = marks_fit p.marks.items all.0.marks }
  parts_fit (p ∷ ps) all (suc i) = parts_fit ps all.1 i

pub bare_parts_fit : (schema : List TableDef) (book : List Rule) (live : Content) (parts : List Part)
    → FitsBook schema book → FitsSchema schema live → AllByRecursion HasNoRows parts → IsFitting (office_of_parts schema book live parts)
bare_parts_fit schema book live parts rules rows all = record {
  book = rules;
  rows = record { live = rows; workspaces = parts_fit schema parts all };
}
