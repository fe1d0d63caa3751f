-- Contents that changes leave.
use Rattle.std.proofs.Common.{◌≡◌, Bool, true, false, cond, List, Option, refl, sym, ap, subst, ◌∙◌}
use Rattle.std.specs.Result.{result_err}
use Rattle.clr_workspaces.specs.Workspaces.{Workspace}
use Rattle.clr_judges.specs.Fitting.{kept_or}
use Rattle.std.specs.Prelude.{Result, Ok, Err, IfOk, slice_get}
use Rattle.std.specs.Option.{option_map}
use Rattle.std.specs.Ordering.{eq_by_cmp}
use Rattle.std.specs.declared.alloc.AllocError.{AllocError}
use Rattle.clr_rows.specs.declared.cells.CellId.{CellId}
use Rattle.clr_rows.specs.declared.rows.Row.{Row}
use Rattle.clr_rows.specs.Cells.{cell_cmp}
use Rattle.clr_rows.specs.Contents.{Content, Changes, no_changes, changes, row_at, set_cell, taken_over}
use Rattle.clr_rows.proofs.ChangeLemmas.{changes-self, row-set_cell, same_content, taken_over-own}
use Rattle.clr_rows.proofs.RowLemmas.{tied_cells}
use Rattle.clr_change.specs.ChangeSets.{set_change}
use Rattle.clr_change.proofs.EditLemmas.{set_change_is}
use Rattle.clr_rules.specs.declared.needs.Broken.{Broken}
use Rattle.clr_rules.specs.declared.rules.Rule.{Rule}
use Rattle.clr_steps.specs.declared.commands.Reply.TheVariants.{RuleBroken}
use Rattle.clr_rules.proofs.NewlyBroken.{all_where_held}
use Rattle.clr_steps.proofs.NeedLemmas.{holds_in_none}
use Rattle.clr_rows.specs.Contents.{no_rows}
use Rattle.clr_steps.specs.Refusals.{broken_where, first_broken, first_newly_broken}

-- the changes to another content lead to it
pub reached : (current other : Content) (changed : Changes) → changed ≡ changes current other → taken_over current changed ≡ other
reached current other changed e = ap (taken_over current) e ∙ taken_over-own current other

-- beside no rows, what is broken is newly broken
pub newly_is : (book : List Rule) (content : Content) → first_newly_broken book no_rows content ≡ first_broken book content
unfolding first_newly_broken first_broken
newly_is book content = ap (λ bs. slice_get bs 0) ((all_where_held book no_rows (holds_in_none book)).all content)

-- a cell set to the row that it has
pub set_same : (content : Content) (cell : CellId) → set_cell content cell (row_at content cell) ≡ content
set_same content cell = same_content _ _ (λ q. row-set_cell content cell (row_at content cell) q ∙ by q (eq_by_cmp cell_cmp q cell) refl)
  where
    by : (q : CellId) (b : Bool) → eq_by_cmp cell_cmp q cell ≡ b → cond b (row_at content cell) (row_at content q) ≡ row_at content q
    by q true e = ap (row_at content) (sym (tied_cells q cell e))
    by q false e = refl

-- one change from the row that stands
pub changes_one : (content : Content) (cell : CellId) (row : Option Row) (changed : Changes)
    → changed ≡ set_change no_changes cell (row_at content cell) row
    → changed ≡ changes content (set_cell content cell row)
changes_one content cell row changed e =
    e ∙ ap (λ set. set_change set cell (row_at content cell) row) (sym (changes-self content)) ∙ set_change_is content content cell row

-- beside the content of a workspace where that is kept, and else beside another
pub kept_or_kept : (w : Workspace) (other : Content) → w.kept ≡ true → kept_or w other ≡ w.current
kept_or_kept w other flag = ap (λ b. cond b w.current other) flag

pub kept_or_other : (w : Workspace) (other : Content) → w.kept ≡ false → kept_or w other ≡ other
kept_or_other w other flag = ap (λ b. cond b w.current other) flag

pub found_beside : {X : Type 0} (r : Result (Result X Broken) AllocError) (book : List Rule) (before after content : Content) → after ≡ before
    → IfOk r (λ found. result_err found ≡ first_newly_broken book before content) → IfOk r (λ found. result_err found ≡ first_newly_broken book after content)
found_beside r book before after content e h =
    subst (λ (m : Content). IfOk r (λ found. result_err found ≡ first_newly_broken book m content)) (sym e) h

-- what is judged where the rules are to hold
pub judged_kept : (r : Result (Option Broken) AllocError) (kept : Bool) (book : List Rule) (before other content : Content) → kept ≡ true → other ≡ before
    → IfOk r (λ need. need ≡ first_newly_broken book before content) → IfOk r (λ need. option_map RuleBroken need ≡ broken_where kept book other content)
judged_kept (Ok need) kept book before other content flag e h = ap (option_map RuleBroken) (h ∙ ap (λ m. first_newly_broken book m content) (sym e))
    ∙ sym (ap (λ b. broken_where b book other content) flag)
judged_kept (Err x) kept book before other content flag e h = h
