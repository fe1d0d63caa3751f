-- What is found at the position of a name, or of a savepoint.
use Rattle.std.proofs.Common.{◌≡◌, ℕ, zero, suc, ◌<◌, true, List, [], Option, Some, None, refl, ap, ◌∙◌, arith}
use Rattle.std.specs.Str.{bytes_eq}
use Rattle.clr_workspaces.specs.Marks.{Name, Mark, ChildMark, is_saved, is_saved_as, find_mark, mark_at}
use Rattle.clr_workspaces.specs.Workspaces.{Workspace, children_of, no_workspace, parent_of, workspace_at}
use Rattle.clr_rows.specs.Contents.{taken_over}
use Rattle.clr_workspaces.specs.Operations.{after_rebase, after_rebase_under, at_position, change_workspace, own_changes, with_base_merged, with_current}
use Rattle.clr_workspaces.specs.declared.rebases.Rebase.TheVariants as ways
use Rattle.clr_workspaces.proofs.CountLemmas.{count-set}
use Rattle.clr_workspaces.proofs.NameLemmas.{saved_as}
use Rattle.clr_workspaces.proofs.RootLemmas.{stays_at}
use Rattle.clr_steps.specs.declared.commands.Reply.{Reply}
use Rattle.clr_steps.specs.Refusals.{first_of}
use Rattle.clr_steps.specs.Positions.{refusal_below}
use Rattle.clr_steps.proofs.FirstLemmas.{first_at_position, first_passes}

-- refusals of a position under LIVE
pub below : (r : Option ℕ) (at : ℕ) (refusals : ℕ → List (Option Reply)) → r ≡ Some at → 0 < at → refusal_below r refusals ≡ first_of (refusals at)
below r zero refusals e lt = absurd (omega arith)
below r (suc k) refusals e lt = ap (λ r. refusal_below r refusals) e

-- a savepoint that is found is one
pub found_saved : (marks : List Mark) (name : Name) (i : ℕ) → find_mark marks name ≡ Some i → is_saved (mark_at marks i) ≡ true
found_saved marks name i e = saved_as name (mark_at marks i) (first_passes (is_saved_as name) (ChildMark []) marks i
    (first_at_position (is_saved_as name) marks i e))

-- a workspace that changes, but for names, has the children that it had
changed_leaf : (f : Workspace → Workspace) → ((w : Workspace) → (f w).name ≡ w.name) → ((w : Workspace) → (f w).parent ≡ w.parent)
    → (ws : List Workspace) (at i : ℕ)
    → children_of (change_workspace ws at f) (workspace_at (change_workspace ws at f) i).name ≡ children_of ws (workspace_at ws i).name
changed_leaf f names parents ws at i =
    let n = (workspace_at ws i).name in
    ap (children_of (change_workspace ws at f)) (stays_at (λ w. w.name) ws at (f (workspace_at ws at)) (names (workspace_at ws at)) i)
    ∙ count-set (λ w. bytes_eq n w.parent) ws at (f (workspace_at ws at)) no_workspace (ap (bytes_eq n) (parents (workspace_at ws at)))

-- a merge leaves the children
pub leaf_after_merge : (ws : List Workspace) (at : ℕ) → let vs = after_rebase ws at ways.Merge in children_of vs (workspace_at vs at).name
    ≡ children_of ws (workspace_at ws at).name
leaf_after_merge ws at = by (parent_of ws at)
  where
    by : (r : Option ℕ) → let vs = at_position ws r (after_rebase_under ws at ways.Merge) in children_of vs (workspace_at vs at).name
        ≡ children_of ws (workspace_at ws at).name
    by None = refl
    by (Some above) =
        let write = λ (w : Workspace). with_current (taken_over w.current (own_changes (workspace_at ws at))) w in
        changed_leaf with_base_merged (λ w. refl) (λ w. refl) (change_workspace ws above write) at at ∙ changed_leaf write (λ w. refl) (λ w. refl) ws above at
