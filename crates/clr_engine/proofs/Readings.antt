-- What is shown of an office is what its tree has at the position of a name.
use Rattle.std.proofs.Common.{◌≡◌, ℕ, zero, suc, ◌+◌, ◌<◌, length, Bool, cond, List, [], ◌∷◌, Option, Some, None, refl, sym, ap, subst, ◌∙◌, arith}
use Rattle.std.specs.Prelude.{is_some, IsSome}
use Rattle.std.specs.FinMap as finite
use Rattle.std.proofs.lemmas.Bool.{false≢true}
use Rattle.std.proofs.lemmas.Option.{slice_get-get_or}
use Rattle.std.specs.Option.{option_map, option_map_or}
use Rattle.clr_rows.specs.declared.cells.CellId.{CellId}
use Rattle.clr_rows.specs.declared.tables.TableDef.{TableDef}
use Rattle.clr_rows.specs.Cells.{cell_cmp}
use Rattle.clr_rows.specs.Contents.{Content, changes, conflicts, no_changes, row_at}
use Rattle.clr_rules.specs.declared.rules.Rule.{Rule}
use Rattle.clr_workspaces.proofs.FindLemmas.{find_named}
use Rattle.clr_deltas.specs.Differing.{delta_from}
use Rattle.clr_workspaces.specs.Marks.{Name}
use Rattle.clr_workspaces.specs.Workspaces.{Workspace, find, no_workspace, parent_of, workspace_at}
use Rattle.clr_workspaces.specs.Operations.{own_changes}
use Rattle.clr_workspaces.specs.Soundness.{IsSound}
use Rattle.clr_tree.specs.Trees.{change_count, content_above, needed, needed_delta}
use Rattle.clr_steps.specs.Laws.{IsSeen}
use Rattle.clr_steps.specs.Offices.{Office, content_of, is_kept, office_of, workspace}
use Rattle.clr_steps.specs.Positions.{below_top, content_at, kept_at}
use Rattle.clr_steps.specs.Readings.{changes_in, conflicts_in, if_stands, parent_in, stored_in}
use Rattle.clr_steps.proofs.SeenLemmas.{name_law}
use Rattle.clr_engine.specs.Drafts.{delta_in, part_at}

pub seen_in : (schema : List TableDef) (book : List Rule) (ws : List Workspace) (o : Office) → IsSound ws → office_of schema book ws ≡ o → (name : Name)
    → IsSeen o ws name
seen_in schema book ws o sound is name = subst (λ (o : Office). IsSeen o ws name) is (name_law schema book ws sound name)

-- only LIVE, at position 0, has no parent
pub zero_of : (at : ℕ) (r : Option ℕ) → r ≡ None → (0 < at → IsSome r) → at ≡ 0
zero_of zero r e f = refl
zero_of (suc k) r e f = absurd (false≢true (subst (λ (r : Option ℕ). IsSome r) e (f (omega arith))))

pub some_below : (at : ℕ) → (at ≡ 0 → ⊥) → 0 < at
some_below zero other = absurd (other refl)
some_below (suc k) other = omega arith

module _ (o : Office) (ws : List Workspace) (name : Name) (s : IsSeen o ws name) where
  pub shown : {A : Type 0} (at : ℕ) (value wanted : A) → find ws name ≡ Some at → value ≡ wanted → Some value ≡ if_stands o name wanted
  shown at value wanted e is = ap Some is ∙ sym (ap (λ (b : Bool). cond b (Some wanted) None) (s.stands ∙ ap is_some e))

  pub unknown : {A : Type 0} (wanted : A) → find ws name ≡ None → None ≡ if_stands o name wanted
  unknown wanted e = sym (ap (λ (b : Bool). cond b (Some wanted) None) (s.stands ∙ ap is_some e))

  pub kept_is : (at : ℕ) → find ws name ≡ Some at → (workspace_at ws at).kept ≡ is_kept o name
  kept_is at e = sym (s.kept ∙ ap (kept_at ws) e)

  pub content_is : (at : ℕ) → find ws name ≡ Some at → (workspace_at ws at).current ≡ content_of o name
  content_is at e = sym (s.content ∙ ap (content_at ws) e)

  pub no_row : (cell : CellId) → find ws name ≡ None → None ≡ row_at (content_of o name) cell
  no_row cell e = sym (ap (λ (m : Content). row_at m cell) (s.content ∙ ap (content_at ws) e) ∙ finite.get-empty cell_cmp cell)

  pub workspace_is : (at : ℕ) → 0 < at → find ws name ≡ Some at → workspace o name ≡ Some (workspace_at ws at)
  workspace_is zero some e = absurd (omega (arith, some))
  workspace_is (suc k) some e = s.workspace ∙ ap (below_top ws) e

  pub live_is : find ws name ≡ Some 0 → workspace o name ≡ None
  live_is e = s.workspace ∙ ap (below_top ws) e

  pub none_is : find ws name ≡ None → workspace o name ≡ None
  none_is e = s.workspace ∙ ap (below_top ws) e

  pub changes_is : (at : ℕ) → 0 < at → find ws name ≡ Some at → own_changes (workspace_at ws at) ≡ changes_in o name
  changes_is at some e = sym (ap (λ (r : Option Workspace). option_map_or own_changes r no_changes) (workspace_is at some e))

  pub no_changes_is : workspace o name ≡ None → no_changes ≡ changes_in o name
  no_changes_is e = sym (ap (λ (r : Option Workspace). option_map_or own_changes r no_changes) e)

  pub parent_is : (at above : ℕ) (given : Name) → 0 < at → find ws name ≡ Some at → parent_of ws at ≡ Some above → given ≡ (workspace_at ws above).name
      → Some given ≡ parent_in o name
  parent_is at above given some e up is =
      ap Some (is ∙ sym (find_named ws (workspace_at ws at).parent above up)) ∙ sym (ap (option_map (λ (w : Workspace). w.parent)) (workspace_is at some e))

  pub no_parent_is : workspace o name ≡ None → None ≡ parent_in o name
  no_parent_is e = sym (ap (option_map (λ (w : Workspace). w.parent)) e)

  pub conflicts_is : (at above : ℕ) → 0 < at → find ws name ≡ Some at → parent_of ws at ≡ Some above → IsSeen o ws (workspace_at ws at).parent
      → conflicts (workspace_at ws above).current (own_changes (workspace_at ws at)) ≡ conflicts_in o name
  conflicts_is at above some e up parent =
      let w = workspace_at ws at in
      ap (λ (m : Content). conflicts m (own_changes w)) (sym (parent.content ∙ ap (content_at ws) up))
      ∙ sym (ap (λ (r : Option Workspace). option_map_or (λ w. conflicts (content_of o w.parent) (own_changes w)) r []) (workspace_is at some e))

  pub no_conflicts_is : workspace o name ≡ None → [] ≡ conflicts_in o name
  no_conflicts_is e = sym (ap (λ (r : Option Workspace). option_map_or (λ w. conflicts (content_of o w.parent) (own_changes w)) r []) e)

  pub stored_is : (at above : ℕ) → 0 < at → find ws name ≡ Some at → parent_of ws at ≡ Some above → IsSeen o ws (workspace_at ws at).parent → needed ws at
      ≡ stored_in o name
  stored_is at above some e up parent =
      let w = workspace_at ws at in
      ap (λ (r : Option ℕ). change_count (content_above ws r) w.base + change_count w.base w.current) up
      ∙ ap (λ (m : Content). change_count m w.base + change_count w.base w.current) (sym (parent.content ∙ ap (content_at ws) up))
      ∙ sym (ap (λ (r : Option Workspace). option_map_or (λ w. length (finite.keys (changes (content_of o w.parent) w.base)) + length
      (finite.keys (own_changes w))) r 0) (workspace_is at some e))

  pub no_stored_is : workspace o name ≡ None → 0 ≡ stored_in o name
  no_stored_is e = sym (ap (λ (r : Option Workspace). option_map_or (λ w. length (finite.keys (changes (content_of o w.parent) w.base)) + length
      (finite.keys (own_changes w))) r 0) e)

-- what a workspace under LIVE differs in is told by position
pub delta_is : (schema : List TableDef) (book : List Rule) (ws : List Workspace) (o : Office) → IsSound ws → office_of schema book ws ≡ o → (at : ℕ) → 0 < at
    → at < length ws
    → needed_delta ws at ≡ delta_in o (workspace_at ws at)
delta_is schema book ws o sound is at some lt =
    let w = workspace_at ws at in
    let above = sound.rooted.under at some lt in
    let parent = seen_in schema book ws o sound is w.parent in
    ap (λ (r : Option ℕ). delta_from (content_above ws r) w) above.1 ∙ ap (λ (m : Content). delta_from m w) (sym (parent.content ∙ ap (content_at ws) above.1))

-- what stands under LIVE is that of the tree
pub part_is : (schema : List TableDef) (book : List Rule) (ws : List Workspace) (o : Office) → office_of schema book ws ≡ o → (at : ℕ) → 0 < at → at < length ws
    → part_at o at ≡ Some (workspace_at ws at)
part_is schema book ws o is at some lt = ap (λ (o : Office). part_at o at) (sym is) ∙ under ws at some lt
  where
    under : (ws : List Workspace) (at : ℕ) → 0 < at → at < length ws → part_at (office_of schema book ws) at ≡ Some (workspace_at ws at)
    under ws zero some lt = absurd (omega (arith, some))
    under [] (suc k) some lt = absurd (omega arith)
    under (w ∷ ws) (suc k) some lt = slice_get-get_or ws k no_workspace (omega arith)
