-- An office with a design that took over a copied content is one in which the design was made before, and LIVE has moved on since.
use Rattle.std.proofs.Common.{◌≡◌, ◌∷◌, ◌++◌, [], Bool, true, false, not, cond, Option, Some, None, ℕ, zero, suc, refl, sym, ap, ◌∙◌}
use Rattle.std.specs.Prelude.{◌&&◌, ◌||◌, length, nat_le}
use Rattle.std.specs.FinMap as finite
use Rattle.std.specs.List.{list_any}
use Rattle.std.specs.Ordering.{eq_by_cmp}
use Rattle.std.proofs.lemmas.Bool.{true≢false}
use Rattle.clr_rows.specs.declared.cells.CellId.{CellId}
use Rattle.clr_rows.specs.declared.cells.Change.{Change}
use Rattle.clr_rows.specs.declared.rows.Row.{Row}
use Rattle.clr_rows.specs.Cells.{cell_cmp}
use Rattle.clr_rows.specs.Contents.{Changes, Content, change_of, changes, conflicts, is_changed, row_at}
use Rattle.clr_rows.specs.Names.{is_good_name, live_name}
use Rattle.clr_rows.specs.Same.{same}
use Rattle.clr_rows.specs.Schemas.{FitsSchema}
use Rattle.clr_rows.proofs.ChangeLemmas.{any-conflicts, get-changes, has_conflict}
use Rattle.clr_rows.proofs.SameLemmas.{same_is, same_itself}
use Rattle.clr_workspaces.specs.Marks.{Name}
use Rattle.clr_workspaces.specs.Operations.{own_changes}
use Rattle.clr_workspaces.specs.Soundness.{IsSound}
use Rattle.clr_workspaces.specs.Workspaces.{Workspace, live_workspace}
use Rattle.clr_workspaces.specs.declared.limits.TheConstants.{MOST_LEVELS}
use Rattle.clr_workspaces.proofs.TreeLemmas.{sound_current}
use Rattle.clr_steps.specs.Invariants.{OfficeFits}
use Rattle.clr_steps.specs.Names.{is_live}
use Rattle.clr_steps.specs.declared.commands.Reply.TheVariants.{BadName, NameTaken, NoWorkspace, TooMany}
use Rattle.clr_steps.specs.Offices.{Office, content_of, stands, workspace}
use Rattle.clr_steps.specs.Readings.{changes_in, conflicts_in}
use Rattle.clr_steps.specs.Refusals.{depth_within, first_of, is_full, refusal, when}
use Rattle.clr_steps.proofs.FindLemmas as steps
use Rattle.clr_designs.specs.Designs.{AreDone, design_of, design_refusal, with_design, with_design_over, with_live}
use Rattle.clr_designs.specs.Laws.{SinceLaw}
use Rattle.clr_designs.specs.Since.{IsMadeSince}
use Rattle.clr_designs.proofs.DesignLemmas.{both_steps, found_last, not_found, not_live}

-- rows are told apart either way round
same_back : (a b : Option Row) → same a b ≡ same b a
same_back a b = by (same a b) (same b a) refl refl
  where
    by : (t u : Bool) → same a b ≡ t → same b a ≡ u → same a b ≡ same b a
    by true true e f = e ∙ sym f
    by false false e f = e ∙ sym f
    by true false e f = absurd (true≢false (sym (ap (same b) (same_is a b e) ∙ same_itself b) ∙ f))
    by false true e f = absurd (true≢false (sym (ap (same a) (same_is b a f) ∙ same_itself a) ∙ e))

-- a cell is in conflict where both contents differ from the copied one
pub both_changed : (live copied content : Content) (q : CellId)
    → list_any (eq_by_cmp cell_cmp q) (conflicts live (changes copied content)) ≡ (is_changed copied content q && is_changed copied live q)
both_changed live copied content q =
    any-conflicts live (changes copied content) q ∙ ap (has_conflict live q) (get-changes copied content q) ∙ by (is_changed copied content q)
  where
    by : (b : Bool) → has_conflict live q (cond b (Some (change_of copied content q)) None) ≡ (b && is_changed copied live q)
    by true = ap not (same_back (row_at live q) (row_at copied q))
    by false = refl

-- LIVE is under no other
live_depth : (n : ℕ) (o : Office) → depth_within n o live_name ≡ 0
unfolding depth_within workspace is_live
live_depth zero o = refl
live_depth (suc n) o = refl

-- LIVE's content doesn't say whether a workspace can be created
refusal_over : (o : Office) (name : Name) (copied : Content) → design_refusal (with_live o copied) name ≡ design_refusal o name
unfolding refusal stands
refusal_over o name copied =
    let n = length o.workspaces in
    ap (λ (deep : ℕ). first_of (
    when (not (stands o live_name)) NoWorkspace
    ∷ when (not (is_good_name name)) BadName
    ∷ when (stands o name) NameTaken
    ∷ when (is_full o || nat_le MOST_LEVELS deep) TooMany
    ∷ []
    )) (live_depth n (with_live o copied) ∙ sym (live_depth n o))

-- the workspaces of an office stand under any content of LIVE
sound_over : (o : Office) (copied : Content) → IsSound (live_workspace o.live ∷ o.workspaces) → IsSound (live_workspace copied ∷ o.workspaces)
sound_over o copied sound = sound_current (live_workspace o.live ∷ o.workspaces) 0 sound sound.rooted.filled copied

module _ (o : Office) (name : Name) (copied content : Content) (may : design_refusal o name ≡ None) where
  abbrev left : Office
  left = with_design_over o name copied content

  abbrev leaf : Workspace
  leaf = design_of name copied content

  leaf_found : workspace left name ≡ Some leaf
  unfolding workspace
  leaf_found = rw (not_live o name may, found_last name leaf (steps.same_itself name) o.workspaces (not_found o name may)) refl

  live_above : content_of left live_name ≡ o.live
  unfolding content_of is_live
  live_above = refl

  leaf_changed : changes_in left name ≡ changes copied content
  leaf_changed = rw leaf_found refl

  leaf_conflicts : conflicts_in left name ≡ conflicts o.live (changes copied content)
  leaf_conflicts = rw leaf_found (ap (λ (above : Content). conflicts above (changes copied content)) live_above)

pub since_law : SinceLaw
since_law o name copied content sound fits copied_fits content_fits may =
    let before = with_live o copied in
    let before_fits : OfficeFits before = record { live = copied_fits; workspaces = fits.workspaces } in
    record {
      made = both_steps before name (refusal_over o name copied ∙ may) content (sound_over o copied sound) before_fits content_fits;
      moved = refl;
      changed = leaf_changed o name copied content may;
      conflicts = λ cell. ap (list_any (eq_by_cmp cell_cmp cell)) (leaf_conflicts o name copied content may) ∙ both_changed o.live copied content cell;
    }
