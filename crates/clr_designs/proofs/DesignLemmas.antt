-- What the two commands leave that make a design.
use Rattle.std.proofs.Common.{◌≡◌, Bool, true, false, cond, not, List, [], ◌∷◌, ◌++◌, Option, Some, None, refl, sym, ap, subst, ◌∙◌}
use Rattle.std.specs.Prelude.{◌||◌, is_some}
use Rattle.std.proofs.lemmas.Bool.{or_parts}
use Rattle.std.proofs.lemmas.Option.{none-some}
use Rattle.clr_rows.specs.Contents.{Content}
use Rattle.clr_rows.specs.Names.{is_good_name, live_name}
use Rattle.clr_rows.specs.Schemas.{FitsSchema}
use Rattle.clr_change.specs.declared.edits.Edit.{Edit}
use Rattle.clr_change.specs.Edits.{after_edits, first_bad_edit}
use Rattle.clr_workspaces.specs.Marks.{Name}
use Rattle.clr_workspaces.specs.Operations.{new_leaf, with_current, with_mark_of, with_marks}
use Rattle.clr_workspaces.specs.Soundness.{IsSound}
use Rattle.clr_workspaces.specs.Workspaces.{Workspace, live_workspace}
use Rattle.clr_steps.specs.declared.commands.Command.{Command}
use Rattle.clr_steps.specs.declared.commands.Command.TheVariants.{Apply, Create}
use Rattle.clr_steps.specs.declared.commands.Reply.{Reply}
use Rattle.clr_steps.specs.declared.commands.Reply.TheVariants.{BadName, Done, NameTaken, NoWorkspace, TooMany}
use Rattle.clr_steps.specs.Effects.{after_apply, after_create, edited_content, effect}
use Rattle.clr_steps.specs.Invariants.{OfficeFits}
use Rattle.clr_steps.specs.Names.{is_live, same_name}
use Rattle.clr_steps.specs.Offices.{Office, content_of, find_name, is_kept, modify, set_content, stands, with_workspaces, workspace}
use Rattle.clr_steps.specs.Refusals.{breaks, edit_refusal, first_of, is_deep, is_full, refusal, when}
use Rattle.clr_steps.specs.Steps.{Answer, answer, step}
use Rattle.clr_steps.proofs.FindLemmas.{same_itself}
use Rattle.clr_steps.proofs.ModifyLemmas.{modify_below}
use Rattle.clr_steps.proofs.SeenLemmas.{only_at}
use Rattle.clr_layer_changes.specs.Changes.{edits_between}
use Rattle.clr_layer_changes.proofs.EditLemmas.{edits_lead}
use Rattle.clr_designs.specs.Designs.{AreDone, IsDesignMade, IsCommandAnswer, design_of, design_refusal, with_design}
use Rattle.clr_designs.specs.Laws.{DesignLaw}
use Rattle.clr_designs.proofs.EditLemmas.{edits_are_made}
use Rattle.clr_designs.proofs.PerformLemmas.{not_refused}

-- one more workspace at the end ------------------------------------------------------------------

module _ (name : Name) (leaf : Workspace) (named : same_name name leaf.name ≡ true) where
  pub found_last : (ws : List Workspace) → find_name name ws ≡ None → find_name name (ws ++ leaf ∷ []) ≡ Some leaf
  found_last [] none = ap (λ b. cond b (Some leaf) None) named
  found_last (w ∷ ws) none = by (same_name name w.name) none (found_last ws)
    where
      by : (b : Bool) → cond b (Some w) (find_name name ws) ≡ None → (find_name name ws ≡ None → find_name name (ws ++ leaf ∷ []) ≡ Some leaf)
          → cond b (Some w) (find_name name (ws ++ leaf ∷ [])) ≡ Some leaf
      by true none rest = absurd (none-some w (sym none))
      by false none rest = rest none

  modified_last : (f : Workspace → Workspace) (ws : List Workspace) → find_name name ws ≡ None → modify name f (ws ++ leaf ∷ []) ≡ ws ++ f leaf ∷ []
  modified_last f [] none = ap (λ b. cond b (f leaf) leaf ∷ []) named
  modified_last f (w ∷ ws) none = by (same_name name w.name) none (modified_last f ws)
    where
      by : (b : Bool) → cond b (Some w) (find_name name ws) ≡ None → (find_name name ws ≡ None → modify name f (ws ++ leaf ∷ []) ≡ ws ++ f leaf ∷ [])
          → cond b (f w) w ∷ modify name f (ws ++ leaf ∷ []) ≡ w ∷ (ws ++ f leaf ∷ [])
      by true none rest = absurd (none-some w (sym none))
      by false none rest = ap (λ vs. w ∷ vs) (rest none)

-- refusals that don't apply ------------------------------------------------------------------------

third_passed : (a b c d : Bool) → first_of (when a NoWorkspace ∷ when b BadName ∷ when c NameTaken ∷ when d TooMany ∷ []) ≡ None → c ≡ false
third_passed true b c d none = cc
third_passed false true c d none = cc
third_passed false false true d none = cc
third_passed false false false d none = refl

nothing : {A : Type 0} (x : Option A) → is_some x ≡ false → x ≡ None
nothing None e = refl
nothing (Some a) e = cc

module _ (o : Office) (name : Name) (may : design_refusal o name ≡ None) where
  free : stands o name ≡ false
  unfolding refusal
  free = third_passed (not (stands o live_name)) (not (is_good_name name)) (stands o name) (is_full o || is_deep o live_name) may

  pub not_live : is_live name ≡ false
  unfolding stands
  not_live = (or_parts (is_live name) (is_some (find_name name o.workspaces)) free).0

  pub not_found : find_name name o.workspaces ≡ None
  unfolding stands
  not_found = nothing (find_name name o.workspaces) (or_parts (is_live name) (is_some (find_name name o.workspaces)) free).1

  -- the workspace, created ---------------------------------------------------------------------------

  created : IsSound (live_workspace o.live ∷ o.workspaces) → effect o (Create name live_name) ≡ with_design o name o.live
  unfolding effect after_create content_of is_live
  created sound =
      let ws = live_workspace o.live ∷ o.workspaces in
      let only = only_at o.schema o.book ws sound live_name 0 (sound.rooted.own 0 sound.rooted.filled) in
      ap (λ vs. with_workspaces o (vs ++ new_leaf name live_name o.live ∷ [])) (modify_below live_name (with_marks (with_mark_of name)) ws only)

  -- the edits, made in it ------------------------------------------------------------------------------

  abbrev with_leaf : Office
  with_leaf = with_design o name o.live

  abbrev leaf : Workspace
  leaf = design_of name o.live o.live

  leaf_found : find_name name (o.workspaces ++ leaf ∷ []) ≡ Some leaf
  leaf_found = found_last name leaf (same_itself name) o.workspaces not_found

  leaf_stands : stands with_leaf name ≡ true
  unfolding stands
  leaf_stands = rw (not_live, leaf_found) refl

  leaf_content : content_of with_leaf name ≡ o.live
  unfolding content_of
  leaf_content = rw (not_live, leaf_found) refl

  leaf_free : is_kept with_leaf name ≡ false
  unfolding is_kept workspace
  leaf_free = rw (not_live, leaf_found) refl

  module _ (content : Content) where
    abbrev edits : List Edit
    edits = edits_between o.live content

    edited : edited_content with_leaf name edits ≡ content
    unfolding edited_content
    edited = ap (λ (m : Content). after_edits m edits) leaf_content ∙ edits_lead o.live content

    may_apply : OfficeFits o → FitsSchema o.schema content → refusal with_leaf (Apply name edits) ≡ None
    unfolding refusal edit_refusal breaks
    may_apply fits content_fits =
        let none : first_bad_edit o.schema (content_of with_leaf name) 1 edits ≡ None =
        ap (λ (m : Content). first_bad_edit o.schema m 1 edits) leaf_content ∙ edits_are_made o.schema o.live content fits.live content_fits 1 in
        rw (leaf_stands, none, leaf_free) refl

    applied : effect with_leaf (Apply name edits) ≡ with_design o name content
    unfolding effect after_apply set_content
    applied =
        rw (not_live, edited)
        (ap (λ ws. with_workspaces o ws) (modified_last name leaf (same_itself name) (with_current content) o.workspaces not_found))

    -- the steps --------------------------------------------------------------------------------------

    one_step : (before : Office) (c : Command) (next : Office) → refusal before c ≡ None → effect before c ≡ next → step before c ≡ answer Done next
    unfolding step
    one_step before c next none is = rw (none, is) refl

    pub both_steps : IsSound (live_workspace o.live ∷ o.workspaces) → OfficeFits o → FitsSchema o.schema content
        → AreDone o name content (with_design o name content)
    both_steps sound fits content_fits =
        rw (one_step o (Create name live_name) with_leaf may (created sound))
        (rw (one_step with_leaf (Apply name edits) (with_design o name content) (may_apply fits content_fits) applied) refl)

    -- what performing the commands leaves ------------------------------------------------------------------

    -- whatever is answered to the second command behind the first, it is done
    pub edits_apply : IsSound (live_workspace o.live ∷ o.workspaces) → OfficeFits o → FitsSchema o.schema content → (mid left : Office) (refused : Option Reply)
        → mid ≡ with_leaf → IsCommandAnswer mid (Apply name edits) refused left → IsDesignMade o name content refused left
    edits_apply sound fits content_fits mid left None is done =
        let all = one_step with_leaf (Apply name edits) (with_design o name content) (may_apply fits content_fits) applied in
        let answered : answer Done (with_design o name content) ≡ answer Done left = sym all ∙ ap (λ m. step m (Apply name edits)) (sym is) ∙ done in
        let same : left ≡ with_design o name content = sym (ap (λ (a : Answer). a.office) answered) in
        (may, subst (AreDone o name content) (sym same) (both_steps sound fits content_fits), same)
    edits_apply sound fits content_fits mid left (Some reply) is refused = absurd (none-some reply (sym (may_apply fits content_fits)
        ∙ ap (λ m. refusal m (Apply name edits)) (sym is) ∙ refused.0))

-- the refusal to create a workspace is never the reply `done`
create_not_done : (o : Office) (name : Name) → design_refusal o name ≡ Some Done → ⊥
unfolding refusal
create_not_done o name h = by (not (stands o live_name)) (not (is_good_name name)) (stands o name) (is_full o || is_deep o live_name) h
  where
    by : (a b c d : Bool) → first_of (when a NoWorkspace ∷ when b BadName ∷ when c NameTaken ∷ when d TooMany ∷ []) ≡ Some Done → ⊥
    by true b c d h = cc
    by false true c d h = cc
    by false false true d h = cc
    by false false false true h = cc
    by false false false false h = cc

-- the first command is done, so the workspace may be created, and it stands
pub creates : (o : Office) (name : Name) (mid : Office) → IsSound (live_workspace o.live ∷ o.workspaces) → step o (Create name live_name) ≡ answer Done mid
    → (design_refusal o name ≡ None) × (mid ≡ with_design o name o.live)
creates o name mid sound done =
    let is = not_refused o (Create name live_name) mid (create_not_done o name) done in
    (is.0, is.1 ∙ created o name is.0 sound)

pub design_law : DesignLaw
design_law o name content sound fits content_fits may = both_steps o name may content sound fits content_fits
