-- What is left where LIVE or a workspace gets another content; and commands whose refusal never says that they are done.
use Rattle.std.proofs.Common.{◌≡◌, ◌∷◌, [], List, Bool, true, false, not, cond, Option, Some, None, refl, sym, ap, ◌∙◌}
use Rattle.std.proofs.lemmas.Option.{none-some, same_Some}
use Rattle.std.specs.Option.{option_map, option_map_or}
use Rattle.clr_rows.specs.Contents.{Content}
use Rattle.clr_rows.specs.Schemas.{FitsSchema}
use Rattle.clr_change.specs.declared.edits.Edit.{Edit}
use Rattle.clr_change.specs.Edits.{first_bad_edit}
use Rattle.clr_rules.specs.declared.needs.Broken.{Broken}
use Rattle.clr_workspaces.specs.Marks.{Name}
use Rattle.clr_workspaces.specs.Workspaces.{Workspace}
use Rattle.clr_steps.specs.declared.commands.Command.{Command}
use Rattle.clr_steps.specs.declared.commands.Command.TheVariants.{Apply, Remove, RollAll}
use Rattle.clr_steps.specs.declared.commands.Reply.{Reply}
use Rattle.clr_steps.specs.declared.commands.Reply.TheVariants.{Done, LiveIsFixed, NoWorkspace, NotLeaf, RuleBroken}
use Rattle.clr_steps.specs.Effects.{after_apply, edited_content, effect}
use Rattle.clr_steps.specs.Names.{is_live}
use Rattle.clr_steps.specs.Offices.{Office, content_of, is_kept, set_content, stands, workspace}
use Rattle.clr_steps.specs.Refusals.{breaks, edit_refusal, first_newly_broken, first_of, has_child, refusal, refusals_of, when}
use Rattle.clr_layer_changes.specs.Changes.{edits_between}
use Rattle.clr_layer_changes.proofs.EditLemmas.{edits_lead}
use Rattle.clr_designs.specs.Again.{IsContentSet, IsPerformed, content_refusal}
use Rattle.clr_designs.specs.Designs.{IsCommandAnswer}
use Rattle.clr_designs.proofs.EditLemmas.{edits_are_made}
use Rattle.clr_designs.proofs.PerformLemmas.{not_refused}

-- no refusal says that a command is done ---------------------------------------------------------

last_of : (r : Option Reply) → first_of (r ∷ []) ≡ r
last_of None = refl
last_of (Some reply) = refl

breaks_never : (o : Office) (name : Name) (content : Content) → breaks o name content ≡ Some Done → ⊥
unfolding breaks
breaks_never o name content h = by (is_kept o name) (first_newly_broken o.book (content_of o name) content) h
  where
    by : (kept : Bool) (found : Option Broken) → cond kept (option_map RuleBroken found) None ≡ Some Done → ⊥
    by false found e = absurd (none-some Done e)
    by true None e = absurd (none-some Done e)
    by true (Some need) e = let one : RuleBroken need ≡ Done = same_Some (RuleBroken need) Done e in cc

-- the refusals of a command that is on a workspace, and not on LIVE
below_never : (o : Office) (name : Name) (reasons : Workspace → List (Option Reply)) → ((w : Workspace) → first_of (reasons w) ≡ Some Done → ⊥)
    → cond (is_live name) (Some LiveIsFixed) (option_map_or (λ (w : Workspace). first_of (reasons w)) (workspace o name) (Some NoWorkspace)) ≡ Some Done → ⊥
below_never o name reasons never h = by (is_live name) (workspace o name) h
  where
    by : (live : Bool) (found : Option Workspace)
        → cond live (Some LiveIsFixed) (option_map_or (λ (w : Workspace). first_of (reasons w)) found (Some NoWorkspace)) ≡ Some Done → ⊥
    by true found e = cc
    by false None e = cc
    by false (Some w) e = never w e

pub roll_never : (o : Office) (name : Name) → refusal o (RollAll name) ≡ Some Done → ⊥
unfolding refusal refusals_of
roll_never o name h =
    below_never o name (λ (w : Workspace). when (has_child o w.name) NotLeaf ∷ breaks o w.name w.base ∷ []) (λ w e. by w (has_child o w.name) e) h
  where
    by : (w : Workspace) (above : Bool) → first_of (when above NotLeaf ∷ breaks o w.name w.base ∷ []) ≡ Some Done → ⊥
    by w true e = cc
    by w false e = breaks_never o w.name w.base (sym (last_of (breaks o w.name w.base)) ∙ e)

pub remove_never : (o : Office) (name : Name) → refusal o (Remove name) ≡ Some Done → ⊥
unfolding refusal refusals_of
remove_never o name h = below_never o name (λ (w : Workspace). when (has_child o w.name) NotLeaf ∷ []) (λ w e. by (has_child o w.name) e) h
  where
    by : (above : Bool) → first_of (when above NotLeaf ∷ []) ≡ Some Done → ⊥
    by true e = cc
    by false e = absurd (none-some Done e)

-- what is performed is done, or refused
pub performed_as : (o : Office) (c : Command) (left : Office) → (refusal o c ≡ Some Done → ⊥) → (refused : Option Reply) → IsCommandAnswer o c refused left
    → IsPerformed o c refused left
performed_as o c left never None done = not_refused o c left never done
performed_as o c left never (Some reply) refused = refused

-- another content --------------------------------------------------------------------------------

module _ (o : Office) (name : Name) (content : Content) where
  abbrev edits : List Edit
  edits = edits_between (content_of o name) content

  edited : edited_content o name edits ≡ content
  unfolding edited_content
  edited = edits_lead (content_of o name) content

  -- edits that lead to a content are refused only where nobody has the name, or the content breaks a need anew
  pub apply_refusal : FitsSchema o.schema (content_of o name) → FitsSchema o.schema content → refusal o (Apply name edits) ≡ content_refusal o name content
  unfolding refusal edit_refusal
  apply_refusal seen_fits content_fits =
      let none : first_bad_edit o.schema (content_of o name) 1 edits ≡ None =
      edits_are_made o.schema (content_of o name) content seen_fits content_fits 1 in
      rw (edited, none) refl

  pub apply_effect : effect o (Apply name edits) ≡ set_content o name content
  unfolding effect after_apply
  apply_effect = ap (set_content o name) edited

  content_never : content_refusal o name content ≡ Some Done → ⊥
  content_never h = by (stands o name) h
    where
      by : (there : Bool) → first_of (when (not there) NoWorkspace ∷ breaks o name content ∷ []) ≡ Some Done → ⊥
      by false e = cc
      by true e = breaks_never o name content (sym (last_of (breaks o name content)) ∙ e)

  pub content_set : FitsSchema o.schema (content_of o name) → FitsSchema o.schema content → (left : Office) (refused : Option Reply)
      → IsCommandAnswer o (Apply name edits) refused left → IsContentSet o name content refused left
  content_set seen_fits content_fits left None done =
      let why = apply_refusal seen_fits content_fits in
      let is = not_refused o (Apply name edits) left (λ h. content_never (sym why ∙ h)) done in
      (sym why ∙ is.0, is.1 ∙ apply_effect)
  content_set seen_fits content_fits left (Some reply) refused = (sym (apply_refusal seen_fits content_fits) ∙ refused.0, refused.1)

  -- nobody has the name
  pub nobody_has : stands o name ≡ false → content_refusal o name content ≡ Some NoWorkspace
  nobody_has none = ap (λ (there : Bool). first_of (when (not there) NoWorkspace ∷ breaks o name content ∷ [])) none
