-- What is left of a design that is rolled back to its base, and then comes to see another content.
use Rattle.std.proofs.Common.{◌≡◌, ◌∷◌, [], List, Bool, true, false, not, cond, Option, Some, None, refl, sym, ap, subst, ◌∙◌}
use Rattle.std.specs.Prelude.{◌&&◌}
use Rattle.std.specs.List.{list_any}
use Rattle.std.specs.Option.{option_map, option_map_or}
use Rattle.std.specs.Ordering.{eq_by_cmp}
use Rattle.std.proofs.lemmas.Bool.{not-false}
use Rattle.std.proofs.lemmas.Option.{none-some}
use Rattle.clr_rows.specs.declared.cells.CellId.{CellId}
use Rattle.clr_rows.specs.Cells.{cell_cmp}
use Rattle.clr_rows.specs.Contents.{Content, changes, conflicts, is_changed, no_changes, no_rows}
use Rattle.clr_rows.specs.Schemas.{FitsSchema}
use Rattle.clr_change.specs.declared.edits.Edit.{Edit}
use Rattle.clr_workspaces.specs.Marks.{Name}
use Rattle.clr_workspaces.specs.Operations.{own_changes, roll_all, with_current}
use Rattle.clr_workspaces.specs.Workspaces.{Workspace}
use Rattle.clr_steps.specs.declared.commands.Command.{Command}
use Rattle.clr_steps.specs.declared.commands.Command.TheVariants.{Apply, RollAll}
use Rattle.clr_steps.specs.declared.commands.Reply.{Reply}
use Rattle.clr_steps.specs.declared.commands.Reply.TheVariants.{Done, LiveIsFixed, NoWorkspace, NotLeaf}
use Rattle.clr_steps.specs.Effects.{after_roll_all, effect}
use Rattle.clr_steps.specs.Invariants.{OfficeFits}
use Rattle.clr_steps.specs.Names.{is_live}
use Rattle.clr_steps.specs.Offices.{Office, content_of, current_of, find_name, modify, set_content, with_workspaces, workspace}
use Rattle.clr_steps.specs.Readings.{changes_in, conflicts_in, parent_in}
use Rattle.clr_steps.specs.Refusals.{breaks, first_of, has_child, refusal, refusals_of, when}
use Rattle.clr_steps.specs.Steps.{Answer, answer, step}
use Rattle.clr_steps.proofs.FindLemmas.{find_modify, found_name}
use Rattle.clr_steps.proofs.FitLemmas.{fit_law, fits_content_of}
use Rattle.clr_layer_changes.specs.Changes.{edits_between}
use Rattle.clr_designs.specs.Again.{IsBroughtAgain, base_in, content_refusal, is_elsewhere, rolled_back, with_design_again}
use Rattle.clr_designs.specs.Laws.{AgainLaw}
use Rattle.clr_designs.proofs.ContentLemmas.{apply_effect, apply_refusal}
use Rattle.clr_designs.proofs.SinceLemmas.{both_changed}

-- a command that nothing refuses is done
done_by : (before : Office) (c : Command) (next : Office) → refusal before c ≡ None → effect before c ≡ next → step before c ≡ answer Done next
unfolding step
done_by before c next none is = rw (none, is) refl

module _ (o : Office) (name : Name) (may : refusal o (RollAll name) ≡ None) where
  -- what can be rolled back is a workspace, and not LIVE
  found : (w : Workspace) × (is_live name ≡ false) × (workspace o name ≡ Some w)
  unfolding refusal refusals_of
  found = by (is_live name) refl (workspace o name) refl may
    where
      by : (live : Bool) → is_live name ≡ live → (there : Option Workspace) → workspace o name ≡ there
          → cond live (Some LiveIsFixed)
          (option_map_or (λ (w : Workspace). first_of (when (has_child o w.name) NotLeaf ∷ breaks o w.name w.base ∷ [])) there (Some NoWorkspace)) ≡ None
          → (w : Workspace) × (is_live name ≡ false) × (workspace o name ≡ Some w)
      by true e there f h = absurd (none-some LiveIsFixed (sym h))
      by false e None f h = absurd (none-some NoWorkspace (sym h))
      by false e (Some w) f h = (w, e, f)

  abbrev old : Workspace
  old = found.0

  listed : find_name name o.workspaces ≡ Some old
  unfolding workspace
  listed = sym (ap (λ (live : Bool). cond live None (find_name name o.workspaces)) found.1) ∙ found.2

  -- rolled back ----------------------------------------------------------------------------------

  abbrev rolled : Office
  rolled = with_workspaces o (modify name roll_all o.workspaces)

  rolled_is : rolled_back o name ≡ rolled
  unfolding effect after_roll_all
  rolled_is =
      ap (λ (there : Option Workspace). option_map_or (after_roll_all o) there o) found.2
      ∙ ap (λ (n : Name). with_workspaces o (modify n roll_all o.workspaces)) (found_name o name old found.2)

  rolled_listed : find_name name rolled.workspaces ≡ Some (roll_all old)
  rolled_listed = find_modify name roll_all (λ w. refl) o.workspaces ∙ ap (option_map roll_all) listed

  rolled_content : content_of rolled name ≡ old.base
  unfolding content_of
  rolled_content =
      ap (λ (live : Bool). cond live rolled.live (current_of (find_name name rolled.workspaces))) found.1 ∙ ap current_of rolled_listed

  base_is : base_in o name ≡ old.base
  base_is = ap (λ (there : Option Workspace). option_map_or (λ (w : Workspace). w.base) there no_rows) found.2

  -- and with another content ---------------------------------------------------------------------

  module _ (content : Content) where
    abbrev last : Office
    last = with_workspaces rolled (modify name (with_current content) rolled.workspaces)

    abbrev anew : Workspace
    anew = with_current content (roll_all old)

    last_is : set_content rolled name content ≡ last
    unfolding set_content
    last_is = ap (λ (live : Bool). cond live (record rolled { live = content }) last) found.1

    last_found : workspace last name ≡ Some anew
    unfolding workspace
    last_found =
        ap (λ (live : Bool). cond live None (find_name name last.workspaces)) found.1
        ∙ find_modify name (with_current content) (λ w. refl) rolled.workspaces ∙ ap (option_map (with_current content)) rolled_listed

    changed : changes_in last name ≡ changes old.base content
    changed = ap (λ (there : Option Workspace). option_map_or own_changes there no_changes) last_found

    above : is_elsewhere (parent_in o name) ≡ false → content_of last old.parent ≡ o.live
    unfolding content_of
    above here =
        let under : is_live old.parent ≡ true =
        not-false (is_live old.parent)
        (sym (ap (λ (there : Option Workspace). is_elsewhere (option_map (λ (w : Workspace). w.parent) there)) found.2) ∙ here) in
        ap (λ (live : Bool). cond live last.live (current_of (find_name old.parent last.workspaces))) under

    conflicting : is_elsewhere (parent_in o name) ≡ false → conflicts_in last name ≡ conflicts o.live (changes old.base content)
    conflicting here =
        ap (λ (there : Option Workspace). option_map_or (λ (w : Workspace). conflicts (content_of last w.parent) (own_changes w)) there []) last_found
        ∙ ap (λ (seen : Content). conflicts seen (changes old.base content)) (above here)

    -- both commands ------------------------------------------------------------------------------

    first : step o (RollAll name) ≡ answer Done rolled
    first = done_by o (RollAll name) rolled may rolled_is

    rolled_fits : OfficeFits o → OfficeFits rolled
    rolled_fits fits = subst (λ (a : Answer). OfficeFits a.office) first (fit_law o (RollAll name) fits)

    -- the edits lead from what the workspace sees when it is rolled back
    same_edits : edits_between (base_in o name) content ≡ edits_between (content_of rolled name) content
    same_edits = ap (λ (seen : Content). edits_between seen content) (base_is ∙ sym rolled_content)

    second : OfficeFits o → FitsSchema o.schema content → content_refusal rolled name content ≡ None
        → step rolled (Apply name (edits_between (base_in o name) content)) ≡ answer Done last
    second fits content_fits none =
        ap (λ (es : List Edit). step rolled (Apply name es)) same_edits
        ∙ done_by rolled (Apply name (edits_between (content_of rolled name) content)) last
        (apply_refusal rolled name content (fits_content_of rolled (rolled_fits fits) name) content_fits ∙ none)
        (apply_effect rolled name content ∙ last_is)

    brought : OfficeFits o → FitsSchema o.schema content → is_elsewhere (parent_in o name) ≡ false → content_refusal rolled name content ≡ None
        → IsBroughtAgain o name content last
    brought fits content_fits here none = record {
      done = rw first (rw (second fits content_fits none) refl);
      seen = ap (λ (next : Office). content_of next name) rolled_is ∙ rolled_content ∙ sym base_is;
      base = ap (λ (there : Option Workspace). option_map_or (λ (w : Workspace). w.base) there no_rows) last_found ∙ sym base_is;
      changed = changed ∙ ap (λ (seen : Content). changes seen content) (sym base_is);
      conflicts = λ cell.
          ap (list_any (eq_by_cmp cell_cmp cell)) (conflicting here) ∙ both_changed o.live old.base content cell
          ∙ ap (λ (seen : Content). is_changed seen content cell && is_changed seen o.live cell) (sym base_is);
    }

pub again_law : AgainLaw
again_law o name content fits content_fits here may none =
    let rolled = rolled_is o name may in
    let left : with_design_again o name content ≡ last o name may content =
    ap (λ (next : Office). set_content next name content) rolled ∙ last_is o name may content in
    subst (IsBroughtAgain o name content) (sym left)
    (brought o name may content fits content_fits here (sym (ap (λ (next : Office). content_refusal next name content) rolled) ∙ none))
