-- A workspace modified, and one taken out, by position and by name.
use Rattle.std.proofs.Common.{◌≡◌, ℕ, zero, suc, ◌<◌, Bool, true, false, cond, List, [], ◌∷◌, ◌++◌, refl, sym, ap, ◌∙◌}
use Rattle.std.specs.Str.{bytes_eq}
use Rattle.std.proofs.lemmas.Bool.{true≢false}
use Rattle.clr_rows.specs.declared.tables.TableDef.{TableDef}
use Rattle.clr_rows.specs.Contents.{Content}
use Rattle.clr_rows.specs.Names.{live_name}
use Rattle.clr_rules.specs.declared.rules.Rule.{Rule}
use Rattle.clr_workspaces.specs.Marks.{Mark, without_mark_of, Name}
use Rattle.clr_workspaces.specs.Workspaces.{Workspace, workspace_at}
use Rattle.clr_workspaces.specs.Operations.{change_workspace, without_at, with_marks, with_current}
use Rattle.clr_steps.specs.Names.{same_name, is_live}
use Rattle.clr_steps.specs.Offices.{Office, with_workspaces, modify, modify_marks, without, set_content, below_live, office_of}
use Rattle.clr_steps.proofs.FirstLemmas.{IsNone, IsOnly, remove_only, only_remove}

abbrev pub has_name : Name → Workspace → Bool
has_name n w = bytes_eq n w.name

abbrev pub LeavesName : (Workspace → Workspace) → Type 0
LeavesName f = (w : Workspace) → (f w).name ≡ w.name

-- by name as by position ---------------------------------------------------------------------------------

pub modify_none : (n : Name) (f : Workspace → Workspace) (ws : List Workspace) → IsNone (has_name n) ws → modify n f ws ≡ ws
unfolding same_name
modify_none n f [] h = refl
modify_none n f (w ∷ ws) h = rw h.0 (ap (λ vs. w ∷ vs) (modify_none n f ws h.1))

pub changed_is : (n : Name) (f : Workspace → Workspace) (ws : List Workspace) (at : ℕ) → IsOnly (has_name n) ws at → change_workspace ws at f ≡ modify n f ws
unfolding same_name
changed_is n f [] at h = absurd h
changed_is n f (w ∷ ws) zero h = rw h.0 (ap (λ vs. f w ∷ vs) (sym (modify_none n f ws h.1)))
changed_is n f (w ∷ ws) (suc at) h = rw h.0 (ap (λ vs. w ∷ vs) (changed_is n f ws at h.1))

pub closed_is : (n : Name) (ws : List Workspace) (at : ℕ) → IsOnly (has_name n) ws at → without_at ws at ≡ without n ws
unfolding same_name
closed_is n ws at h = remove_only (has_name n) ws at h

-- what a modification that leaves names leaves -----------------------------------------------------------

same_of_either : {A : Type 0} (part : Workspace → A) (f : Workspace → Workspace) (w : Workspace) → part (f w) ≡ part w → (b : Bool) → part (cond b (f w) w)
    ≡ part w
same_of_either part f w e true = e
same_of_either part f w e false = refl

module _ (n m : Name) (f : Workspace → Workspace) (leaves : LeavesName f) where
  here : (w : Workspace) → has_name n (cond (same_name m w.name) (f w) w) ≡ has_name n w
  here w = same_of_either (has_name n) f w (ap (bytes_eq n) (leaves w)) (same_name m w.name)

  none_modify : (ws : List Workspace) → IsNone (has_name n) ws → IsNone (has_name n) (modify m f ws)
  none_modify [] h = tt
  none_modify (w ∷ ws) h = (here w ∙ h.0, none_modify ws h.1)

  pub only_modify : (ws : List Workspace) (at : ℕ) → IsOnly (has_name n) ws at → IsOnly (has_name n) (modify m f ws) at
  only_modify [] at h = absurd h
  only_modify (w ∷ ws) zero h = (here w ∙ h.0, none_modify ws h.1)
  only_modify (w ∷ ws) (suc at) h = (here w ∙ h.0, only_modify ws at h.1)

-- a part of each workspace that f leaves
pub part_modify : {A : Type 0} (part : Workspace → A) (m : Name) (f : Workspace → Workspace) → ((w : Workspace) → part (f w) ≡ part w)
    → (ws : List Workspace) (i : ℕ) → part (workspace_at (modify m f ws) i) ≡ part (workspace_at ws i)
part_modify part m f leaves [] i = refl
part_modify part m f leaves (w ∷ ws) zero = same_of_either part f w (leaves w) (same_name m w.name)
part_modify part m f leaves (w ∷ ws) (suc i) = part_modify part m f leaves ws i

pub below_modify : (m : Name) (f : Workspace → Workspace) (ws : List Workspace) → below_live (modify m f ws) ≡ modify m f (below_live ws)
below_modify m f [] = refl
below_modify m f (w ∷ ws) = refl

-- under LIVE none has LIVE's name
pub modify_below : (m : Name) (f : Workspace → Workspace) (ws : List Workspace) → IsOnly (has_name m) ws 0 → modify m f (below_live ws) ≡ below_live ws
modify_below m f [] h = absurd h
modify_below m f (l ∷ ws) h = modify_none m f ws h.1

-- two modifications under different names, in either order
abbrev if_named : Name → (Workspace → Workspace) → Workspace → Workspace
if_named n f w = cond (same_name n w.name) (f w) w

if_named_is : (n : Name) (f : Workspace → Workspace) (w : Workspace) (b : Bool) → same_name n w.name ≡ b → if_named n f w ≡ cond b (f w) w
if_named_is n f w b e = ap (λ (c : Bool). cond c (f w) w) e

pub modify_both : (n m : Name) (f g : Workspace → Workspace) → LeavesName f → LeavesName g → ((c : Name) → same_name n c ≡ true → same_name m c ≡ false)
    → (ws : List Workspace) → modify n f (modify m g ws) ≡ modify m g (modify n f ws)
modify_both n m f g kf kg apart [] = refl
modify_both n m f g kf kg apart (w ∷ ws) =
    ap (λ v. v ∷ modify n f (modify m g ws)) (by (same_name n w.name) (same_name m w.name) refl refl)
    ∙ ap (λ vs. if_named m g (if_named n f w) ∷ vs) (modify_both n m f g kf kg apart ws)
  where
    by : (a b : Bool) → same_name n w.name ≡ a → same_name m w.name ≡ b → if_named n f (if_named m g w) ≡ if_named m g (if_named n f w)
    by true true ea eb = absurd (true≢false (sym eb ∙ apart w.name ea))
    by true false ea eb = ap (if_named n f) (if_named_is m g w false eb) ∙ if_named_is n f w true ea ∙ sym (ap (if_named m g) (if_named_is n f w true ea)
        ∙ if_named_is m g (f w) false (ap (same_name m) (kf w) ∙ eb))
    by false true ea eb = ap (if_named n f) (if_named_is m g w true eb) ∙ if_named_is n f (g w) false (ap (same_name n) (kg w) ∙ ea)
        ∙ sym (ap (if_named m g) (if_named_is n f w false ea) ∙ if_named_is m g w true eb)
    by false false ea eb = ap (if_named n f) (if_named_is m g w false eb) ∙ if_named_is n f w false ea ∙ sym (ap (if_named m g) (if_named_is n f w false ea)
        ∙ if_named_is m g w false eb)

-- what they make of the office ---------------------------------------------------------------------------

module _ (schema : List TableDef) (book : List Rule) where
  -- under LIVE, whatever f is
  pub modified_below : (n : Name) (f : Workspace → Workspace) (ws : List Workspace) → (workspace_at ws 0).name ≡ live_name → is_live n ≡ false
      → office_of schema book (modify n f ws) ≡ with_workspaces (office_of schema book ws) (modify n f (below_live ws))
  unfolding same_name is_live
  modified_below n f [] live e = refl
  modified_below n f (l ∷ ws) live e = let h : bytes_eq n l.name ≡ false = ap (bytes_eq n) live ∙ e in rw h refl

  -- under any name, since LIVE's marks are no part of the office
  pub modified_marks : (n : Name) (f : List Mark → List Mark) (ws : List Workspace)
      → office_of schema book (modify_marks n f ws) ≡ with_workspaces (office_of schema book ws) (modify_marks n f (below_live ws))
  modified_marks n f [] = refl
  modified_marks n f (l ∷ ws) = by (same_name n l.name)
    where
      by : (b : Bool) → office_of schema book (cond b (with_marks f l) l ∷ modify_marks n f ws)
          ≡ with_workspaces (office_of schema book (l ∷ ws)) (modify_marks n f ws)
      by true = refl
      by false = refl

  -- under any name, with another content
  pub modified_content : (n : Name) (content : Content) (ws : List Workspace) (at : ℕ) → (workspace_at ws 0).name ≡ live_name → IsOnly (has_name n) ws at
      → office_of schema book (modify n (with_current content) ws) ≡ set_content (office_of schema book ws) n content
  unfolding same_name is_live set_content
  modified_content n content [] at live h = absurd h
  modified_content n content (l ∷ ws) zero live h =
      let e : bytes_eq n live_name ≡ true = sym (ap (bytes_eq n) live) ∙ h.0 in
      rw (h.0, e, modify_none n (with_current content) ws h.1) refl
  modified_content n content (l ∷ ws) (suc at) live h =
      let e : bytes_eq n live_name ≡ false = sym (ap (bytes_eq n) live) ∙ h.0 in
      rw (h.0, e) refl

  without_below : (n : Name) (ws : List Workspace) → (workspace_at ws 0).name ≡ live_name → is_live n ≡ false
      → office_of schema book (without n ws) ≡ with_workspaces (office_of schema book ws) (without n (below_live ws))
  unfolding same_name is_live
  without_below n [] live e = refl
  without_below n (l ∷ ws) live e = let h : bytes_eq n l.name ≡ false = ap (bytes_eq n) live ∙ e in rw h refl

  -- a workspace taken out, and its mark
  pub removed_is : (n p : Name) (at above : ℕ) (ws : List Workspace) → (workspace_at ws 0).name ≡ live_name → is_live n ≡ false → above < at
      → IsOnly (has_name n) ws at → IsOnly (has_name p) ws above
      → office_of schema book (change_workspace (without_at ws at) above (with_marks (without_mark_of n)))
      ≡ with_workspaces (office_of schema book ws) (modify_marks p (without_mark_of n) (without n (below_live ws)))
  removed_is n p at above ws live e lt h under =
      let f = with_marks (without_mark_of n) in
      ap (office_of schema book) (changed_is p f (without_at ws at) above (only_remove (has_name p) ws above at lt under))
      ∙ ap (λ (vs : List Workspace). office_of schema book (modify p f vs)) (closed_is n ws at h)
      ∙ modified_marks p (without_mark_of n) (without n ws)
      ∙ ap (λ (o : Office). with_workspaces o (modify p f o.workspaces)) (without_below n ws live e)

  -- one more at the end
  pub appended_is : (ws : List Workspace) (w : Workspace) → (workspace_at ws 0).name ≡ live_name → office_of schema book (ws ++ w ∷ [])
      ≡ with_workspaces (office_of schema book ws) (below_live ws ++ w ∷ [])
  appended_is [] w live = absurd (true≢false (ap (bytes_eq []) live))
  appended_is (l ∷ ws) w live = refl
