-- The scene of one change set over a content.
use Rattle.std.proofs.Common.{◌≡◌, ◌∙◌, ℕ, zero, suc, Bool, true, false, cond, List, [], ◌∷◌, Option, Some, None, refl, sym, ap, subst, unwrap_or}
use Rattle.clr_rows.specs.declared.cells.CellId.{CellId}
use Rattle.clr_rows.specs.declared.rows.Row.{Row}
use Rattle.clr_rows.specs.Contents.{Content, Changes, row_at, taken_over}
use Rattle.clr_rows.proofs.ChangeLemmas.{row-taken_over}
use Rattle.std.specs.Prelude.{Result, Ok, Err, IfOk}
use Rattle.std.specs.declared.alloc.AllocError.{AllocError}
use Rattle.clr_rules.specs.Books.{FitsCell}
use Rattle.clr_rules.specs.Needs.{IsFirstNewlyBroken}
use Rattle.clr_rules.specs.declared.needs.Broken.{Broken}
use Rattle.clr_finders.specs.Sharing.{IsSettledFor}
use Rattle.clr_needs.proofs.AuditLaws.{first_listed}
use Rattle.clr_needs.specs.Broken.{view_after_merge}
use Rattle.clr_foot.specs.Scenes.{IsReady, SceneModel, setting_of}
use Rattle.clr_steps.specs.Refusals.{first_newly_broken}
use Rattle.clr_needs.specs.Settings.{DoChange}
use Rattle.clr_judges.specs.Fitting.{DoChangeRows}
use Rattle.clr_judges.proofs.Changed.{do_change}
use Rattle.clr_rules.specs.declared.rules.Rule.{Rule}
use Rattle.clr_finders.specs.RowMaps.{FiledRows}
use Rattle.clr_needs.specs.declared.needs.VersionId.{VersionId}
use Rattle.clr_needs.specs.Members.{after_in, after_of, setting}
use Rattle.clr_needs.specs.Settings.{Lived, changer, held_row, new_row, new_version, old_version, version}
use Rattle.clr_row_versions.specs.Versions.{FitsSetting}
use Rattle.clr_workspaces.specs.Workspaces.{Workspace}
use Rattle.clr_grid.specs.Finders.{IsFinderAt, IsFinderOf}
use Rattle.clr_judges.specs.KeptContents.{kept_content}
use Rattle.clr_judges.specs.Fitting.{FitBoth}

module _ (book : List Rule) (content : Content) (changed : Changes) (fit : FitBoth book content (taken_over content changed)) where
  old_fits : (q : CellId) (row : Option Row) (n : Option ℕ) (l : Lived ℕ) → row_at content q ≡ row → old_version n row ≡ Some l → FitsCell fit.tables (q, l.row)
  old_fits q None n l is e = cc
  old_fits q (Some r) n l is e = let same : r ≡ l.row = ap (λ (o : Option (Lived ℕ)). row_of r o) e in fit.before q l.row (is ∙ ap Some same)
    where
      row_of : Row → Option (Lived ℕ) → Row
      row_of r None = r
      row_of r (Some l) = l.row

  brought : (q : CellId) (row : Row) → after_in changed q ≡ Some (Some row) → row_at (taken_over content changed) q ≡ Some row
  brought q row e = row-taken_over content changed q ∙ ap (λ found. unwrap_or found (row_at content q)) e

  new_fits : (q : CellId) (n : Option ℕ) (l : Lived ℕ) → new_version (after_of (changed ∷ [])) q n ≡ Some l → FitsCell fit.tables (q, l.row)
  new_fits q None l e = cc
  new_fits q (Some (suc k)) l e = cc
  new_fits q (Some zero) l e = by (after_in changed q) refl e
    where
      row_of : Row → Option (Lived ℕ) → Row
      row_of r None = r
      row_of r (Some l) = l.row

      by : (after : Option (Option Row)) → after_in changed q ≡ after → new_row 0 after ≡ Some l → FitsCell fit.tables (q, l.row)
      by None is e = cc
      by (Some None) is e = cc
      by (Some (Some r)) is e = let same : r ≡ l.row = ap (λ (o : Option (Lived ℕ)). row_of r o) e in fit.after q l.row (brought q l.row (is
          ∙ ap (λ r. Some (Some r)) same))

  pub fits_setting : FitsSetting (setting book content (changed ∷ []))
  unfolding version
  fits_setting = record { tables = fit.tables; book = fit.book; each = λ v l e. by v l v.fresh refl e }
    where
      by : (v : VersionId) (l : Lived ℕ) (fresh : Bool) → v.fresh ≡ fresh → version (setting book content (changed ∷ [])) v ≡ Some l
          → FitsCell fit.tables (held_row v l)
      by v l true is e = let c = setting book content (changed ∷ []) in
          new_fits v.cell (changer c v.cell) l
          (sym (ap (λ b. cond b (new_version c.after v.cell (changer c v.cell)) (old_version (changer c v.cell) (c.root v.cell))) is) ∙ e)
      by v l false is e = let c = setting book content (changed ∷ []) in
          old_fits v.cell (row_at content v.cell) (changer c v.cell) l refl
          (sym (ap (λ b. cond b (new_version c.after v.cell (changer c v.cell)) (old_version (changer c v.cell) (c.root v.cell))) is) ∙ e)

-- ---- its scene, whose parts are these
module _ (book rules : List Rule) (content root : Content) (changed : Changes) (sets : List Changes) (fit : FitBoth book content (taken_over content changed))
    (is : rules ≡ book) (same : root ≡ content) (one : sets ≡ changed ∷ []) where
  pub fits_scene : FitsSetting (setting rules root sets)
  fits_scene = subst (λ r. FitsSetting (setting r root sets)) (sym is) (subst (λ m. FitsSetting (setting book m sets)) (sym same)
      (subst (λ ss. FitsSetting (setting book content ss)) (sym one) (fits_setting book content changed fit)))

  pub ready : (finder : FiledRows) → IsFinderOf book content finder
      → IsReady {F = FiledRows} (λ f. f.settled) (record { rules = rules; root = root; sets = sets; finder = finder })
  ready finder served = record {
    fit = fits_scene;
    is_settled = subst (λ r. IsSettledFor finder.settled r root) (sym is) (subst (λ m. IsSettledFor finder.settled book m) (sym same) served.0);
  }

  pub changing : DoChangeRows content changed → DoChange (setting rules root sets)
  changing h = subst (λ r. DoChange (setting r root sets)) (sym is) (subst (λ m. DoChange (setting book m sets)) (sym same)
      (subst (λ ss. DoChange (setting book content ss)) (sym one) (do_change book content changed h)))

  pub listed : (m : SceneModel FiledRows) (finder : FiledRows) → m ≡ record { rules = rules; root = root; sets = sets; finder = finder }
      → (r : Result (Option Broken) AllocError)
      → IfOk r (IsFirstNewlyBroken m.rules (row_at m.root) (view_after_merge (setting_of m)))
      → IfOk r (λ need. need ≡ first_newly_broken book content (taken_over content changed))
  unfolding first_newly_broken
  listed m finder e (Ok need) h = first_listed book content changed need
      (subst (λ r. IsFirstNewlyBroken r (row_at content) (view_after_merge (setting r content (changed ∷ []))) need) is
      (subst (λ (c : Content). IsFirstNewlyBroken rules (row_at c) (view_after_merge (setting rules c (changed ∷ []))) need) same
      (subst (λ ss. IsFirstNewlyBroken rules (row_at root) (view_after_merge (setting rules root ss)) need) one
      (subst (λ (m : SceneModel FiledRows). IsFirstNewlyBroken m.rules (row_at m.root) (view_after_merge (setting_of m)) need) e h))))
  listed m finder e (Err x) h = h

-- ---- a workspace with a finder
pub unserved : (book : List Rule) (w : Workspace) (finder : Option FiledRows) → IsFinderAt book (kept_content w) finder → finder ≡ None → w.kept ≡ false
unserved book w finder is e = by w.kept (subst (λ f. IsFinderAt book (kept_content w) f) e is)
  where
    by : (b : Bool) → IsFinderAt book (cond b (Some w.current) None) None → b ≡ false
    by true h = absurd h
    by false h = refl

pub record IsServedAt (book : List Rule) (w : Workspace) (finder : FiledRows) : Type 0 where
  pub kept : w.kept ≡ true
  pub is : IsFinderOf book w.current finder

pub served_at : (book : List Rule) (w : Workspace) (option : Option FiledRows) (finder : FiledRows) → IsFinderAt book (kept_content w) option →
    option ≡ Some finder
    → IsServedAt book w finder
served_at book w option finder is e = by w.kept refl (subst (λ f. IsFinderAt book (kept_content w) f) e is)
  where
    by : (b : Bool) → w.kept ≡ b → IsFinderAt book (cond b (Some w.current) None) (Some finder) → IsServedAt book w finder
    by true flag h = record { kept = flag; is = h }
    by false flag h = absurd h
