-- Trees of offices with their finders.
use Rattle.std.proofs.Common.{◌≡◌, ◌∙◌, ◌<◌, ◌++◌, ◌-◌, ◌+◌, ℕ, zero, suc, true, false, cond, List, [], ◌∷◌, length, remove, take, Option, Some, None, refl}
use Rattle.std.proofs.Common.{sym, ap, subst, slice_get, slice_set, arith}
use Rattle.std.specs.Prelude.{Result, Ok, Err, OnOk, IfSome, is_err}
use Rattle.std.specs.declared.alloc.AllocError.{AllocError}
use Rattle.std.specs.Option.{option_and_then, option_map, option_map_or}
use Rattle.std.proofs.lemmas.Bool.{true≢false}
use Rattle.std.proofs.Math.Seq.{take-length}
use Rattle.std.proofs.lemmas.List.{length-append, length-map, map-set, take-append-le, take_more}
use Rattle.clr_rows.specs.Contents.{no_rows}
use Rattle.clr_rows.specs.declared.tables.TableDef.{TableDef}
use Rattle.clr_rules.specs.declared.rules.Rule.{Rule}
use Rattle.clr_finders.specs.RowMaps.{FiledRows}
use Rattle.clr_workspaces.specs.Marks.{Name, find_mark}
use Rattle.clr_workspaces.specs.Workspaces.{Workspace, find, workspace_at}
use Rattle.clr_workspaces.specs.Operations.{after_create, after_mark, after_remove, after_unmark, at_position, save, set_kept, with_kept, with_marks}
use Rattle.clr_workspaces.specs.Soundness.{IsSound}
use Rattle.clr_steps.specs.Laws.{IsPerformed, without_memory, refused, done}
use Rattle.clr_steps.specs.Offices.{Office, below_live, office_of}
use Rattle.clr_steps.specs.Positions.{at_savepoint}
use Rattle.clr_steps.specs.declared.commands.Reply.{Reply}
use Rattle.clr_steps.proofs.SeenLemmas.{name_is, name_law, within}
use Rattle.clr_engine.specs.Fitting.{IsAdmitted}
use Rattle.clr_grid.specs.Finders.{AreFinders, IsFinderAt, IsFinderOf}
use Rattle.clr_engine.specs.KeptContents.{IsPositionOf, kept_content_at}
use Rattle.clr_judges.specs.KeptContents.{StayFinders, kept_content, kept_contents}
use Rattle.clr_judges.specs.Fitting.{IsServed}
use Rattle.clr_grid.proofs.Indexes.{one_at, one_less, one_more, one_set}
use Rattle.clr_judges.proofs.Kept.{after_creating, after_removing, content_at, same_content}

module _ (schema : List TableDef) (book : List Rule) (ws : List Workspace) (sound : IsSound ws) where
  pub served : IsAdmitted (office_of schema book ws) → (finders : List (Option FiledRows)) → AreFinders book (kept_contents ws) finders →
      IsServed book ws finders
  served admitted finders are = record { sound = sound; fit = record { tables = schema; book = admitted.fit.book; rows = admitted.fit.rows }; are = are }

  -- ---- positions of an office
  got : (vs : List Workspace) (k : ℕ) → k < length vs → slice_get vs k ≡ Some (workspace_at vs k)
  got [] k lt = absurd (omega (arith, lt))
  got (v ∷ vs) zero lt = refl
  got (v ∷ vs) (suc k) lt = got vs k (omega (arith, lt))

  below : (vs : List Workspace) (k : ℕ) → suc k < length vs → slice_get (below_live vs) k ≡ Some (workspace_at vs (suc k))
  below [] k lt = absurd (omega (arith, lt))
  below (l ∷ vs) k lt = got vs k (omega (arith, lt))

  position_is : (name : Name) (at : ℕ) → find ws name ≡ Some at → IsPositionOf (office_of schema book ws) name at
  position_is name zero e =
      let s = name_law schema book ws sound name in
      record {
        named = ap Some (sym (name_is schema book ws sound name zero e ∙ sound.rooted.live));
        current = ap Some (sym (s.content ∙ ap (λ r. option_map_or (λ k. (workspace_at ws k).current) r no_rows) e));
        kept = (λ i. cond (sym (s.kept ∙ ap (λ r. option_map_or (λ k. (workspace_at ws k).kept) r false) e ∙ sound.held) i)
            (Some (sym (s.content ∙ ap (λ r. option_map_or (λ k. (workspace_at ws k).current) r no_rows) e) i)) None);
      }
  position_is name (suc k) e =
      let s = name_law schema book ws sound name in
      let there = below ws k (within schema book ws sound name (suc k) e) in
      record {
        named = ap (option_map (λ (w : Workspace). w.name)) there ∙ ap Some (sym (name_is schema book ws sound name (suc k) e));
        current = ap (option_map (λ (w : Workspace). w.current)) there
            ∙ ap Some (sym (s.content ∙ ap (λ r. option_map_or (λ k. (workspace_at ws k).current) r no_rows) e));
        kept = ap (option_and_then kept_content) there
            ∙ (λ i. cond (sym (s.kept ∙ ap (λ r. option_map_or (λ k. (workspace_at ws k).kept) r false) e) i)
            (Some (sym (s.content ∙ ap (λ r. option_map_or (λ k. (workspace_at ws k).current) r no_rows) e) i)) None);
      }

  position_in : (o : Office) → office_of schema book ws ≡ o → (name : Name) (at : ℕ) → find ws name ≡ Some at → IsPositionOf o name at
  position_in o is name at e = subst (λ (o : Office). IsPositionOf o name at) is (position_is name at e)

  pub found_in : (o : Office) → office_of schema book ws ≡ o → (name : Name) (r : Option ℕ) → r ≡ find ws name → IfSome r (IsPositionOf o name)
  found_in o is name None e = tt
  found_in o is name (Some at) e = position_in o is name at (sym e)

  later : (vs : List Workspace) (k : ℕ) → one_at (kept_contents vs) k ≡ option_and_then kept_content (slice_get vs k)
  later [] k = refl
  later (v ∷ vs) zero = refl
  later (v ∷ vs) (suc k) = later vs k

  kept_is : (at : ℕ) → one_at (kept_contents ws) at ≡ kept_content_at (office_of schema book ws) at
  kept_is at = by ws sound at
    where
      by : (vs : List Workspace) → IsSound vs → (at : ℕ) → one_at (kept_contents vs) at ≡ kept_content_at (office_of schema book vs) at
      by [] h at = absurd (omega (arith, h.rooted.filled))
      by (l ∷ vs) h zero = ap (λ b. cond b (Some l.current) None) h.held
      by (l ∷ vs) h (suc k) = later vs k

  pub finder_in : (o : Office) → office_of schema book ws ≡ o → (at : ℕ) (finder : Option FiledRows) → IsFinderAt book (one_at (kept_contents ws) at) finder
      → IsFinderAt o.book (kept_content_at o at) finder
  finder_in o is at finder h = subst (λ (o : Office). IsFinderAt o.book (kept_content_at o at) finder) is (subst (λ c. IsFinderAt book c finder) (kept_is at) h)

-- ---- what leaves the contents, and what sets a flag
pub stays : (r : Option Reply) (ws next left : List Workspace) (reply : Reply) → IsPerformed r ws next reply left → kept_contents next ≡ kept_contents ws
    → kept_contents left ≡ kept_contents ws
stays r ws next left reply (without_memory e is) same = ap kept_contents is
stays r ws next left reply (refused e is) same = ap kept_contents is
stays r ws next left reply (done e f is) same = ap kept_contents is ∙ same

pub after_marking : (ws : List Workspace) (at : ℕ) (name : Name) → kept_contents (after_mark ws at name) ≡ kept_contents ws
after_marking ws at name = same_content ws at (save name) refl

pub after_unmarking : (ws : List Workspace) (at : ℕ) (name : Name) → kept_contents (at_savepoint ws at name (after_unmark ws at)) ≡ kept_contents ws
after_unmarking ws at name = by (find_mark (workspace_at ws at).marks name)
  where
    by : (r : Option ℕ) → kept_contents (at_position ws r (after_unmark ws at)) ≡ kept_contents ws
    by None = refl
    by (Some i) = same_content ws at (with_marks (λ ms. remove ms i)) refl

pub after_releasing : (ws : List Workspace) (at : ℕ) (old new : List (Option FiledRows)) → new ≡ slice_set old at None
    → StayFinders ws old (set_kept ws at false) new
after_releasing ws at old new e book are =
    subst (AreFinders book (kept_contents (set_kept ws at false))) (sym e)
    (subst (λ cs. AreFinders book cs (slice_set old at None)) (sym (map-set kept_content ws at (with_kept false (workspace_at ws at))))
    (one_set book (kept_contents ws) old are at None None tt))

-- ---- positions that come and go
pub was_ok : {P : Type 0} (r : Result Unit AllocError) → is_err r ≡ false → OnOk r P → P
was_ok (Ok u) e h = h
was_ok (Err x) e h = absurd (true≢false e)

pub after_adding : (ws : List Workspace) (name : Name) (at : ℕ) (old new : List (Option FiledRows)) → new ≡ old ++ None ∷ []
    → StayFinders ws old (after_create ws name at) new
after_adding ws name at old new e book are =
    subst (AreFinders book (kept_contents (after_create ws name at))) (sym e)
    (subst (λ cs. AreFinders book cs (old ++ None ∷ [])) (sym (after_creating ws name at)) (one_more book (kept_contents ws) old are None None tt))

pub undone : (old mid new : List (Option FiledRows)) → mid ≡ old ++ None ∷ [] → new ≡ take (length mid - 1) mid → new ≡ old
undone old mid new e f = f ∙ ap (λ m. take (length m - 1) m) e ∙ by old
  where
    by : (fs : List (Option FiledRows)) → take (length (fs ++ None ∷ []) - 1) (fs ++ None ∷ []) ≡ fs
    by fs =
        let n : length (fs ++ None ∷ []) - 1 ≡ length fs = omega (arith, length-append fs (None ∷ [])) in
        ap (λ k. take k (fs ++ None ∷ [])) n ∙ take-append-le (length fs) fs (None ∷ []) (omega arith) ∙ take-length fs

pub after_taking : (ws : List Workspace) (at : ℕ) (old new : List (Option FiledRows)) → IsSound ws → 0 < at → at < length ws → new ≡ remove old at
    → StayFinders ws old (after_remove ws at) new
after_taking ws at old new sound some lt e book are =
    let p = sound.rooted.under at some lt in
    subst (AreFinders book (kept_contents (after_remove ws at))) (sym e)
    (subst (λ cs. AreFinders book cs (remove old at)) (sym (after_removing ws at p.0 p.1)) (one_less book (kept_contents ws) old are at))
