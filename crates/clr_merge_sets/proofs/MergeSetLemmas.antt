-- Members in conflict, what members changed, and the scene that a merge set makes.
use Rattle.std.proofs.Common.{◌≡◌, ℕ, zero, suc, ◌+◌, ◌≤◌, Bool, true, false, not, cond, List, [], ◌∷◌, ◌++◌, Option, Some, None, Result, Ok, Err}
use Rattle.std.proofs.Common.{IfOk, MatchResult, drop, length, map, take, unwrap_or, refl, sym, ap, ◌∙◌, arith}
use Rattle.std.specs.Prelude.{position, slice_get}
use Rattle.std.specs.FinMap as finite
use Rattle.std.specs.Option.{option_map, option_map_or, option_or}
use Rattle.std.proofs.lemmas.Bool.{not-false}
use Rattle.std.proofs.lemmas.List.{drop_all}
use Rattle.clr_rows.specs.declared.cells.CellId.{CellId}
use Rattle.clr_rows.specs.declared.cells.Change.{Change}
use Rattle.clr_rows.specs.declared.rows.Row.{Row}
use Rattle.clr_rows.specs.Contents.{Changes, Content, change_of, conflicts, is_changed, least_and_count, no_changes, row_at}
use Rattle.clr_rows.proofs.ChangeLemmas.{get-changes}
use Rattle.clr_rules.specs.Books.{FitsCell}
use Rattle.clr_workspaces.specs.Marks.{Name}
use Rattle.clr_workspaces.specs.Workspaces.{Workspace}
use Rattle.clr_workspaces.specs.Operations.{own_changes}
use Rattle.clr_needs.specs.declared.needs.VersionId.{VersionId}
use Rattle.clr_needs.specs.Members.{after_in, after_of, positions}
use Rattle.clr_needs.specs.Settings.{Lived, first_changer, held_row, new_version, old_version, version}
use Rattle.clr_row_versions.specs.Versions.{FitsSetting}
use Rattle.clr_needs.proofs.Lives.{new_is, old_is}
use Rattle.clr_steps.specs.Names.{has, is_live}
use Rattle.clr_steps.specs.Offices.{Office, content_of, current_of, find_name, is_kept, stands, workspace}
use Rattle.clr_steps.specs.Quiet.{MergeSet, root_content}
use Rattle.clr_steps.specs.Readings.{changes_in, conflicts_in, if_stands}
use Rattle.clr_steps.proofs.FitLemmas.{fits_content_of}
use Rattle.clr_engine.specs.Fitting.{IsAdmitted}
use Rattle.clr_clearance.specs.declared.verdicts.Verdict.{Verdict}
use Rattle.clr_clearance.specs.declared.verdicts.Verdict.TheVariants as verdict
use Rattle.clr_clearance.specs.MergeSets.{change_sets, is_child, setting_by_position}
use Rattle.clr_clearance.specs.Verdicts.{first_conflict, member_fault, missing_member, names_fault, repeated_member, root_fault, stray_member}
use Rattle.clr_clearance.proofs.ClearLemmas.{each_fails, has_at, neither, position_of}
use Rattle.clr_clearance.proofs.MergeSetLemmas.{content_above}
use Rattle.clr_clearance.proofs.StaticLemmas.{child_under}
use Rattle.clr_merge_sets.specs.MergeSets.{AreRowsAbove}
use Rattle.clr_merge_sets.proofs.NameLemmas.{nowhere, shown, unshown}

-- lists --------------------------------------------------------------------------------------------

drop_suc : {X : Type 0} (xs : List X) (k : ℕ) (x : X) → slice_get xs k ≡ Some x → drop k xs ≡ x ∷ drop (suc k) xs
drop_suc [] k x e = absurd (cc)
drop_suc (y ∷ ys) zero x e = let one : y ≡ x = cc in ap (λ z. z ∷ ys) one
drop_suc (y ∷ ys) (suc k) x e = drop_suc ys k x e

take_one : {X Y : Type 0} (f : X → Y) (xs : List X) (k : ℕ) (x : X) → slice_get xs k ≡ Some x → map f (take (suc k) xs) ≡ map f (take k xs) ++ f x ∷ []
take_one f [] k x e = absurd (cc)
take_one f (y ∷ ys) zero x e = let one : y ≡ x = cc in ap (λ z. f z ∷ []) one
take_one f (y ∷ ys) (suc k) x e = ap (λ zs. f y ∷ zs) (take_one f ys k x e)

pub map_more : {X Y : Type 0} (f : X → Y) (xs : List X) (k : ℕ) (x : X) → slice_get xs k ≡ Some x → map f (take (k + 1) xs) ≡ map f (take k xs) ++ f x ∷ []
map_more f xs k x e = let next : k + 1 ≡ suc k = omega arith in ap (λ n. map f (take n xs)) next ∙ take_one f xs k x e

-- conflicts ----------------------------------------------------------------------------------------

pub cells_are : (o : Office) (name : Name) (cells : Option (List CellId)) → cells ≡ if_stands o name (conflicts_in o name) → unwrap_or cells []
    ≡ conflicts_in o name
cells_are o name None e = sym (ap (λ r. option_map_or (λ (w : Workspace). conflicts (content_of o w.parent) (own_changes w)) r [])
    (nowhere o name (unshown o name (conflicts_in o name) e)))
cells_are o name (Some cells) e = shown o name (conflicts_in o name) cells e

-- what a member changed is in conflict with the rows above it where the member is
pub conflicts_are : (o : Office) (names : List Name) (rows : Content) (at : ℕ) (name : Name) (set : Changes) → AreRowsAbove o names rows
    → slice_get names at ≡ Some name → set ≡ changes_in o name → conflicts rows set ≡ conflicts_in o name
conflicts_are o names rows at name set above e is = ap (conflicts rows) is ∙ sym (above name (has_at names at name e))

module _ (o : Office) (names : List Name) where
  -- the first conflict from a position on is that of all
  abbrev pub IsLater : ℕ → Type 0
  IsLater at = first_conflict o 0 names ≡ first_conflict o at (drop at names)

  pub later_at_first : IsLater 0
  later_at_first = ap (first_conflict o 0) (sym (whole names))
    where
      whole : (xs : List Name) → drop 0 xs ≡ xs
      whole [] = refl
      whole (x ∷ xs) = refl

  abbrev conflict_at : ℕ → Option (CellId × ℕ) → Option Verdict
  conflict_at at found = option_map (λ (c : CellId × ℕ). verdict.Conflict at c.0 c.1) found

  next : (at : ℕ) (name : Name) → slice_get names at ≡ Some name → first_conflict o at (drop at names)
      ≡ option_or (conflict_at at (least_and_count (conflicts_in o name))) (first_conflict o (suc at) (drop (suc at) names))
  unfolding first_conflict
  next at name e = ap (first_conflict o at) (drop_suc names at name e)

  pub conflict_found : (at : ℕ) (name : Name) (c : CellId × ℕ) → slice_get names at ≡ Some name → Some c ≡ least_and_count (conflicts_in o name) → IsLater at
      → Some (verdict.Conflict at c.0 c.1) ≡ first_conflict o 0 names
  conflict_found at name c e found later = sym (later ∙ next at name e
      ∙ ap (λ r. option_or (conflict_at at r) (first_conflict o (suc at) (drop (suc at) names))) (sym found))

  pub conflict_later : (at : ℕ) (name : Name) → slice_get names at ≡ Some name → None ≡ least_and_count (conflicts_in o name) → IsLater at → IsLater (at + 1)
  conflict_later at name e none later =
      let one : suc at ≡ at + 1 = omega arith in
      later ∙ next at name e ∙ ap (λ r. option_or (conflict_at at r) (first_conflict o (suc at) (drop (suc at) names))) (sym none)
      ∙ ap (λ k. first_conflict o k (drop k names)) one

  pub conflict_nowhere : (at : ℕ) → length names ≤ at → IsLater at → None ≡ first_conflict o 0 names
  unfolding first_conflict
  conflict_nowhere at past later = sym (later ∙ ap (first_conflict o at) (drop_all at names past))

-- what members changed -------------------------------------------------------------------------------

pub unchanged : (o : Office) (name : Name) → stands o name ≡ false → no_changes ≡ changes_in o name
unchanged o name e = sym (ap (λ r. option_map_or own_changes r no_changes) (nowhere o name e))

-- what stands at a position of what members changed is what the member there changed
pub named_at : (o : Office) (names : List Name) (sets : List Changes) (at : ℕ) (set : Changes) → sets ≡ map (changes_in o) names → slice_get sets at ≡ Some set
    → (name : Name) × (slice_get names at ≡ Some name) × (set ≡ changes_in o name)
named_at o names sets at set are read = by names at (sym (ap (λ ss. slice_get ss at) are) ∙ read)
  where
    by : (ns : List Name) (k : ℕ) → slice_get (map (changes_in o) ns) k ≡ Some set → (name : Name) × (slice_get ns k ≡ Some name) × (set ≡ changes_in o name)
    by [] k e = absurd (cc)
    by (n ∷ ns) zero e = let one : changes_in o n ≡ set = cc in (n, refl, sym one)
    by (n ∷ ns) (suc k) e = by ns k e

module _ (o : Office) (admitted : IsAdmitted o) where
  content_standing : (name : Name) (w : Workspace) → workspace o name ≡ Some w → content_of o name ≡ w.current
  unfolding workspace content_of
  content_standing name w e = by (is_live name) (find_name name o.workspaces) e
    where
      by : (b : Bool) (r : Option Workspace) → cond b None r ≡ Some w → cond b o.live (current_of r) ≡ w.current
      by true r h = absurd (cc)
      by false None h = absurd (cc)
      by false (Some v) h = let one : v ≡ w = cc in ap (λ (x : Workspace). x.current) one

  -- a row that a member has where it changed one
  after_fits : (name : Name) (cell : CellId) (row : Row) → after_in (changes_in o name) cell ≡ Some (Some row) → FitsCell o.schema (cell, row)
  after_fits name cell row e = by (workspace o name) refl e
    where
      by : (r : Option Workspace) → workspace o name ≡ r → after_in (option_map_or own_changes r no_changes) cell ≡ Some (Some row)
          → FitsCell o.schema (cell, row)
      by None is h = absurd (let none : after_in no_changes cell ≡ None = ap (option_map (λ (e : Change). e.after)) (finite.get-empty _ cell) in
          let both : None ≡ Some (Some row) = sym none ∙ h in cc)
      by (Some w) is h = changed (is_changed w.base w.current cell) (sym (ap (option_map (λ (e : Change). e.after)) (get-changes w.base w.current cell)) ∙ h)
        where
          changed : (b : Bool) → option_map (λ (e : Change). e.after) (cond b (Some (change_of w.base w.current cell)) None) ≡ Some (Some row)
              → FitsCell o.schema (cell, row)
          changed true g = fits_content_of o admitted.fit.rows name cell row (ap (λ content. row_at content cell) (content_standing name w is)
              ∙ (let one : row_at w.current cell ≡ Some row = cc in one))
          changed false g = absurd (cc)

  sets_fit : (names : List Name) (n : ℕ) (cell : CellId) (row : Row) → after_of (map (changes_in o) names) n cell ≡ Some (Some row)
      → FitsCell o.schema (cell, row)
  sets_fit [] n cell row e = absurd (cc)
  sets_fit (name ∷ names) zero cell row e = after_fits name cell row e
  sets_fit (name ∷ names) (suc n) cell row e = sets_fit names n cell row e

  module _ (s : MergeSet) where
    abbrev sets : List Changes
    sets = change_sets o s

    abbrev first : CellId → Option ℕ
    first cell = first_changer (after_of sets) (positions sets) cell

    new_fits : (v : VersionId) (l : Lived ℕ) (n : Option ℕ) → new_version (after_of sets) v.cell n ≡ Some l → FitsCell o.schema (held_row v l)
    new_fits v l None e = absurd (cc)
    new_fits v l (Some n) e = sets_fit s.members n v.cell l.row (new_is (setting_by_position o s) n (after_of sets n v.cell) l e).0

    either_fits : (v : VersionId) (l : Lived ℕ) (b : Bool)
        → cond b (new_version (after_of sets) v.cell (first v.cell)) (old_version (first v.cell) (row_at (content_of o s.root) v.cell)) ≡ Some l
        → FitsCell o.schema (held_row v l)
    either_fits v l true e = new_fits v l (first v.cell) e
    either_fits v l false e = fits_content_of o admitted.fit.rows s.root v.cell l.row (old_is (setting_by_position o s) (first v.cell)
        (row_at (content_of o s.root) v.cell) l e).0

    -- the row of each version fits
    pub version_fits : (v : VersionId) (l : Lived ℕ) → version (setting_by_position o s) v ≡ Some l → FitsCell o.schema (held_row v l)
    unfolding version root_content
    version_fits v l e = either_fits v l v.fresh e

    pub merge_set_fits : FitsSetting (setting_by_position o s)
    merge_set_fits = record { tables = o.schema; book = admitted.fit.book; each = version_fits }

-- where no test of names fails ---------------------------------------------------------------------------

module _ (o : Office) (s : MergeSet) (free : None ≡ names_fault o s) where
  both_pass : (root_fault o s ≡ None) × (option_or (repeated_member s) (option_or (missing_member o s) (stray_member o s)) ≡ None)
  unfolding names_fault
  both_pass = neither (root_fault o s) (option_or (repeated_member s) (option_or (missing_member o s) (stray_member o s))) (sym free)

  pub kept_root : is_kept o s.root ≡ true
  kept_root = by (is_kept o s.root) both_pass.0
    where
      by : (b : Bool) → cond b None (Some verdict.NotKept) ≡ None → b ≡ true
      by true e = refl
      by false e = absurd (cc)

  no_stray : (r : Option ℕ) → option_map verdict.NotUnderRoot r ≡ None → r ≡ None
  no_stray None e = refl
  no_stray (Some at) e = absurd (cc)

  all_children : (name : Name) → has s.members name ≡ true → is_child o s name ≡ true
  all_children name h =
      let others = neither (repeated_member s) (option_or (missing_member o s) (stray_member o s)) both_pass.1 in
      let stray = neither (missing_member o s) (stray_member o s) others.1 in
      let (k, e) = position_of s.members name h in
      not-false _ (each_fails (λ n. not (is_child o s n)) s.members (no_stray (position (λ n. not (is_child o s n)) s.members) stray.1) k name e)

  pub rows_above : (rows : Content) → rows ≡ content_of o s.root → AreRowsAbove o s.members rows
  unfolding root_content
  rows_above rows is name h =
      let child = child_under o s name (all_children name h) in
      ap (λ r. option_map_or (λ (w : Workspace). conflicts (content_of o w.parent) (own_changes w)) r []) child.is
      ∙ ap (λ content. conflicts content (own_changes child.at)) (content_above o s child.at child.under ∙ sym is)
      ∙ ap (λ r. conflicts rows (option_map_or own_changes r no_changes)) (sym child.is)

-- answers ------------------------------------------------------------------------------------------------

module _ (o : Office) (s : MergeSet) where
  pub no_fault : None ≡ names_fault o s → None ≡ first_conflict o 0 s.members → member_fault o s ≡ None
  no_fault e f = λ i. option_or (sym e i) (sym f i)

  pub names_free : member_fault o s ≡ None → names_fault o s ≡ None
  names_free e = by (names_fault o s) e
    where
      by : (r : Option Verdict) → option_or r (first_conflict o 0 s.members) ≡ None → r ≡ None
      by None h = refl
      by (Some v) h = absurd (cc)

-- results ------------------------------------------------------------------------------------------------

pub made_with : {X E : Type 0} (A B D : X → Type 0) (C : E → Type 0) (r : Result X E) → IfOk r A → MatchResult r B C → ((x : X) → A x → B x → D x) → IfOk r D
made_with A B D C (Ok x) a b f = f x a b
made_with A B D C (Err e) a b f = tt
