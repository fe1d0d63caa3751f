-- What an office shows by name, and the tests of names.
use Rattle.std.proofs.Common.{◌≡◌, ℕ, ◌+◌, ◌<◌, ◌≤◌, ◌⊎◌, inl, inr, Bool, true, false, not, cond, ◌||◌, ◌&&◌, List, [], ◌∷◌, Option, Some, None, get_or}
use Rattle.std.proofs.Common.{is_some, length, nat_lt, refl, sym, ap, unwrap_or, ◌∙◌, arith}
use Rattle.std.specs.Prelude.{position, slice_get}
use Rattle.std.specs.List.{position_or_len}
use Rattle.std.specs.Option.{option_map, option_map_or}
use Rattle.std.specs.Str.{bytes_eq}
use Rattle.std.proofs.lemmas.Bool.{false≢true, lt-ltb, le-ltb}
use Rattle.std.proofs.lemmas.List.Sums.{position_or_len_is}
use Rattle.std.proofs.lemmas.Option.{slice_get-get_or, slice_get_within}
use Rattle.clr_workspaces.specs.Marks.{Name}
use Rattle.clr_workspaces.specs.Workspaces.{Workspace}
use Rattle.clr_steps.specs.Names.{is_live, same_name}
use Rattle.clr_steps.specs.Offices.{Office, find_name, is_kept, stands, workspace}
use Rattle.clr_steps.specs.Quiet.{MergeSet, is_other, is_root, is_under_other}
use Rattle.clr_steps.specs.Readings.{if_stands, parent_in}
use Rattle.clr_clearance.specs.MergeSets.{is_child}
use Rattle.clr_merge_sets.specs.MergeSetNames.{merge_set}

-- what is shown of a name --------------------------------------------------------------------------

module _ {A : Type 0} (o : Office) (name : Name) (value : A) where
  pub shown : (x : A) → Some x ≡ if_stands o name value → x ≡ value
  shown x e = by (stands o name) e
    where
      by : (b : Bool) → Some x ≡ cond b (Some value) None → x ≡ value
      by true h = let one : x ≡ value = cc in one
      by false h = absurd (cc)

  pub unshown : None ≡ if_stands o name value → stands o name ≡ false
  unshown e = by (stands o name) e
    where
      by : (b : Bool) → None ≡ cond b (Some value) None → b ≡ false
      by true h = absurd (cc)
      by false h = refl

module _ (o : Office) (name : Name) where
  pub nowhere : stands o name ≡ false → workspace o name ≡ None
  unfolding stands workspace
  nowhere e = by (is_live name) (find_name name o.workspaces) e
    where
      by : (b : Bool) (r : Option Workspace) → (b || is_some r) ≡ false → cond b None r ≡ None
      by true r h = refl
      by false None h = refl
      by false (Some w) h = absurd (false≢true (sym h))

  pub not_kept : stands o name ≡ false → is_kept o name ≡ false
  unfolding stands workspace is_kept
  not_kept e = by (is_live name) (find_name name o.workspaces) e
    where
      by : (b : Bool) (r : Option Workspace) → (b || is_some r) ≡ false → (b || option_map_or (λ (w : Workspace). w.kept) (cond b None r) false) ≡ false
      by true r h = absurd (false≢true (sym h))
      by false None h = refl
      by false (Some w) h = absurd (false≢true (sym h))

  pub kept_if_shown : (r : Option Bool) → r ≡ if_stands o name (is_kept o name) → unwrap_or r false ≡ is_kept o name
  kept_if_shown r e = ap (λ kept. unwrap_or kept false) e ∙ by (stands o name) refl
    where
      by : (b : Bool) → stands o name ≡ b → unwrap_or (cond b (Some (is_kept o name)) None) false ≡ is_kept o name
      by true h = refl
      by false h = sym (not_kept h)

-- children of a root -------------------------------------------------------------------------------

module _ (o : Office) (root name : Name) (members : List Name) where
  pub root_is_none : bytes_eq name root ≡ true → false ≡ is_child o (merge_set root members) name
  unfolding is_root same_name
  root_is_none e = sym (λ i. not (e i) && option_map_or (λ (w : Workspace). bytes_eq w.parent root) (workspace o name) false)

  pub child_by_parent : (parent : Name) (b : Bool) → bytes_eq name root ≡ false → Some parent ≡ parent_in o name → b ≡ bytes_eq parent root → b
      ≡ is_child o (merge_set root members) name
  unfolding is_root same_name
  child_by_parent parent b e f is = is ∙ by (workspace o name) f
      ∙ sym (λ i. not (e i) && option_map_or (λ (w : Workspace). bytes_eq w.parent root) (workspace o name) false)
    where
      by : (r : Option Workspace) → Some parent ≡ option_map (λ (w : Workspace). w.parent) r → bytes_eq parent root
          ≡ option_map_or (λ (w : Workspace). bytes_eq w.parent root) r false
      by None h = absurd (cc)
      by (Some w) h = let one : parent ≡ w.parent = cc in ap (λ p. bytes_eq p root) one

  pub none_without_parent : bytes_eq name root ≡ false → None ≡ parent_in o name → false ≡ is_child o (merge_set root members) name
  unfolding is_root same_name
  none_without_parent e f = by (workspace o name) f ∙ sym (λ i. not (e i) && option_map_or (λ (w : Workspace). bytes_eq w.parent root) (workspace o name) false)
    where
      by : (r : Option Workspace) → None ≡ option_map (λ (w : Workspace). w.parent) r → false
          ≡ option_map_or (λ (w : Workspace). bytes_eq w.parent root) r false
      by None h = refl
      by (Some w) h = absurd (cc)

-- the first name that passes a test ------------------------------------------------------------------

module _ {X : Type 0} (p : X → Bool) (names : List X) where
  abbrev pub NonePasses : ℕ → Type 0
  NonePasses at = (k : ℕ) (n : X) → k < at → slice_get names k ≡ Some n → p n ≡ false

  pub one_fails : (at : ℕ) (n : X) → slice_get names at ≡ Some n → p n ≡ false → NonePasses at → NonePasses (at + 1)
  one_fails at n is fails before k m less e = elim (side k less) [
    | inl earlier ↦ before k m earlier e
    | inr last ↦ (let one : n ≡ m = (let both : Some n ≡ Some m = sym is ∙ ap (slice_get names) (sym last) ∙ e in cc) in ap p (sym one) ∙ fails)
  ]
    where
      side : (j : ℕ) → j < at + 1 → (j < at) ⊎ (j ≡ at)
      side j h = grind (arith, h)

  first_at : (d : X) (at : ℕ) → at ≤ length names → NonePasses at → ((n : X) → slice_get names at ≡ Some n → p n ≡ true) → position_or_len p names ≡ at
  first_at d at le before here =
      position_or_len_is p names at d le (λ k less. before k (get_or names k d) less (slice_get-get_or names k d (omega (arith, less, le))))
      (λ less. here (get_or names at d) (slice_get-get_or names at d less))

  position_at : (at : ℕ) → position_or_len p names ≡ at → position p names ≡ cond (nat_lt at (length names)) (Some at) None
  position_at at e = λ i. cond (nat_lt (e i) (length names)) (Some (e i)) None

  pub first_passes : (at : ℕ) (n : X) → slice_get names at ≡ Some n → p n ≡ true → NonePasses at → Some at ≡ position p names
  first_passes at n is passes before =
      let within = slice_get_within names at n is in
      sym (position_at at (first_at n at (omega (arith, within)) before (λ m e. (let one : n ≡ m = (let both : Some n ≡ Some m = sym is ∙ e in cc) in
      ap p (sym one) ∙ passes)))
      ∙ ap (λ b. cond b (Some at) None) (lt-ltb at (length names) within))

  none_passes_by : (d : X) (at : ℕ) → length names ≤ at → NonePasses at → None ≡ position p names
  none_passes_by d at past before =
      let whole = length names in
      let past_end : (n : X) → slice_get names whole ≡ Some n → p n ≡ true =
      λ n e. absurd (let within = slice_get_within names whole n e in omega (arith, within)) in
      sym (position_at whole (first_at d whole (omega arith) (λ k n less e. before k n (omega (arith, less, past)) e) past_end)
      ∙ ap (λ b. cond b (Some whole) None) (le-ltb whole whole (omega arith)))

pub none_passes : {X : Type 0} (p : X → Bool) (names : List X) (at : ℕ) → length names ≤ at → NonePasses p names at → None ≡ position p names
none_passes p [] at past before = refl
none_passes p (n ∷ ns) at past before = none_passes_by p (n ∷ ns) n at past before

-- workspaces under others --------------------------------------------------------------------------------

module _ (o : Office) (s : MergeSet) (ws : Name) where
  pub under_by_parent : (parent : Name) (b : Bool) → Some parent ≡ parent_in o ws → b ≡ is_other s parent → b ≡ is_under_other o s ws
  unfolding is_under_other
  under_by_parent parent b f is = is ∙ by (workspace o ws) f
    where
      by : (r : Option Workspace) → Some parent ≡ option_map (λ (w : Workspace). w.parent) r → is_other s parent
          ≡ option_map_or (λ (w : Workspace). is_other s w.parent) r false
      by None h = absurd (cc)
      by (Some w) h = let one : parent ≡ w.parent = cc in ap (is_other s) one

  pub none_under : None ≡ parent_in o ws → false ≡ is_under_other o s ws
  unfolding is_under_other
  none_under f = by (workspace o ws) f
    where
      by : (r : Option Workspace) → None ≡ option_map (λ (w : Workspace). w.parent) r → false ≡ option_map_or (λ (w : Workspace). is_other s w.parent) r false
      by None h = refl
      by (Some w) h = absurd (cc)
