-- The children of a root among the workspaces so far.
use Rattle.std.proofs.Common.{◌≡◌, ◌∙◌, ◌<◌, ◌≤◌, ◌+◌, ℕ, List, [], ◌∷◌, ◌++◌, Option, Some, ap, arith, filter, get_or, length, map, refl, suc, sym, take}
use Rattle.std.proofs.lemmas.List.{length-map, take_all}
use Rattle.std.proofs.lemmas.List.Elements.{filter_more}
use Rattle.std.proofs.lemmas.Option.{slice_get-get_or, slice_get-map}
use Rattle.clr_workspaces.specs.Marks.{Name}
use Rattle.clr_workspaces.specs.Workspaces.{Workspace}
use Rattle.clr_steps.specs.Offices.{Office}
use Rattle.clr_steps.specs.Readings.{name_at}
use Rattle.clr_clearance.specs.MergeSets.{is_child}
use Rattle.clr_merge_sets.specs.MergeSetNames.{merge_set}
use Rattle.clr_asked_members.specs.Members.{child_in, children_of_root}

module _ (o : Office) (root : Name) where
  abbrev names : List Name
  names = map (λ (w : Workspace). w.name) o.workspaces

  abbrev children_to : ℕ → List Name
  children_to k = filter (is_child o (merge_set root [])) (take k names)

  -- the name at a position below LIVE's
  named : (k : ℕ) → k < length o.workspaces → name_at o (k + 1) ≡ Some (get_or names k [])
  named k less =
      ap (name_at o) (let next : k + 1 ≡ suc k = omega arith in next) ∙ sym
      (slice_get-map (λ (w : Workspace). w.name) o.workspaces k) ∙ slice_get-get_or names k [] (inside k less)
    where
      inside : (k : ℕ) → k < length o.workspaces → k < length names
      inside k less = let count = length-map o.workspaces (λ (w : Workspace). w.name) in omega (arith, less, count)

  -- one more workspace
  pub more : (k : ℕ) → k < length o.workspaces → children_to (k + 1) ≡ children_to k ++ child_in o root (name_at o (k + 1))
  more k less =
      let count = length-map o.workspaces (λ (w : Workspace). w.name) in
      let inside : k < length names = omega (arith, less, count) in
      filter_more (is_child o (merge_set root [])) names k [] inside ∙ ap (λ (r : Option Name). children_to k ++ child_in o root r) (sym (named k less))

  -- all workspaces
  pub all : (k : ℕ) → length o.workspaces ≤ k → children_to k ≡ children_of_root o root
  all k past = ap (filter (is_child o (merge_set root []))) (take_all k names
      (let count = length-map o.workspaces (λ (w : Workspace). w.name) in omega (arith, past, count)))

  -- none yet
  pub none : [] ≡ children_to 0
  none = nothing names
    where
      nothing : (ns : List Name) → [] ≡ filter (is_child o (merge_set root [])) (take 0 ns)
      nothing [] = refl
      nothing (n ∷ ns) = refl
