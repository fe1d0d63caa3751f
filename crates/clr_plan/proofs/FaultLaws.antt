-- Which tests of members can fail with which fault, and the plans that follow.
use Rattle.std.proofs.Common.{◌≡◌, ℕ, suc, List, [], ◌∷◌, inl, inr, ◌⊎◌, ◌∙◌, Bool, true, false, cond, Option, Some, None, ap, is_some, refl, sym, subst}
use Rattle.std.specs.Option.{option_map, option_or}
use Rattle.clr_rows.specs.declared.cells.CellId.{CellId}
use Rattle.clr_rows.specs.declared.rows.Row.{Row}
use Rattle.clr_rows.specs.Contents.{Changes, least_and_count}
use Rattle.clr_workspaces.specs.Marks.{Name}
use Rattle.clr_needs.specs.declared.faults.SceneFault.TheVariants as scene
use Rattle.clr_needs.specs.Members.{IsSceneFault, AreApart, after_of}
use Rattle.clr_needs.specs.Settings.{Setting}
use Rattle.clr_steps.specs.Offices.{Office, is_kept}
use Rattle.clr_steps.specs.Quiet.{MergeSet}
use Rattle.clr_steps.specs.Readings.{conflicts_in}
use Rattle.clr_clearance.specs.declared.verdicts.Verdict.{Verdict}
use Rattle.clr_clearance.specs.declared.verdicts.Verdict.TheVariants as verdict
use Rattle.clr_clearance.specs.Plans.{IsBlocked, IsUnfit, of_conflict, of_shared, of_unpicked}
use Rattle.clr_clearance.specs.MergeSets.{change_sets, setting_by_position}
use Rattle.clr_clearance.specs.Verdicts.{first_conflict, first_repeated, member_fault, missing_member, names_fault, repeated_member, root_fault, stray_member}
use Rattle.clr_merge_sets.specs.Faults.{IsMergeSetFault, of_member, without_memory}
use Rattle.clr_merge_sets.specs.declared.plans.Plan.{Plan}
use Rattle.clr_merge_sets.specs.declared.plans.Plan.TheVariants as plan
use Rattle.clr_plan.specs.Plans.{IsBlockedIn, IsPlan, IsScenePlan}

-- the faults of names, and of conflicts
abbrev OfNames : Verdict → Type 0
OfNames verdict.NotKept = Unit {0}
OfNames (verdict.RepeatedMember at) = Unit {0}
OfNames (verdict.NoWorkspace at) = Unit {0}
OfNames (verdict.NotUnderRoot at) = Unit {0}
OfNames (verdict.NotBefore at) = ⊥
OfNames verdict.Clear = ⊥
OfNames verdict.OutOfMemory = ⊥
OfNames (verdict.Conflict at cell count) = ⊥
OfNames (verdict.SharedCell cell i j) = ⊥
OfNames (verdict.Uncovered n) = ⊥

abbrev OfConflicts : Verdict → Type 0
OfConflicts (verdict.Conflict at cell count) = Unit {0}
OfConflicts verdict.NotKept = ⊥
OfConflicts (verdict.RepeatedMember at) = ⊥
OfConflicts (verdict.NoWorkspace at) = ⊥
OfConflicts (verdict.NotUnderRoot at) = ⊥
OfConflicts (verdict.NotBefore at) = ⊥
OfConflicts verdict.Clear = ⊥
OfConflicts verdict.OutOfMemory = ⊥
OfConflicts (verdict.SharedCell cell i j) = ⊥
OfConflicts (verdict.Uncovered n) = ⊥

-- each fault that is found is one of these
abbrev Each : (Verdict → Type 0) → Option Verdict → Type 0
Each P None = Unit {0}
Each P (Some v) = P v

each_or : (P : Verdict → Type 0) (r q : Option Verdict) → Each P r → Each P q → Each P (option_or r q)
each_or P None q h k = k
each_or P (Some v) q h k = h

each_map : {X : Type 0} (P : Verdict → Type 0) (f : X → Verdict) (r : Option X) → ((x : X) → P (f x)) → Each P (option_map f r)
each_map P f None all = tt
each_map P f (Some x) all = all x

each_if : (P : Verdict → Type 0) (b : Bool) (v : Verdict) → P v → Each P (cond b None (Some v))
each_if P true v h = tt
each_if P false v h = h

each_is : (P : Verdict → Type 0) (r : Option Verdict) (v : Verdict) → Each P r → r ≡ Some v → P v
each_is P None v h e = let clash : None ≡ Some v = e in absurd (cc)
each_is P (Some w) v h e = let same : w ≡ v = cc in subst P same h

of_names : (o : Office) (s : MergeSet) → Each OfNames (names_fault o s)
unfolding names_fault
of_names o s = each_or OfNames (root_fault o s) (option_or (repeated_member s) (option_or (missing_member o s) (stray_member o s)))
    (each_if OfNames (is_kept o s.root) verdict.NotKept tt)
    (each_or OfNames (repeated_member s) (option_or (missing_member o s) (stray_member o s)) (each_map OfNames verdict.RepeatedMember (first_repeated s.members)
    (λ x. tt))
    (each_or OfNames (missing_member o s) (stray_member o s) (each_map OfNames verdict.NoWorkspace _ (λ x. tt)) (each_map OfNames verdict.NotUnderRoot _
    (λ x. tt))))

of_conflicts : (o : Office) (at : ℕ) (names : List Name) → Each OfConflicts (first_conflict o at names)
unfolding first_conflict
of_conflicts o at [] = tt
of_conflicts o at (name ∷ names) = each_or OfConflicts _ (first_conflict o (suc at) names) (each_map OfConflicts (λ c. verdict.Conflict at c.0 c.1)
    (least_and_count (conflicts_in o name)) (λ c. tt)) (of_conflicts o (suc at) names)

either_found : (r q : Option Verdict) (v : Verdict) → option_or r q ≡ Some v → (r ≡ Some v) ⊎ ((r ≡ None) × (q ≡ Some v))
either_found None q v e = inr (refl, e)
either_found (Some w) q v e = inl e

none_before : (r q : Option Verdict) → option_or r q ≡ None → r ≡ None
none_before None q e = refl
none_before (Some v) q e = absurd (cc)

-- where no test of members fails, none of names does
pub no_name_fault : (o : Office) (s : MergeSet) → member_fault o s ≡ None → names_fault o s ≡ None
no_name_fault o s e = none_before (names_fault o s) (first_conflict o 0 s.members) e

module _ (o : Office) (s : MergeSet) where
  found : (v : Verdict) → member_fault o s ≡ Some v → (IsUnfit o s v × OfNames v) ⊎ (((names_fault o s ≡ None) × (first_conflict o 0 s.members ≡ Some v))
      × OfConflicts v)
  found v e = by (either_found (names_fault o s) (first_conflict o 0 s.members) v e)
    where
      by : (names_fault o s ≡ Some v) ⊎ ((names_fault o s ≡ None) × (first_conflict o 0 s.members ≡ Some v)) → (IsUnfit o s v × OfNames v)
          ⊎ (((names_fault o s ≡ None) × (first_conflict o 0 s.members ≡ Some v)) × OfConflicts v)
      by (inl f) = inl (f, each_is OfNames (names_fault o s) v (of_names o s) f)
      by (inr f) = inr (f, each_is OfConflicts (first_conflict o 0 s.members) v (of_conflicts o 0 s.members) f.1)

  -- want of memory is no test that fails
  pub memory_fault : IsMergeSetFault o s verdict.OutOfMemory → names_fault o s ≡ None
  memory_fault (of_member e) = by (found verdict.OutOfMemory e)
    where
      by : (IsUnfit o s verdict.OutOfMemory × ⊥) ⊎ (((names_fault o s ≡ None) × (first_conflict o 0 s.members ≡ Some verdict.OutOfMemory)) × ⊥)
          → names_fault o s
          ≡ None
      by (inl h) = absurd h.1
      by (inr h) = absurd h.1
  memory_fault (without_memory none same) = none

  -- a member in conflict is an order of its own
  conflict_blocks : (at : ℕ) (cell : CellId) (count : ℕ) → IsMergeSetFault o s (verdict.Conflict at cell count) → (names_fault o s ≡ None)
      × IsBlocked o s (at ∷ []) (verdict.Conflict at cell count)
  conflict_blocks at cell count (of_member e) = by (found (verdict.Conflict at cell count) e)
    where
      by : (IsUnfit o s (verdict.Conflict at cell count) × ⊥)
          ⊎ (((names_fault o s ≡ None) × (first_conflict o 0 s.members ≡ Some (verdict.Conflict at cell count))) × Unit {0})
          → (names_fault o s ≡ None) × IsBlocked o s (at ∷ []) (verdict.Conflict at cell count)
      by (inl h) = absurd h.1
      by (inr h) = (h.0.0, of_conflict at cell count h.0.0 h.0.1 refl refl)
  conflict_blocks at cell count (without_memory none same) = absurd (let e : verdict.Conflict at cell count ≡ verdict.OutOfMemory = same in cc)

  blocked_plan : (order : List ℕ) (cause : Verdict) (p : Plan) → IsBlockedIn order cause p → names_fault o s ≡ None → IsBlocked o s order cause → IsPlan o s p
  blocked_plan order cause (plan.Blocked list v) (same, is) none blocks = subst (λ w. IsBlocked o s list.items w) (sym is)
      (subst (λ xs. IsBlocked o s xs cause) (sym same) blocks)
  blocked_plan order cause (plan.Unfit v) h none blocks = absurd h
  blocked_plan order cause (plan.Cleared c) h none blocks = absurd h
  blocked_plan order cause plan.OutOfMemory h none blocks = none

  pub conflict_plan : (at : ℕ) (cell : CellId) (count : ℕ) (p : Plan) → IsMergeSetFault o s (verdict.Conflict at cell count)
      → IsBlockedIn (at ∷ []) (verdict.Conflict at cell count) p → IsPlan o s p
  conflict_plan at cell count p fault h = let (none, blocks) = conflict_blocks at cell count fault in blocked_plan (at ∷ []) (verdict.Conflict at cell count) p
      h none blocks

  -- each other fault is one of names
  pub unfit_plan : (v : Verdict) → ¬ (v ≡ verdict.OutOfMemory) → ((at : ℕ) (cell : CellId) (count : ℕ) → ¬ (v ≡ verdict.Conflict at cell count)) →
      IsMergeSetFault o s v
      → IsUnfit o s v
  unfit_plan v not_memory not_conflict (without_memory none same) = absurd (not_memory same)
  unfit_plan v not_memory not_conflict (of_member e) = by (found v e)
    where
      none : (w : Verdict) → v ≡ w → OfConflicts w → ⊥
      none (verdict.Conflict at cell count) same h = not_conflict at cell count same
      none verdict.NotKept same h = h
      none (verdict.RepeatedMember at) same h = h
      none (verdict.NoWorkspace at) same h = h
      none (verdict.NotUnderRoot at) same h = h
      none (verdict.NotBefore at) same h = h
      none verdict.Clear same h = h
      none verdict.OutOfMemory same h = h
      none (verdict.SharedCell cell i j) same h = h
      none (verdict.Uncovered n) same h = h

      by : (IsUnfit o s v × OfNames v) ⊎ (((names_fault o s ≡ None) × (first_conflict o 0 s.members ≡ Some v)) × OfConflicts v) → IsUnfit o s v
      by (inl h) = h.0
      by (inr h) = absurd (none v refl h.1)

  -- two members that change a cell are an order
  pub shared_plan : (cell : CellId) (i j : ℕ) (p : Plan) → member_fault o s ≡ None → IsSceneFault (change_sets o s) (scene.SharedCell cell i j)
      → IsBlockedIn (i ∷ j ∷ []) (verdict.SharedCell cell i j) p → IsPlan o s p
  shared_plan cell i j p none shared h = blocked_plan (i ∷ j ∷ []) (verdict.SharedCell cell i j) p h (no_name_fault o s none)
      (of_shared cell i j none shared refl refl)

  -- what the touched needs decide
  pub scene_plan : (c : Setting ℕ) (p : Plan) → member_fault o s ≡ None → AreApart (change_sets o s) → c ≡ setting_by_position o s → IsScenePlan c s p
      → IsPlan o s p
  scene_plan c p none apart same h = by p (subst (λ d. IsScenePlan d s p) same h)
    where
      by : (p : Plan) → IsScenePlan (setting_by_position o s) s p → IsPlan o s p
      by (plan.Cleared cert) h = record {
        merge_set = h.0;
        without_order = h.1;
        cleared = record { free = none; apart = apart; picked = h.2 };
      }
      by (plan.Blocked order cause) h = of_unpicked h.0 none apart h.1 h.2 h.3
      by (plan.Unfit v) h = absurd h
      by plan.OutOfMemory h = absurd h

-- no cell is changed by two in settings that are the same
pub apart_sets : (sets others : List Changes) (c d : Setting ℕ) → c ≡ d → c.after ≡ after_of sets → d.after ≡ after_of others → AreApart others → AreApart sets
apart_sets sets others c d same is other_is apart q m n h j =
    apart q m n (sym (after m) ∙ h) (sym (after n) ∙ j)
  where
    after : (k : ℕ) → is_some (after_of sets k q) ≡ is_some (after_of others k q)
    after k = ap (λ (f : ℕ → CellId → Option (Option Row)). is_some (f k q)) (sym is ∙ ap (λ (s : Setting ℕ). s.after) same ∙ other_is)
