-- The plan of some members is cleared exactly where they hold none of the smallest clashes of all.
use Rattle.std.proofs.Common.{◌≡◌, ◌∙◌, ◌<◌, ℕ, true, false, List, [], ◌∷◌, inl, inr, Contains, Option, Some, None}
use Rattle.std.proofs.Common.{ap, ap₂, arith, length, map, refl, subst, sym}
use Rattle.std.specs.Prelude.{option_map, slice_get}
use Rattle.std.specs.List.{cons_option, filter_map}
use Rattle.std.specs.Option.{option_or}
use Rattle.std.proofs.lemmas.Bool.{false≢true, true≢false}
use Rattle.std.proofs.lemmas.List.{length-map}
use Rattle.std.proofs.lemmas.Option.{slice_get-map}
use Rattle.clr_rows.specs.Contents.{Changes}
use Rattle.clr_workspaces.specs.Marks.{Name}
use Rattle.clr_needs.specs.declared.needs.Need.{Need}
use Rattle.clr_needs.specs.declared.needs.VersionId.{VersionId}
use Rattle.clr_needs.specs.Covers.{AreCovered, Entry, HasEntry, IsUncovered, WitnessesCover}
use Rattle.clr_needs.specs.Members.{AreApart, setting}
use Rattle.clr_needs.specs.Parts.{setting_at, sets_at}
use Rattle.clr_needs.specs.Settings.{Setting, Lived}
use Rattle.clr_needs.proofs.NeedSubjects.{subjects_once}
use Rattle.clr_steps.specs.Offices.{Office}
use Rattle.clr_steps.specs.Quiet.{MergeSet, root_content}
use Rattle.clr_steps.specs.Readings.{changes_in}
use Rattle.clr_clearance.specs.declared.verdicts.Verdict.{Verdict}
use Rattle.clr_clearance.specs.declared.verdicts.Verdict.TheVariants as verdict
use Rattle.clr_clearance.specs.Plans.{IsBlocked, of_conflict, of_shared, of_unpicked}
use Rattle.clr_clearance.specs.MergeSets.{change_sets, setting_by_position}
use Rattle.clr_clearance.specs.Verdicts.{member_fault}
use Rattle.clr_clearance.proofs.ClearLemmas.{no_member_fault}
use Rattle.clr_clearance.proofs.PickLemmas.{picked_cover, unpicked_is_uncovered}
use Rattle.clr_clearance.proofs.StaticLemmas.{apart_sets}
use Rattle.clr_merge_sets.specs.Certificates.{entries_in}
use Rattle.clr_merge_sets.proofs.MergeSetLemmas.{names_free}
use Rattle.clr_merge_sets.specs.declared.plans.Plan.{Plan}
use Rattle.clr_merge_sets.specs.declared.plans.Plan.TheVariants as plan
use Rattle.clr_plan.specs.Plans.{IsPlan}
use Rattle.clr_merge_sets.specs.Plans.{is_cleared, is_out_of_memory}
use Rattle.clr_clashes.specs.Clashes.{LeavesNoneUncovered}
use Rattle.clr_clashes.specs.Laws.{ListedClashesDecideSubsets}
use Rattle.clr_merge_clashes.specs.Laws.{ClashesDecidePlans, merge_set_of_part}
use Rattle.clr_merge_clashes.proofs.PartMergeSets.{part_mergeable}

-- change sets of some members --------------------------------------------------------------------

pub map_cons : {X Y : Type 0} (f : X → Y) (o : Option X) (xs : List X) → map f (cons_option o xs) ≡ cons_option (option_map f o) (map f xs)
map_cons f None xs = refl
map_cons f (Some x) xs = refl

-- what some of the members changed is what stands at their positions
pub sets_same : (f : Name → Changes) (names : List Name) (positions : List ℕ) → map f (filter_map (slice_get names) positions) ≡ sets_at (map f names) positions
sets_same f names [] = refl
sets_same f names (k ∷ ks) =
    map_cons f (slice_get names k) (filter_map (slice_get names) ks)
    ∙ ap₂ (λ (o : Option Changes) (sets : List Changes). cons_option o sets) (sym (slice_get-map f names k)) (sets_same f names ks)

pub setting_same : (o : Office) (s : MergeSet) (positions : List ℕ)
    → setting_by_position o (merge_set_of_part s positions) ≡ setting_at o.book (root_content o s) (change_sets o s) positions
unfolding root_content
setting_same o s positions = ap (setting o.book (root_content o s)) (sets_same (changes_in o) s.members positions)

-- plans --------------------------------------------------------------------------------------------

module _ (c : Setting ℕ) (n : Need) (a : Lived ℕ) (b : Option (Lived ℕ)) (uncovered : IsUncovered c n a b) where
  no_witness : (v : VersionId) (w : Option VersionId) → WitnessesCover c n a b v w → ⊥
  no_witness v None h = uncovered.not_alone v h
  no_witness v (Some w) (inl h) = uncovered.not_alone v h
  no_witness v (Some w) (inr (inl h)) = uncovered.not_alone w h
  no_witness v (Some w) (inr (inr h)) = uncovered.not_together v w h

  no_entry : (entries : List Entry) → HasEntry c n a b entries → ⊥
  no_entry [] h = h
  no_entry (e ∷ es) (inl (same, covers)) = no_witness e.1 e.2 covers
  no_entry (e ∷ es) (inr h) = no_entry es h

covered_leaves_none : (c : Setting ℕ) (entries : List Entry) → AreCovered c entries → LeavesNoneUncovered c
covered_leaves_none c entries covered n (a, b, possible, touched) (p, q, uncovered) =
    let once = subjects_once c n a p b q possible uncovered.possible in
    no_entry c n a b (subst (λ y. IsUncovered c n a y) once.1 (subst (λ x. IsUncovered c n x q) once.0 uncovered)) entries (covered n a b possible touched)

module _ (o : Office) (t : MergeSet) where
  -- a cleared plan leaves no touched need uncovered
  pub cleared_leaves_none : (p : Plan) → IsPlan o t p → is_cleared p ≡ true → LeavesNoneUncovered (setting_by_position o t)
  cleared_leaves_none (plan.Cleared c) h e =
      covered_leaves_none (setting_by_position o t) (entries_in c.entries) (picked_cover (setting_by_position o t) (entries_in c.entries) h.cleared.picked)
  cleared_leaves_none (plan.Blocked order cause) h e = absurd (false≢true e)
  cleared_leaves_none (plan.Unfit v) h e = absurd (false≢true e)
  cleared_leaves_none plan.OutOfMemory h e = absurd (false≢true e)

  pub not_blocked : member_fault o t ≡ None → AreApart (change_sets o t) → LeavesNoneUncovered (setting_by_position o t)
      → (order : List ℕ) (cause : Verdict) → IsBlocked o t order cause → ⊥
  not_blocked fits apart none order cause (of_conflict at cell count named first same is) =
      let both : None ≡ Some (verdict.Conflict at cell count) = sym fits ∙ (λ i. option_or (named i) (first i)) in absurd (cc)
  not_blocked fits apart none order cause (of_shared cell i j free shared same is) =
      let one : i ≡ j = apart cell i j shared.two.first shared.two.second in absurd (omega (arith, shared.two.ascending, one))
  not_blocked fits apart none order cause (of_unpicked n free others unpicked blocks is) =
      let (a, b, possible, touched) = unpicked.touched in
      none n unpicked.touched (a, b, unpicked_is_uncovered (setting_by_position o t) n a b possible (unpicked.none a b possible))

  -- where no need is left uncovered, the plan is cleared
  pub none_left_cleared : member_fault o t ≡ None → AreApart (change_sets o t) → LeavesNoneUncovered (setting_by_position o t)
      → (p : Plan) → IsPlan o t p → is_out_of_memory p ≡ false → is_cleared p ≡ true
  none_left_cleared fits apart none (plan.Cleared c) h found = refl
  none_left_cleared fits apart none (plan.Blocked order cause) h found = absurd (not_blocked fits apart none order.items cause h)
  none_left_cleared fits apart none (plan.Unfit v) h found = (let both : None ≡ Some v = sym (names_free o t fits) ∙ h in absurd (cc))
  none_left_cleared fits apart none plan.OutOfMemory h found = absurd (true≢false found)

pub plans_decided : ListedClashesDecideSubsets → ClashesDecidePlans
plans_decided law o s listed positions p fits apart smallest ascending below planned found =
    let sets = change_sets o s in
    let within : ((k : ℕ) → Contains positions k → k < length sets) =
    (λ k h. let less = below k h in let count = length-map s.members (changes_in o) in omega (arith, less, count)) in
    let same = setting_same o s positions in
    let decided = law o.book (root_content o s) sets listed positions apart smallest ascending within in
    let part = part_mergeable o s positions fits apart ascending below in
    let fits_too = no_member_fault o (merge_set_of_part s positions) part in
    let apart_too = apart_sets o (merge_set_of_part s positions) part in (
      λ cleared. decided.0 (subst LeavesNoneUncovered same (cleared_leaves_none o (merge_set_of_part s positions) p planned cleared)),
      λ none. none_left_cleared o (merge_set_of_part s positions) fits_too apart_too (subst LeavesNoneUncovered (sym same) (decided.1 none)) p planned found,
    )
