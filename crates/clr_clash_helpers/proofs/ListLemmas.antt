-- Some members, and one more behind them; and lists of those that help.
use Rattle.std.proofs.Common.{◌≡◌, ◌∙◌, ◌⊎◌, ◌+◌, ◌<◌, ◌≤◌, ◌∷◌, [], ◌++◌, ℕ, List, Option, Some, None, inl, inr}
use Rattle.std.proofs.Common.{ap, ap₂, arith, get_or, length, map, refl, subst, sym, take}
use Rattle.std.specs.Prelude.{slice_get}
use Rattle.std.specs.List.{cons_option, filter_map}
use Rattle.std.specs.List.Sorted.{IsStrictlySortedBy}
use Rattle.std.proofs.lemmas.List.{map-append, take_more}
use Rattle.std.proofs.lemmas.Option.{slice_get-map}
use Rattle.clr_rows.specs.Contents.{Changes}
use Rattle.clr_rules.proofs.Elements.{Among, among, among_either, contained}
use Rattle.clr_workspaces.specs.Marks.{Name}
use Rattle.clr_needs.specs.declared.needs.Need.{Need}
use Rattle.clr_needs.specs.Members.{AreApart, setting}
use Rattle.clr_needs.specs.Needs.{IsPossibleNeed}
use Rattle.clr_needs.proofs.ListedNumbers.{AreListedTo, all_listed}
use Rattle.clr_steps.specs.Offices.{Office}
use Rattle.clr_steps.specs.Quiet.{MergeSet, root_content}
use Rattle.clr_steps.specs.Readings.{changes_in}
use Rattle.clr_clearance.specs.MergeSets.{change_sets, setting_by_position}
use Rattle.clr_clearance.specs.Plans.{members_at}
use Rattle.clr_merge_clashes.specs.Laws.{merge_set_of_part}
use Rattle.clr_merge_clashes.proofs.PlanLaw.{map_cons}
use Rattle.clr_merge_clashes.specs.declared.clash_sets.MergeClash.{MergeClash}
use Rattle.clr_clash_helpers.specs.Helpers.{AreHelped, AreHelpers, AreHelpersIn, IsHelperAt, Touch}
use Rattle.clr_clash_helpers.specs.declared.helped.HelpedClash.{HelpedClash}
use Rattle.clr_clash_helpers.proofs.Possible.{possible_beside}

-- what some of the members changed is what stands at their positions
pub sets_same : (f : Name → Changes) (names : List Name) (positions : List ℕ) → map f (filter_map (slice_get names) positions)
    ≡ filter_map (slice_get (map f names)) positions
sets_same f names [] = refl
sets_same f names (k ∷ ks) =
    map_cons f (slice_get names k) (filter_map (slice_get names) ks)
    ∙ ap₂ (λ (o : Option Changes) (sets : List Changes). cons_option o sets) (sym (slice_get-map f names k)) (sets_same f names ks)

cons_joined : {X : Type 0} (o : Option X) (xs ys : List X) → cons_option o (xs ++ ys) ≡ cons_option o xs ++ ys
cons_joined None xs ys = refl
cons_joined (Some x) xs ys = refl

found_joined : {X Y : Type 0} (f : X → Option Y) (xs ys : List X) → filter_map f (xs ++ ys) ≡ filter_map f xs ++ filter_map f ys
found_joined f [] ys = refl
found_joined f (x ∷ xs) ys = ap (cons_option (f x)) (found_joined f xs ys) ∙ cons_joined (f x) (filter_map f xs) (filter_map f ys)

module _ (o : Office) (s : MergeSet) (others : List ℕ) (at : ℕ) where
  abbrev last : List Changes
  last = map (changes_in o) (members_at s (at ∷ []))

  sets_behind : change_sets o (merge_set_of_part s (others ++ at ∷ [])) ≡ change_sets o (merge_set_of_part s others) ++ last
  sets_behind = ap (map (changes_in o)) (found_joined (slice_get s.members) others (at ∷ []))
      ∙ map-append (changes_in o) (members_at s others) (members_at s (at ∷ []))

  -- a need that others touch is possible where one more stands behind them
  pub possible_behind : (n : Need) → Touch o (merge_set_of_part s others) n → AreApart (change_sets o (merge_set_of_part s (others ++ at ∷ [])))
      → IsPossibleNeed (setting_by_position o (merge_set_of_part s (others ++ at ∷ []))) n
  unfolding root_content
  possible_behind n t apart =
      let (a, b, possible, touched) = t.touched in
      subst (λ (sets : List Changes). IsPossibleNeed (setting o.book (root_content o s) sets) n) (sym sets_behind)
      (possible_beside o.book (root_content o s) (change_sets o (merge_set_of_part s others)) last (subst AreApart sets_behind apart) n (a, b, possible))

-- lists of helpers -----------------------------------------------------------------------------------------

module _ (o : Office) (s : MergeSet) (others : List ℕ) (n : Need) where
  -- nobody helps where the others don't touch the need
  pub nobody_helps : ¬ (Touch o (merge_set_of_part s others) n) → (list : List ℕ) → list ≡ [] → AreHelpers o s others n list
  unfolding IsStrictlySortedBy
  nobody_helps none list is = subst (AreHelpers o s others n) (sym is)
      (record { ascending = tt; exactly = λ x. (λ h. absurd (among x [] h), λ w. absurd (none w.touched)) })

  pub all_helpers : (k : ℕ) (list : List ℕ) → length s.members ≤ k → AreListedTo (IsHelperAt o s others n) k list → AreHelpers o s others n list
  all_helpers k list past are = all_listed (IsHelperAt o s others n) k list (λ x w. let below = w.member in omega (arith, below, past)) are

-- lists of sets ----------------------------------------------------------------------------------------------

module _ (o : Office) (s : MergeSet) where
  pub one_helped : (clashes : List MergeClash) (k : ℕ) (d : MergeClash) (helped more : List HelpedClash) (h : HelpedClash) → k < length clashes
      → h.clash.now ≡ get_or clashes k d → more ≡ helped ++ h ∷ [] → AreHelpersIn o s h.clash.now.members.items h.clash.now.cause h.helpers.items
      → AreHelped o s (take k clashes) helped → AreHelped o s (take (k + 1) clashes) more
  one_helped clashes k d helped more h less same is here are = subst (AreHelped o s (take (k + 1) clashes)) (sym is) (record {
    sets = map-append (λ (x : HelpedClash). x.clash.now) helped (h ∷ [])
        ∙ ap₂ (λ (ks : List MergeClash) (c : MergeClash). ks ++ c ∷ []) are.sets same ∙ sym (take_more clashes k d less);
    helpers = λ x inside. told x (among_either x helped (h ∷ []) (among x (helped ++ h ∷ []) inside));
  })
    where
      told : (x : HelpedClash) → Among x helped ⊎ Among x (h ∷ []) → AreHelpersIn o s x.clash.now.members.items x.clash.now.cause x.helpers.items
      told x (inl one) = are.helpers x (contained x helped one)
      told x (inr (inl e)) = subst (λ (y : HelpedClash). AreHelpersIn o s y.clash.now.members.items y.clash.now.cause y.helpers.items) e here
      told x (inr (inr e)) = absurd e
