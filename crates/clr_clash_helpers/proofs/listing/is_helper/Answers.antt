use Rattle.std.proofs.Common.{◌≡◌, ◌∙◌, ◌++◌, ◌∷◌, [], IfOk, List, ap, length, map, slice_get, subst, sym}
use Rattle.std.specs.List.{filter_map}
use Rattle.std.proofs.lemmas.Result.{IfOk-weaker}
use Rattle.clr_workspaces.specs.Marks.{Name}
use Rattle.clr_needs.specs.Members.{AreApart}
use Rattle.clr_needs.specs.Needs.{IsPossibleNeed}
use Rattle.clr_needs.specs.Tests.{IsTestOf}
use Rattle.clr_steps.specs.Readings.{changes_in}
use Rattle.clr_clearance.specs.MergeSets.{change_sets, setting_by_position}
use Rattle.clr_clearance.specs.Plans.{members_at}
use Rattle.clr_merge_sets.specs.MemberChanges.{set_of}
use Rattle.clr_merge_sets.specs.MergeSetNames.{merge_set}
use Rattle.clr_clash_helpers.specs.Helpers.{HelpsAt}
use Rattle.clr_clash_helpers.proofs.HelperLemmas.{retold}
use Rattle.clr_clash_helpers.proofs.ListLemmas.{possible_behind, sets_same}
use Rattle.clr_clash_helpers.proofs.listing.is_helper.Goals as goal

pub helps_at-requires-clause-sets : goal.helps_at-requires-clause-sets
helps_at-requires-clause-sets c =
    let o = c.args.office.now in
    let names = map (λ name. name.now) c.args.members.now.names.now in
    let positions = c.as_slice-3.result.now in
    let given : map (λ name. name.now) c.as_slice-4.result.now ≡ filter_map (slice_get names) c.as_slice.result.now =
    ap (map (λ name. name.now)) c.as_slice-4.ensures.value ∙ c.in_ok-names.ensures in
    let same : c.as_slice.result.now ≡ positions = c.as_slice.ensures.value ∙ sym c.as_slice-3.ensures.value in
    c.in_ok-sets.ensures ∙ (λ i. filter_map (slice_get ((c.as_slice-2.ensures.value ∙ c.requires.members.changes) i)) positions)
    ∙ sym (sets_same (changes_in o) names positions) ∙ ap (map (changes_in o)) (ap (filter_map (slice_get names)) (sym same) ∙ sym given)

-- the names are those of the members at the positions of the others, and at one more
names_behind : goal.helps_at-requires-clause-possible
names_behind c =
    let o = c.args.office.now in
    let s = set_of c.args.members.now in
    let others = c.args.others.now in
    let given : map (λ name. name.now) c.as_slice-4.result.now ≡ members_at s (others ++ c.args.at ∷ []) =
    ap (map (λ name. name.now)) c.as_slice-4.ensures.value ∙ c.in_ok-names.ensures
    ∙ ap (members_at s) (c.as_slice.ensures.value ∙ c.in_ok-push.ensures.items ∙ ap (λ ps. ps ++ c.args.at ∷ []) c.in_ok-positions.ensures.items) in
    subst (λ (ms : List Name). AreApart (change_sets o (merge_set s.root ms)) → IsPossibleNeed (setting_by_position o (merge_set s.root ms)) c.args.need.now)
    (sym given) (possible_behind o s others c.args.at c.args.need.now c.requires.touched)

pub helps_at-requires-clause-possible : goal.helps_at-requires-clause-possible
helps_at-requires-clause-possible = names_behind

pub returns : goal.returns
returns c =
    let o = c.args.office.now in
    let s = set_of c.args.members.now in
    let others = c.args.others.now in
    let given : map (λ name. name.now) c.as_slice-4.result.now ≡ members_at s (others ++ c.args.at ∷ []) =
    ap (map (λ name. name.now)) c.as_slice-4.ensures.value ∙ c.in_ok-names.ensures
    ∙ ap (members_at s) (c.as_slice.ensures.value ∙ c.in_ok-push.ensures.items ∙ ap (λ ps. ps ++ c.args.at ∷ []) c.in_ok-positions.ensures.items) in
    let test = subst (λ (ms : List Name). IfOk c.helps_at.result (λ told. IsTestOf told (HelpsAt o (merge_set s.root ms) c.args.need.now (length others))))
    given c.helps_at.ensures in
    IfOk-weaker c.helps_at.result _ _ (λ told. retold told
    (λ h. record { touched = c.requires.touched; member = c.requires.member; helps = h }) (λ w. w.helps)) test
