use Rattle.std.proofs.Common.{◌≡◌, ◌∙◌, IfOk, List, ap, map, slice_get, subst, sym}
use Rattle.std.specs.List.{filter_map}
use Rattle.clr_workspaces.specs.Marks.{Name}
use Rattle.clr_needs.specs.Tests.{IsTestOf}
use Rattle.clr_steps.specs.Readings.{changes_in}
use Rattle.clr_merge_sets.specs.MergeSetNames.{merge_set}
use Rattle.clr_clash_helpers.specs.Helpers.{Touch}
use Rattle.clr_clash_helpers.proofs.ListLemmas.{sets_same}
use Rattle.clr_clash_helpers.proofs.listing.are_touching.Goals as goal

pub touch-requires : goal.touch-requires
touch-requires c =
    let o = c.args.office.now in
    let names = map (λ name. name.now) c.args.members.now.names.now in
    let others = c.args.others.now in
    let given : map (λ name. name.now) c.as_slice-2.result.now ≡ filter_map (slice_get names) others =
    ap (map (λ name. name.now)) c.as_slice-2.ensures.value ∙ c.in_ok-names.ensures in
    c.in_ok-sets.ensures ∙ (λ i. filter_map (slice_get ((c.as_slice.ensures.value ∙ c.requires.changes) i)) others)
    ∙ sym (sets_same (changes_in o) names others) ∙ ap (map (changes_in o)) (sym given)

pub returns : goal.returns
returns c =
    let o = c.args.office.now in
    let members = c.args.members.now in
    let given = ap (map (λ name. name.now)) c.as_slice-2.ensures.value ∙ c.in_ok-names.ensures in
    subst (λ (ms : List Name). IfOk c.touch.result (λ told. IsTestOf told (Touch o (merge_set members.root.now ms) c.args.need.now))) given c.touch.ensures
