use Rattle.std.proofs.Common.{◌≡◌, ◌∙◌, ◌++◌, List, ℕ, ap, filter, map, slice_get, subst, sym}
use Rattle.std.specs.List.{filter_map}
use Rattle.std.proofs.lemmas.List.{map-append}
use Rattle.clr_workspaces.specs.Marks.{Name}
use Rattle.clr_steps.specs.Readings.{changes_in}
use Rattle.clr_clearance.specs.Plans.{members_at}
use Rattle.clr_clearance.specs.MergeSets.{change_sets}
use Rattle.clr_merge_sets.specs.MergeSetNames.{merge_set}
use Rattle.clr_merge_clashes.specs.declared.clash_sets.MergeClash.{MergeClash as Stored}
use Rattle.clr_merge_clashes.specs.Lone.{free_positions, lone_clashes}
use Rattle.clr_merge_clashes.specs.SharedCells.{apart_positions, shared_clashes}
use Rattle.clr_merge_clashes.specs.MergeClashes.{AreNeedClashes, is_looked_at, together, together_merge_set}
use Rattle.clr_merge_clashes.specs.ClashSets.{MergeClash, positions_of, stored_clash}
use Rattle.clr_merge_clashes.proofs.PlanLaw.{sets_same}
use Rattle.clr_merge_clashes.proofs.clashes.clashes_of_children.Goals as goal

-- three lists, one behind the other
joined : (conflicts pairs needs first all : List Stored) → first ≡ conflicts ++ pairs → all ≡ first ++ needs
    → map stored_clash all ≡ map stored_clash conflicts ++ map stored_clash pairs ++ map stored_clash needs
joined conflicts pairs needs first all e f =
    ap (map stored_clash) (f ∙ ap (λ (ks : List Stored). ks ++ needs) e)
    ∙ map-append stored_clash (conflicts ++ pairs) needs
    ∙ ap (λ (ks : List MergeClash). ks ++ map stored_clash needs) (map-append stored_clash conflicts pairs)

pub need_clashes-requires : goal.need_clashes-requires
need_clashes-requires c =
    let o = c.args.office.now in
    let names = map (λ name. name.now) c.args.members.now in
    let given : map (λ name. name.now) c.as_slice-5.result.now ≡ filter_map (slice_get names) c.in_ok-pairs.together.items =
    ap (map (λ name. name.now)) c.as_slice-5.ensures.value ∙ c.in_ok-names.ensures ∙ ap (filter_map (slice_get names)) c.as_slice-3.ensures.value in
    c.in_ok-sets.ensures ∙ (λ i. filter_map (slice_get (c.requires.changed i)) (c.as_slice-4.ensures.value i))
    ∙ sym (sets_same (changes_in o) names c.in_ok-pairs.together.items) ∙ ap (map (changes_in o)) (sym given)

pub returns : goal.returns
returns c =
    let o = c.args.office.now in
    let names = map (λ name. name.now) c.args.members.now in
    let s = merge_set c.args.root.now names in
    let causes = c.in_ok-causes.causes.items in
    let lone : map stored_clash c.in_ok-clashes.clashes.items ≡ lone_clashes causes = c.in_ok-clashes.ensures.clashes
    ∙ ap lone_clashes c.as_slice.ensures.value in
    let sets : c.args.changes.now ≡ change_sets o s = c.requires.changed in
    let free : c.as_slice-2.result.now ≡ free_positions causes =
    c.as_slice-2.ensures.value ∙ c.in_ok-clashes.ensures.free ∙ ap free_positions c.as_slice.ensures.value in
    let both : c.in_ok-pairs.together.items ≡ together o s causes = c.in_ok-pairs.ensures.looked ∙ (λ i. apart_positions (sets i) (free i)) in
    let again : c.as_slice-6.result.now ≡ together o s causes = c.as_slice-6.ensures.value ∙ both in
    let given : map (λ name. name.now) c.as_slice-5.result.now ≡ members_at s (together o s causes) =
    ap (map (λ name. name.now)) c.as_slice-5.ensures.value ∙ c.in_ok-names.ensures ∙ ap (members_at s) (c.as_slice-3.ensures.value ∙ both) in
    let needs = map stored_clash c.in_ok-needs.needs.items in
    let found : AreNeedClashes o (together_merge_set o s causes) (together o s causes) needs =
    subst (λ (list : List ℕ). AreNeedClashes o (together_merge_set o s causes) list needs) again
    (subst (λ (ms : List Name). AreNeedClashes o (merge_set s.root ms) c.as_slice-6.result.now needs) given c.in_ok-needs.ensures) in
    let pairs : map stored_clash c.in_ok-pairs.pairs.items ≡ shared_clashes (change_sets o s) (free_positions causes) =
    c.in_ok-pairs.ensures.clashes ∙ (λ i. shared_clashes (sets i) (free i)) in
    let first : c.as_slice-7.result.now ≡ causes = c.as_slice-7.ensures.value in
    let second : c.as_slice-8.result.now ≡ together o s causes = c.as_slice-8.ensures.value ∙ both in (
      causes,
      needs,
      record {
        named = c.requires.named;
        alone = c.in_ok-causes.ensures;
        looked = c.in_ok-looked.ensures ∙ (λ i. filter (is_looked_at (first i) (second i)) (positions_of (first i)));
        needs = found;
        clashes = joined c.in_ok-clashes.clashes.items c.in_ok-pairs.pairs.items c.in_ok-needs.needs.items c.append.new.self.items c.append-2.new.self.items
            c.in_ok-append.ensures.items c.in_ok-append-2.ensures.items ∙ (λ i. lone i ++ pairs i ++ needs);
      },
    )
