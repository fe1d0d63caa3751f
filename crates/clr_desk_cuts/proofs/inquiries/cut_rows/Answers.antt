use Rattle.std.proofs.Common.{◌∙◌, Bor, Option, Some, ap, arith, length, map, subst, sym}
use Rattle.std.specs.Option.{option_copied}
use Rattle.std.proofs.lemmas.List.{length-map}
use Rattle.clr_finders.specs.RowMaps.{FiledRows}
use Rattle.clr_finders.specs.Sharing.{IsSettledFor}
use Rattle.clr_grid.specs.Finders.{IsFinderAt}
use Rattle.clr_needs.specs.Members.{setting}
use Rattle.clr_row_versions.specs.Versions.{FitsSetting}
use Rattle.clr_foot.specs.Scenes.{IsReady, setting_of}
use Rattle.clr_steps.specs.Readings.{changes_in}
use Rattle.clr_merge_sets.proofs.MemberLemmas.{few_members}
use Rattle.clr_merge_sets.proofs.MergeSetLemmas.{merge_set_fits}
use Rattle.clr_desk_cuts.specs.Members.{live_set}
use Rattle.clr_desk_cuts.proofs.ReachLemmas.{finder_settled, finder_there, live_root}
use Rattle.clr_desk_cuts.proofs.inquiries.cut_rows.Goals as goal

pub unwrap-finder-requires : goal.unwrap-finder-requires
unwrap-finder-requires c = finder_there c.args.office.now.book c.args.office.now.live c.finder.result c.finder.ensures

pub new-requires-clause-few : goal.new-requires-clause-few
new-requires-clause-few c =
    let o = c.args.office.now in
    let names = map (λ name. name.now) c.args.names.now in
    let few = few_members o (live_set names) c.requires.together.free c.len-sound.ensures.sound in
    let long = sym (length-map c.in_ok-sets.sets.items (λ set. set.now)) ∙ ap length (c.in_ok-sets.ensures ∙ c.requires.changes)
    ∙ length-map names (changes_in o) in
    omega (arith, few, long)

pub new-requires-clause-fit : goal.new-requires-clause-fit
new-requires-clause-fit c =
    let o = c.args.office.now in
    let s = live_set (map (λ name. name.now) c.args.names.now) in
    let root = c.live.ensures.value ∙ sym (live_root o (map (λ name. name.now) c.args.names.now)) in
    let sets = c.in_ok-sets.ensures ∙ c.requires.changes in
    subst FitsSetting (sym (λ i. setting (c.book.ensures.value i) (root i) (sets i))) (merge_set_fits o c.book.ensures.admitted s)

pub returns-clause-setting : goal.returns-clause-setting
returns-clause-setting c =
    let root = c.live.ensures.value ∙ sym (live_root c.args.office.now (map (λ name. name.now) c.args.names.now)) in
    let sets = c.in_ok-sets.ensures ∙ c.requires.changes in
    ap setting_of c.in_ok-cut.ensures.model ∙ (λ i. setting (c.book.ensures.value i) (root i) (sets i))

pub returns-clause-ready : goal.returns-clause-ready
returns-clause-ready c =
    let o = c.args.office.now in
    let s = live_set (map (λ name. name.now) c.args.names.now) in
    let root = c.live.ensures.value ∙ sym (live_root o (map (λ name. name.now) c.args.names.now)) in
    let sets = c.in_ok-sets.ensures ∙ c.requires.changes in
    let there = subst (λ (r : Option (Bor FiledRows)). IsFinderAt o.book (Some o.live) (option_copied r)) c.unwrap-finder.ensures c.finder.ensures in
    let settled = finder_settled o.book o.live c.unwrap-finder.result there in
    subst (IsReady (λ finder. finder.settled)) (sym c.in_ok-cut.ensures.model) (record {
      fit = subst FitsSetting (sym (λ i. setting (c.book.ensures.value i) (root i) (sets i))) (merge_set_fits o c.book.ensures.admitted s);
      is_settled = subst (λ book. IsSettledFor c.unwrap-finder.result.now.settled book c.live.result.now) (sym c.book.ensures.value)
          (subst (λ rows. IsSettledFor c.unwrap-finder.result.now.settled o.book rows) (sym c.live.ensures.value) settled);
    })
