use Rattle.std.proofs.Common.{length, subst, sym}
use Rattle.std.specs.List.{range_with_len}
use Rattle.clr_foot.specs.Scenes.{model_of, setting_of}
use Rattle.clr_order_knots.specs.OpenNeeds.{AreWithin}
use Rattle.clr_order_answers.specs.Pairs.{ArePairsFor}
use Rattle.clr_scene_orders.proofs.Answers.{are_within}
use Rattle.clr_scene_orders.proofs.Covering.{each_covered}
use Rattle.clr_listed_covers.specs.Entries.{AreEntriesUnder, IsCoveredBy}
use Rattle.clr_listed_covers.specs.Late.{IsLateAt}
use Rattle.clr_listed_covers.proofs.BrokenAsListed.{listed_broken, within_needs, within_sides}
use Rattle.clr_listed_covers.proofs.CoveredAsListed.{covered_as_listed}
use Rattle.clr_listed_covers.proofs.listed_covers.cover_as_listed.Goals as goal

pub broken_at-requires-clause-needs : goal.broken_at-requires-clause-needs
broken_at-requires-clause-needs g c =
    let m = model_of g.V.RowView.content c.args.scene.now in
    within_needs m.rules m.root m.sets c.in_ok-found.found c.in_ok-found.ensures.needs c.in-Some.at
    (subst (λ sides. IsLateAt sides c.in-Some.at) c.as_slice.ensures.value c.in-Some.ensures)

pub broken_at-requires-clause-sides : goal.broken_at-requires-clause-sides
broken_at-requires-clause-sides g c =
    let m = model_of g.V.RowView.content c.args.scene.now in
    within_sides m.rules m.root m.sets c.in_ok-found.found c.in_ok-found.ensures.needs c.in-Some.at
    (subst (λ sides. IsLateAt sides c.in-Some.at) c.as_slice.ensures.value c.in-Some.ensures)

pub returns-in-Some : goal.returns-in-Some
returns-in-Some g c =
    let m = model_of g.V.RowView.content c.args.scene.now in
    listed_broken m.rules m.root m.sets c.in_ok-found.found c.in_ok-found.ensures.needs c.in-Some.at
    (subst (λ sides. IsLateAt sides c.in-Some.at) c.as_slice.ensures.value c.in-Some.ensures) c.broken_at.result c.broken_at.ensures

pub listed_pairs-requires-clause-within : goal.listed_pairs-requires-clause-within
listed_pairs-requires-clause-within g c =
    let m = model_of g.V.RowView.content c.args.scene.now in
    subst (λ k. AreWithin c.as_slice-in-None.result.now k) (sym c.len.ensures.members)
    (subst (λ sides. AreWithin sides (length m.sets)) (sym c.as_slice-in-None.ensures.value)
    (are_within m.rules m.root m.sets c.in_ok-found.found c.in_ok-found.ensures.needs))

pub entries_under-requires-clause-covered : goal.entries_under-requires-clause-covered
entries_under-requires-clause-covered g c =
    let s = setting_of (model_of g.V.RowView.content c.args.scene.now) in
    let pairs = c.in_ok-pairs-in-None.pairs.items in
    let for_all = subst (λ sides. ArePairsFor sides (range_with_len 0 c.len.result) pairs) c.as_slice-in-None.ensures.value c.in_ok-pairs-in-None.ensures in
    subst (IsCoveredBy s) (sym c.as_slice-in-None-2.ensures.value)
    (each_covered s c.in_ok-found.found c.in_ok-found.ensures.needs pairs for_all.served)

pub returns : goal.returns
returns g c =
    let m = model_of g.V.RowView.content c.args.scene.now in
    let s = setting_of m in
    let pairs = c.in_ok-pairs-in-None.pairs.items in
    let entries = c.in_ok-entries-in-None.entries in
    let for_all = subst (λ sides. ArePairsFor sides (range_with_len 0 c.len.result) pairs) c.as_slice-in-None.ensures.value c.in_ok-pairs-in-None.ensures in
    covered_as_listed m.rules m.root m.sets c.in_ok-found.found c.in_ok-found.ensures.needs pairs
    (subst (λ k. ArePairsFor c.in_ok-found.found.sides.items (range_with_len 0 k) pairs) c.len.ensures.members for_all) entries
    (subst (λ ps. AreEntriesUnder s ps entries) c.as_slice-in-None-2.ensures.value c.in_ok-entries-in-None.ensures)
