use Rattle.std.proofs.Common.{subst}
use Rattle.clr_foot.specs.Scenes.{model_of, setting_of}
use Rattle.clr_needs.specs.Picks.{Picks}
use Rattle.clr_listed_covers.proofs.EntryLaws.{pair_for, picked_entry}
use Rattle.clr_listed_covers.proofs.entries.entry_for.Goals as goal

pub entry_by_pairs-requires-clause-helped : goal.entry_by_pairs-requires-clause-helped
entry_by_pairs-requires-clause-helped g c =
    let s = setting_of (model_of g.V.RowView.content c.args.scene.now) in
    pair_for s c.args.need.now c.args.pairs.now c.requires.touched c.requires.covered
    (subst (Picks s c.args.need.now) c.in-None.is c.in_ok-one.ensures)

pub returns-in-Some : goal.returns-in-Some
returns-in-Some g c =
    let s = setting_of (model_of g.V.RowView.content c.args.scene.now) in
    picked_entry s c.args.need.now c.args.pairs.now c.requires.touched c.in-Some.one c.in-Some.two
    (subst (Picks s c.args.need.now) c.in-Some.is c.in_ok-one.ensures)
