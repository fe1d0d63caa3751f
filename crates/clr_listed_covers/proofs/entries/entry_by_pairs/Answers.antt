use Rattle.std.proofs.Common.{Some, subst}
use Rattle.clr_foot.specs.Scenes.{model_of, setting_of}
use Rattle.clr_listed_covers.specs.declared.covers.Cover.{Cover}
use Rattle.clr_listed_covers.specs.Covers.{IsCoverByPairs}
use Rattle.clr_listed_covers.proofs.EntryLaws.{entry_by, not_none}
use Rattle.clr_listed_covers.proofs.entries.entry_by_pairs.Goals as goal

pub returns-in-None : goal.returns-in-None
returns-in-None g c =
    let s = setting_of (model_of g.V.RowView.content c.args.scene.now) in
    absurd (not_none s c.args.need.now c.args.pairs.now c.requires.helped
    (subst (IsCoverByPairs s c.args.need.now c.args.pairs.now) c.in-None.is c.cover_by_pairs.ensures))

pub returns : goal.returns
returns g c =
    let s = setting_of (model_of g.V.RowView.content c.args.scene.now) in
    entry_by s c.args.need.now c.args.pairs.now c.in-Some-Witnesses.one c.in-Some-Witnesses.two
    (subst (λ (found : Cover). IsCoverByPairs s c.args.need.now c.args.pairs.now (Some found)) c.in-Some-Witnesses.field-0-is
    (subst (IsCoverByPairs s c.args.need.now c.args.pairs.now) c.in-Some-Witnesses.is c.cover_by_pairs.ensures))
