use Rattle.std.proofs.Common.{◌∙◌, ap, slice_get}
use Rattle.clr_finders.proofs.SharingLemmas.{row_spots_under}
use Rattle.clr_row_versions.specs.Versions.{row_of}
use Rattle.clr_foot.proofs.VersionLists.{copied_is, copied_some}
use Rattle.clr_foot.proofs.scenes.Scene.spots_of.Goals as goal

pub unwrap-row-requires : goal.unwrap-row-requires
unwrap-row-requires g c = copied_some _ _ c.filed_spots.ensures

pub unwrap-requires : goal.unwrap-requires
unwrap-requires g c = copied_some _ _ (c.get.ensures ∙ ap (λ ys. slice_get ys c.args.rule) (copied_is _ _ _ c.filed_spots.ensures c.unwrap-row.ensures)
    ∙ row_spots_under c.args.self.now.book.now (row_of c.args.version) c.args.rule c.requires.number)

pub returns : goal.returns
returns g c = copied_is _ _ _ (c.get.ensures ∙ ap (λ ys. slice_get ys c.args.rule) (copied_is _ _ _ c.filed_spots.ensures c.unwrap-row.ensures)
    ∙ row_spots_under c.args.self.now.book.now (row_of c.args.version) c.args.rule c.requires.number) c.unwrap.ensures
