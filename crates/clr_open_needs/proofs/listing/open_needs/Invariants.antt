use Rattle.clr_foot.specs.Scenes.{model_of, setting_of}
use Rattle.clr_open_needs.proofs.ListingLaws.{AreOpenTo}
use Rattle.clr_open_needs.proofs.listing.open_needs.Given as goal

-- those of the needs so far that nothing covers
abbrev pub invariant-loop-need : goal.invariant-loop-need
invariant-loop-need g l = AreOpenTo (setting_of (model_of g.V.RowView.content l.scene)) l.need-items l.need-index
    l.found.needs.items l.found.sides.items
