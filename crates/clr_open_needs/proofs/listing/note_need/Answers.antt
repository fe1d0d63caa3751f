use Rattle.std.proofs.Common.{ℕ, None, OnOk, inr, subst}
use Rattle.std.specs.declared.result.Result.{Result}
use Rattle.std.specs.declared.result.Result.TheVariants.{Ok, Err}
use Rattle.clr_foot.specs.Scenes.{model_of, setting_of}
use Rattle.clr_needs.specs.declared.needs.Need.{Need}
use Rattle.clr_needs.specs.Picks.{Picks}
use Rattle.clr_needs.specs.Settings.{Setting}
use Rattle.clr_open_needs.specs.declared.listing.OpenNeeds.{OpenNeeds}
use Rattle.clr_open_needs.specs.Listing.{AddsNeed, PutsNeed}
use Rattle.clr_open_needs.proofs.listing.note_need.Goals as goal

noted : {T E : Type 0} (c : Setting ℕ) (n : Need) (old new : OpenNeeds) → Picks c n None → (r : Result T E) → OnOk r (PutsNeed c n old new)
    → OnOk r (AddsNeed c n old new)
noted c n old new none (Ok u) h = inr (none, h)
noted c n old new none (Err e) h = tt

pub returns-in-None : goal.returns-in-None
returns-in-None g c =
    let s = setting_of (model_of g.V.RowView.content c.args.scene.now) in
    noted s c.args.need.now c.args.found.now c.add_need.new.found (subst (Picks s c.args.need.now) c.in-None.is c.in_ok-pick.ensures)
    c.add_need.result c.add_need.ensures
