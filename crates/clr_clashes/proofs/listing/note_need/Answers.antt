use Rattle.std.proofs.Common.{◌≡◌, ℕ, List, None, OnOk, inr, map, subst}
use Rattle.std.specs.declared.result.Result.{Result}
use Rattle.std.specs.declared.result.Result.TheVariants.{Ok, Err}
use Rattle.clr_needs.specs.declared.needs.Need.{Need}
use Rattle.clr_needs.specs.Picks.{Blocks, Picks}
use Rattle.clr_foot.specs.Scenes.{model_of, setting_of}
use Rattle.clr_needs.specs.Settings.{Setting}
use Rattle.clr_clashes.specs.Keeping.{AddsNeedClash, with_clash}
use Rattle.clr_clashes.specs.ListedClashes.{ListedClash, listed_clash_of}
use Rattle.clr_clashes.proofs.listing.note_need.Goals as goal

noted : {T E : Type 0} (c : Setting ℕ) (n : Need) (old new : List ListedClash) (members : List ℕ) → Picks c n None → Blocks c n members → (r : Result T E)
    → OnOk r (new ≡ with_clash old (record { members = members; need = n }))
    → OnOk r (AddsNeedClash c n old new)
noted c n old new members none blocks (Ok u) h = inr (members, none, blocks, h)
noted c n old new members none blocks (Err e) h = tt

pub returns-in_ok-members-in-None : goal.returns-in_ok-members-in-None
returns-in_ok-members-in-None g c =
    let s = setting_of (model_of g.V.RowView.content c.args.scene.now) in
    noted s c.args.need.now (map listed_clash_of c.args.clashes.now.items) (map listed_clash_of c.add_clash.new.clashes.items)
    c.in_ok-members-in-None.members.items
    (subst (Picks s c.args.need.now) c.in-None.is c.in_ok-pick.ensures) c.in_ok-members-in-None.ensures c.add_clash.result c.add_clash.ensures
