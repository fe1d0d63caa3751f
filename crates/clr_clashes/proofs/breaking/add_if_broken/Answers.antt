use Rattle.std.proofs.Common.{◌≡◌, ◌∙◌, ◌∷◌, ◌++◌, [], ap, inr, map, None, rules, subst}
use Rattle.std.proofs.lemmas.List.{map-append}
use Rattle.clr_needs.specs.Picks.{Picks}
use Rattle.clr_foot.specs.Scenes.{model_of, setting_of}
use Rattle.clr_clashes.specs.declared.listing.Clash.{Clash}
use Rattle.clr_clashes.specs.ListedClashes.{listed_clash_of}
use Rattle.clr_clashes.proofs.breaking.add_if_broken.Goals as goal

pub returns-in_ok-push-in-None : goal.returns-in_ok-push-in-None
returns-in_ok-push-in-None g c =
    let s = setting_of (model_of g.V.RowView.content c.args.scene.now) in
    let members = c.in_ok-members-in-None.members in
    let one : Clash = record { members = members; need = c.args.need.now } in
    inr (
      members.items,
      subst (Picks s c.args.need.now) c.in-None.is c.in_ok-pick.ensures,
      c.in_ok-members-in-None.ensures,
      ap (map listed_clash_of) c.in_ok-push-in-None.ensures.items ∙ map-append listed_clash_of c.args.list.now.items (one ∷ []),
    )
