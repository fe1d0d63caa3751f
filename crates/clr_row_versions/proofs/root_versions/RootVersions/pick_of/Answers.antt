use Rattle.std.proofs.Common.{length, sym, subst, ◌<◌, ℕ}
use Rattle.std.proofs.lemmas.List.{length-map}
use Rattle.clr_needs.specs.Picks.{Picks}
use Rattle.clr_row_versions.specs.RootVersions.{setting_in}
use Rattle.clr_needs.specs.Witnesses.{HasPair}
use Rattle.clr_row_versions.proofs.Searches.{sets_of}
use Rattle.clr_needs.proofs.PickLaws.{picks_alone, picks_none, picks_two}
use Rattle.clr_row_versions.proofs.root_versions.RootVersions.pick_of.Goals as goal

pub returns-in-Some : goal.returns-in-Some
returns-in-Some g c = picks_alone (setting_in g.V.RowView.content c.args.self.now) c.args.need.now c.args.servers.now c.requires.servers c.in-Some.witness
    c.in-Some.ensures

pub returns-in_ok-taken-in-None : goal.returns-in_ok-taken-in-None
returns-in_ok-taken-in-None g c =
    let versions = c.args.self.now in
    picks_two (setting_in g.V.RowView.content versions) c.args.need.now c.args.servers.now c.requires.servers (length versions.members.now.sets.items)
    c.in_ok-taken-in-None.taken c.in_ok-taken-in-None.brought c.in-None.ensures
    c.in_ok-taken-in-None.ensures

pub returns-in_err-taken-in-None : goal.returns-in_err-taken-in-None
returns-in_err-taken-in-None g c =
    let versions = c.args.self.now in
    let s = setting_in g.V.RowView.content versions in
    let members = length-map versions.members.now.sets.items (λ t. t.now) in
    subst (Picks s c.args.need.now) (sym c.from_residual.ensures) (picks_none versions.book.now (g.V.RowView.content versions.root.now)
    (sets_of versions.members.now.sets.items) c.args.need.now c.args.servers.now c.requires.servers c.in-None.ensures
    (subst (λ (count : ℕ). (x : ℕ) → x < count → HasPair s c.args.servers.now x → ⊥) (sym members) c.in_err-taken-in-None.ensures))
