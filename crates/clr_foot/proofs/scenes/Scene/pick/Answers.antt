use Rattle.std.proofs.Common.{subst}
use Rattle.std.specs.Prelude.{IfSome}
use Rattle.clr_needs.specs.Picks.{IsLeastVersion}
use Rattle.clr_foot.specs.declared.first_servers.Sought.TheVariants.{Lasting}
use Rattle.clr_foot.specs.FirstServers.{IsServingSought}
use Rattle.clr_foot.specs.Scenes.{setting_in}
use Rattle.clr_foot.proofs.FirstServerLaws.{picks_least}
use Rattle.clr_foot.proofs.scenes.Scene.pick.Goals as goal

pub returns-in-Some : goal.returns-in-Some
returns-in-Some g c =
    let s = setting_in g.V.RowView.content c.args.self.now in
    let n = c.args.need.now in
    picks_least s n c.in-Some.witness (subst (λ o. IfSome o (IsLeastVersion (IsServingSought Lasting s n))) c.in-Some.is c.in_ok-witness.ensures)
