use Rattle.std.proofs.Common.{◌∙◌, ◌<◌, ap, sym, subst, length}
use Rattle.std.specs.Option.{option_map}
use Rattle.clr_rules.specs.Calls.{calls}
use Rattle.clr_needs.specs.declared.needs.VersionId.{VersionId}
use Rattle.clr_needs.specs.Needs.{Lists}
use Rattle.clr_needs.specs.Orders.{version_cmp}
use Rattle.clr_foot.specs.Scenes.{setting_in}
use Rattle.clr_foot.specs.Touches.{IsServerOf}
use Rattle.clr_row_versions.specs.Versions.{row_of}
use Rattle.clr_foot.proofs.ServerLaws.{at_too, possible_number, possible_there, serving_same, subjects_call}
use Rattle.clr_foot.proofs.scenes.Scene.servers.Goals as goal

pub returns-in-None : goal.returns-in-None
returns-in-None g c = absurd (possible_there (setting_in g.V.RowView.content c.args.self.now) c.args.need.now c.requires.possible c.in-None.ensures)

pub servers_of-requires-clause-number : goal.servers_of-requires-clause-number
servers_of-requires-clause-number g c =
    subst (λ ask. ask.rule < length c.args.self.now.book.now) (sym c.ask.ensures) (possible_number (setting_in g.V.RowView.content c.args.self.now)
    c.args.need.now c.requires.possible)

pub servers_of-requires-clause-second : goal.servers_of-requires-clause-second
servers_of-requires-clause-second g c = at_too (setting_in g.V.RowView.content c.args.self.now) c.args.need.now.second c.version_if_any-second.result
    c.version_if_any-second.ensures

pub servers_of-requires-clause-called : goal.servers_of-requires-clause-called
servers_of-requires-clause-called g c =
    ap (λ ask. calls c.args.self.now.book.now ask (row_of c.in-Some.first) (option_map row_of c.version_if_any-second.result)) c.ask.ensures
    ∙ subjects_call (setting_in g.V.RowView.content c.args.self.now) c.args.need.now c.in-Some.first c.version_if_any-second.result c.in-Some.ensures
    c.version_if_any-second.ensures c.requires.possible

pub returns-in_ok-servers-in-Some : goal.returns-in_ok-servers-in-Some
returns-in_ok-servers-in-Some g c =
    let s = setting_in g.V.RowView.content c.args.self.now in
    let second = c.version_if_any-second.result in
    let are = subst (λ ask. Lists version_cmp (IsServerOf s ask c.in-Some.first second) c.in_ok-servers-in-Some.servers.items) c.ask.ensures
    c.in_ok-servers-in-Some.ensures in
    let same = λ (v : VersionId). serving_same s c.args.need.now c.in-Some.first second c.in-Some.ensures c.version_if_any-second.ensures v
    c.requires.possible in
    record {
      ascending = are.ascending;
      exactly = λ v. (λ h. (same v).0 ((are.exactly v).0 h), λ w. (are.exactly v).1 ((same v).1 w));
    }
