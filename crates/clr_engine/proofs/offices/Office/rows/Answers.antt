use Rattle.std.proofs.Common.{sym, ◌∙◌}
use Rattle.clr_steps.specs.Offices.{content_of}
use Rattle.clr_engine.proofs.Readings.{content_is, seen_in, shown, unknown}
use Rattle.clr_engine.proofs.offices.Office.rows.Goals as goal

pub returns-in_ok-rows-in-Some : goal.returns-in_ok-rows-in-Some
returns-in_ok-rows-in-Some c =
    let o = c.args.self.now in
    let ws = c.self.inside.tree.list in
    let seen = seen_in c.self.inside.schema c.self.inside.judge ws o c.find.ensures.sound c.self.view_is c.args.ws.now in
    let e = sym c.find.ensures.found ∙ c.in-Some.is in
    shown o ws c.args.ws.now seen c.in-Some.at c.in_ok-rows-in-Some.field-0 (content_of o c.args.ws.now) e (c.in_ok-rows-in-Some.ensures
    ∙ content_is o ws c.args.ws.now seen c.in-Some.at e)

pub returns-in-None : goal.returns-in-None
returns-in-None c =
    let o = c.args.self.now in
    let ws = c.self.inside.tree.list in
    let seen = seen_in c.self.inside.schema c.self.inside.judge ws o c.find.ensures.sound c.self.view_is c.args.ws.now in
    let e = sym c.find.ensures.found ∙ c.in-None.is in
    unknown o ws c.args.ws.now seen (content_of o c.args.ws.now) e
