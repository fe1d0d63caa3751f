use Rattle.std.proofs.Common.{sym, ◌∙◌}
use Rattle.clr_steps.specs.Offices.{is_kept}
use Rattle.clr_engine.proofs.Readings.{kept_is, seen_in, shown, unknown}
use Rattle.clr_engine.proofs.offices.Office.kept.Goals as goal

pub returns-in-Some-clause-value : goal.returns-in-Some-clause-value
returns-in-Some-clause-value c =
    let o = c.args.self.now in
    let ws = c.self.inside.tree.list in
    let seen = seen_in c.self.inside.schema c.self.inside.judge ws o c.find.ensures.sound c.self.view_is c.args.ws.now in
    let e = sym c.find.ensures.found ∙ c.in-Some.is in
    shown o ws c.args.ws.now seen c.in-Some.at c.kept.result (is_kept o c.args.ws.now) e (c.kept.ensures ∙ kept_is o ws c.args.ws.now seen c.in-Some.at e)

pub returns-in-None-clause-value : goal.returns-in-None-clause-value
returns-in-None-clause-value c =
    let o = c.args.self.now in
    let ws = c.self.inside.tree.list in
    let seen = seen_in c.self.inside.schema c.self.inside.judge ws o c.find.ensures.sound c.self.view_is c.args.ws.now in
    let e = sym c.find.ensures.found ∙ c.in-None.is in
    unknown o ws c.args.ws.now seen (is_kept o c.args.ws.now) e
