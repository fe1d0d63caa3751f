use Rattle.std.proofs.Common.{sym, ap, ◌∙◌, Some}
use Rattle.clr_steps.specs.Readings.{changes_in}
use Rattle.clr_engine.proofs.Readings.{changes_is, live_is, no_changes_is, seen_in, shown, some_below, unknown}
use Rattle.clr_engine.proofs.offices.Office.changes.Goals as goal

pub returns-in-Some-eq0 : goal.returns-in-Some-eq0
returns-in-Some-eq0 c =
    let o = c.args.self.now in
    let ws = c.self.inside.tree.list in
    let seen = seen_in c.self.inside.schema c.self.inside.judge ws o c.find.ensures.sound c.self.view_is c.args.ws.now in
    let e = sym c.find.ensures.found ∙ c.in-Some-eq0.is ∙ ap Some c.in-Some-eq0.field-0-test in
    shown o ws c.args.ws.now seen 0 c.new.result (changes_in o c.args.ws.now) e (c.new.ensures
    ∙ no_changes_is o ws c.args.ws.now seen (live_is o ws c.args.ws.now seen e))

pub returns-in_ok-changes-in-Some : goal.returns-in_ok-changes-in-Some
returns-in_ok-changes-in-Some c =
    let o = c.args.self.now in
    let ws = c.self.inside.tree.list in
    let seen = seen_in c.self.inside.schema c.self.inside.judge ws o c.find.ensures.sound c.self.view_is c.args.ws.now in
    let e = sym c.find.ensures.found ∙ c.in-Some.is in
    shown o ws c.args.ws.now seen c.in-Some.at c.in_ok-changes-in-Some.field-0 (changes_in o c.args.ws.now) e
    (c.in_ok-changes-in-Some.ensures ∙ changes_is o ws c.args.ws.now seen c.in-Some.at (some_below c.in-Some.at c.in-Some.at-test.1) e)

pub returns-in-None : goal.returns-in-None
returns-in-None c =
    let o = c.args.self.now in
    let ws = c.self.inside.tree.list in
    let seen = seen_in c.self.inside.schema c.self.inside.judge ws o c.find.ensures.sound c.self.view_is c.args.ws.now in
    let e = sym c.find.ensures.found ∙ c.in-None.is in
    unknown o ws c.args.ws.now seen (changes_in o c.args.ws.now) e
