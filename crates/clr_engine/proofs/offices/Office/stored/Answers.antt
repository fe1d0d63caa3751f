use Rattle.std.proofs.Common.{sym, ap, ◌∙◌, Some}
use Rattle.clr_workspaces.specs.Workspaces.{workspace_at}
use Rattle.clr_steps.proofs.SeenLemmas.{within}
use Rattle.clr_steps.specs.Readings.{stored_in}
use Rattle.clr_engine.proofs.Readings.{live_is, no_stored_is, seen_in, shown, some_below, stored_is, unknown}
use Rattle.clr_engine.proofs.offices.Office.stored.Goals as goal

pub returns-in-Some-eq0 : goal.returns-in-Some-eq0
returns-in-Some-eq0 c =
    let o = c.args.self.now in
    let ws = c.self.inside.tree.list in
    let seen = seen_in c.self.inside.schema c.self.inside.judge ws o c.find.ensures.sound c.self.view_is c.args.ws.now in
    let e = sym c.find.ensures.found ∙ c.in-Some-eq0.is ∙ ap Some c.in-Some-eq0.field-0-test in
    shown o ws c.args.ws.now seen 0 0 (stored_in o c.args.ws.now) e (no_stored_is o ws c.args.ws.now seen (live_is o ws c.args.ws.now seen e))

pub returns-in-Some : goal.returns-in-Some
returns-in-Some c =
    let o = c.args.self.now in
    let inside = c.self.inside in
    let ws = inside.tree.list in
    let at = c.in-Some.at in
    let sound = c.find.ensures.sound in
    let seen = seen_in inside.schema inside.judge ws o sound c.self.view_is c.args.ws.now in
    let e = sym c.find.ensures.found ∙ c.in-Some.is in
    let some = some_below at c.in-Some.at-test.1 in
    let lt = within inside.schema inside.judge ws sound c.args.ws.now at e in
    let above = sound.rooted.under at some lt in
    let parent = seen_in inside.schema inside.judge ws o sound c.self.view_is (workspace_at ws at).parent in
    shown o ws c.args.ws.now seen at c.stored.result (stored_in o c.args.ws.now) e
    (c.stored.ensures ∙ c.self.invariant.2.counts at some lt ∙ stored_is o ws c.args.ws.now seen at above.0 some e above.1 parent)

pub returns-in-None : goal.returns-in-None
returns-in-None c =
    let o = c.args.self.now in
    let ws = c.self.inside.tree.list in
    let seen = seen_in c.self.inside.schema c.self.inside.judge ws o c.find.ensures.sound c.self.view_is c.args.ws.now in
    unknown o ws c.args.ws.now seen (stored_in o c.args.ws.now) (sym c.find.ensures.found ∙ c.in-None.is)
