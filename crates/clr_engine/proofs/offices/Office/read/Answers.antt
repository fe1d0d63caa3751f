use Rattle.std.proofs.Common.{sym, ap, ◌∙◌}
use Rattle.clr_rows.specs.Contents.{Content, row_at}
use Rattle.clr_engine.proofs.Readings.{content_is, no_row, seen_in}
use Rattle.clr_engine.proofs.offices.Office.read.Goals as goal

pub returns-in-Some : goal.returns-in-Some
returns-in-Some c =
    let o = c.args.self.now in
    let ws = c.self.inside.tree.list in
    let seen = seen_in c.self.inside.schema c.self.inside.judge ws o c.find.ensures.sound c.self.view_is c.args.ws.now in
    let e = sym c.find.ensures.found ∙ c.in-Some.is in
    c.read.ensures ∙ ap (λ (m : Content). row_at m c.args.cell) (content_is o ws c.args.ws.now seen c.in-Some.at e)

pub returns-in-None : goal.returns-in-None
returns-in-None c =
    let o = c.args.self.now in
    let ws = c.self.inside.tree.list in
    let seen = seen_in c.self.inside.schema c.self.inside.judge ws o c.find.ensures.sound c.self.view_is c.args.ws.now in
    let e = sym c.find.ensures.found ∙ c.in-None.is in
    no_row o ws c.args.ws.now seen c.args.cell e
