use Rattle.std.proofs.Common.{sym, ap, ◌∙◌, is_some}
use Rattle.clr_engine.proofs.Readings.{seen_in}
use Rattle.clr_engine.proofs.Served.{found_in}
use Rattle.clr_engine.proofs.offices.Office.find.Goals as goal

pub returns-clause-stands : goal.returns-clause-stands
returns-clause-stands c =
    let inside = c.self.inside in
    let seen = seen_in inside.schema inside.judge inside.tree.list c.args.self.now c.find.ensures.sound c.self.view_is c.args.ws.now in
    ap is_some c.find.ensures.found ∙ sym seen.stands

pub returns-clause-found : goal.returns-clause-found
returns-clause-found c =
    let inside = c.self.inside in
    found_in inside.schema inside.judge inside.tree.list c.find.ensures.sound c.args.self.now c.self.view_is c.args.ws.now c.find.result c.find.ensures.found
