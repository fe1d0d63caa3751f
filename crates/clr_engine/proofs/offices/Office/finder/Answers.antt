use Rattle.std.proofs.Common.{sym, subst}
use Rattle.clr_grid.specs.Finders.{IsFinderAt}
use Rattle.clr_judges.specs.KeptContents.{kept_contents}
use Rattle.clr_grid.proofs.Indexes.{finder_at, one_at}
use Rattle.clr_engine.proofs.Served.{finder_in}
use Rattle.clr_engine.proofs.offices.Office.finder.Goals as goal

pub returns : goal.returns
returns c =
    let inside = c.self.inside in
    let ws = inside.tree.list in
    finder_in inside.schema inside.judge ws c.len-sound.ensures.sound c.args.self.now c.self.view_is c.args.position _
    (subst (IsFinderAt inside.judge (one_at (kept_contents ws) c.args.position)) (sym c.get.ensures) (finder_at inside.judge (kept_contents ws) inside.finders
    c.self.invariant.1 c.args.position))
