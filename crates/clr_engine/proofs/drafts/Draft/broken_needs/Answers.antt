use Rattle.clr_engine.proofs.BrokenNow.{broken_now, if_ok}
use Rattle.clr_engine.proofs.drafts.Draft.broken_needs.Goals as goal

pub broken_needs-requires : goal.broken_needs-requires
broken_needs-requires c = let fit = c.self.invariant in record { tables = c.self.inside.schema; book = fit.book; rows = fit.rows }

pub returns : goal.returns
returns c =
    let inside = c.self.inside in
    if_ok c.broken_needs.result _ _
    (λ list are. broken_now inside.schema inside.judge inside.tree.list c.broken_needs.ensures.sound c.args.self.now c.self.view_is list.items are)
    c.broken_needs.ensures.broken
