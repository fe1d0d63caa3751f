use Rattle.std.proofs.Common.{List, subst, sym}
use Rattle.clr_rules.specs.declared.needs.Broken.{Broken}
use Rattle.clr_steps.specs.Offices.{Office, office_of}
use Rattle.clr_engine.specs.BrokenNow.{AreBrokenNow}
use Rattle.clr_engine.proofs.BrokenNow.{broken_now, if_ok, none_broken}
use Rattle.clr_engine.proofs.offices.Office.broken_needs.Goals as goal

pub returns-then-self : goal.returns-then-self
returns-then-self c =
    let inside = c.self.inside in
    let o = office_of inside.schema inside.judge inside.tree.list in
    subst (λ (o : Office). AreBrokenNow o c.new.result.items) c.self.view_is
    (subst (λ (list : List Broken). AreBrokenNow o list) (sym c.new.ensures.items) (none_broken o (c.self.invariant.3 c.if-self.true)))

pub broken_needs-requires : goal.broken_needs-requires
broken_needs-requires c = let fit = c.self.invariant.0.fit in record { tables = c.self.inside.schema; book = fit.book; rows = fit.rows }

pub returns : goal.returns
returns c =
    let inside = c.self.inside in
    if_ok c.broken_needs.result _ _
    (λ list are. broken_now inside.schema inside.judge inside.tree.list c.broken_needs.ensures.sound c.args.self.now c.self.view_is list.items are)
    c.broken_needs.ensures.broken
