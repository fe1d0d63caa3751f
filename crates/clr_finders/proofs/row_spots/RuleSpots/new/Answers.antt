use Rattle.std.proofs.Common.{◌∙◌, sym}
use Rattle.clr_finders.proofs.WithoutRole.{without_role}
use Rattle.clr_finders.proofs.row_spots.RuleSpots.new.Goals as goal

pub returns-then-not-has_role : goal.returns-then-not-has_role
returns-then-not-has_role c =
    let none = c.without_role.ensures in
    without_role c.args.book.now c.args.rule (c.args.held.cell, c.args.held.row.now) c.rule.result.now c.without_role.result c.rule.ensures
    (sym c.has_role.ensures ∙ c.if-not-has_role.true) none.list none.wide none.has_role none.may_serve
