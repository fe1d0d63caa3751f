use Rattle.std.proofs.Common.{◌∙◌, sym}
use Rattle.clr_rows.proofs.BeginningLaws.{on_err}
use Rattle.clr_row_versions.proofs.CandidateLaws.{in_turned_order, one_cell, opposed_pair, some_in_order, some_in_turned_order}
use Rattle.clr_row_versions.proofs.root_versions.RootVersions.add_pair.Goals as goal

pub returns-then-are_opposed-clause-ok : goal.returns-then-are_opposed-clause-ok
returns-then-are_opposed-clause-ok g c =
    opposed_pair c.args.self.now.book.now c.args.rule c.args.server c.args.one c.args.other c.args.needs.now.items (sym c.are_opposed.ensures
    ∙ c.if-are_opposed.true)

pub returns-in_ok-add_of_two-in-Greater-clause-ok : goal.returns-in_ok-add_of_two-in-Greater-clause-ok
returns-in_ok-add_of_two-in-Greater-clause-ok g c =
    in_turned_order c.args.self.now.book.now c.args.rule c.args.server c.args.one c.args.other _ _ (sym c.are_opposed.ensures
    ∙ c.if-are_opposed.false) (sym c.cmp.ensures ∙ c.in-Greater.is)
    c.in_ok-add_of_two-in-Greater.ensures.ok

pub returns-in-Equal-clause-ok : goal.returns-in-Equal-clause-ok
returns-in-Equal-clause-ok g c = one_cell c.args.self.now.book.now c.args.rule c.args.server c.args.one c.args.other c.args.needs.now.items (sym c.cmp.ensures
    ∙ c.in-Equal.is)

pub returns-in_err-add_of_two-in-Less-clause-err : goal.returns-in_err-add_of_two-in-Less-clause-err
returns-in_err-add_of_two-in-Less-clause-err g c =
    on_err _ (some_in_order c.args.self.now.book.now c.args.rule c.args.server c.args.one c.args.other _ _ (sym c.are_opposed.ensures
    ∙ c.if-are_opposed.false) (sym c.cmp.ensures ∙ c.in-Less.is)
    c.in_err-add_of_two-in-Less.ensures.err)

pub returns-in_err-add_of_two-in-Greater-clause-err : goal.returns-in_err-add_of_two-in-Greater-clause-err
returns-in_err-add_of_two-in-Greater-clause-err g c =
    on_err _ (some_in_turned_order c.args.self.now.book.now c.args.rule c.args.server c.args.one c.args.other _ _ (sym c.are_opposed.ensures
    ∙ c.if-are_opposed.false) (sym c.cmp.ensures ∙ c.in-Greater.is)
    c.in_err-add_of_two-in-Greater.ensures.err)
