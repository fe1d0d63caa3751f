use Rattle.std.proofs.Common.{sym, ◌∙◌}
use Rattle.clr_contents.proofs.SeenRowLemmas.{but_child}
use Rattle.clr_contents.proofs.seen_rows.store_rows_of_child.Goals as goal

pub returns-in_err-store_base_rows-clause-elsewhere : goal.returns-in_err-store_base_rows-clause-elsewhere
returns-in_err-store_base_rows-clause-elsewhere c =
    but_child c.args.child c.args.parent c.args.cells.now c.args.map.now c.store_base_rows.new.map (sym c.is_child_of.ensures
    ∙ c.if-not-is_child_of.false) c.store_base_rows.ensures.elsewhere

pub returns-clause-elsewhere : goal.returns-clause-elsewhere
returns-clause-elsewhere c =
    but_child c.args.child c.args.parent c.args.cells.now c.args.map.now c.store_base_rows.new.map (sym c.is_child_of.ensures
    ∙ c.if-not-is_child_of.false) c.store_base_rows.ensures.elsewhere
