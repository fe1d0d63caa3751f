use Rattle.std.proofs.Common.{ap, sym, ◌∙◌}
use Rattle.std.specs.FinMap.{get-empty}
use Rattle.clr_rows.specs.Cells.{cell_cmp}
use Rattle.clr_rows.specs.Contents.{Content, row_at}
use Rattle.clr_tree.proofs.LiveLemmas.{first_base}
use Rattle.clr_tree.proofs.ModelLemmas.{within_tree}
use Rattle.clr_tree.proofs.tree.Tree.base.Goals as goal

pub base_row_of-requires-clause-within : goal.base_row_of-requires-clause-within
base_row_of-requires-clause-within c = within_tree c.self.inside.live c.self.inside.map c.args.self.now c.args.at c.self.view_is c.requires.within

pub returns-then-at-eq0 : goal.returns-then-at-eq0
returns-then-at-eq0 c =
    sym (get-empty cell_cmp c.args.cell)
    ∙ sym (ap (λ (m : Content). row_at m c.args.cell)
    (first_base c.self.inside.live c.self.inside.map c.args.self.now c.args.at c.self.view_is c.self.invariant.0 c.if-at-eq0.true))
