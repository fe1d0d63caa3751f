use Rattle.std.proofs.Common.{sym, ◌∙◌}
use Rattle.clr_tree.proofs.LiveLemmas.{first_base}
use Rattle.clr_tree.proofs.ModelLemmas.{within_tree}
use Rattle.clr_tree.proofs.tree.Tree.base_rows.Goals as goal

pub base_rows-requires-clause-within : goal.base_rows-requires-clause-within
base_rows-requires-clause-within c = within_tree c.self.inside.live c.self.inside.map c.args.self.now c.args.at c.self.view_is c.requires.within

pub returns-then-at-eq0 : goal.returns-then-at-eq0
returns-then-at-eq0 c =
    c.new.ensures ∙ sym (first_base c.self.inside.live c.self.inside.map c.args.self.now c.args.at c.self.view_is c.self.invariant.0 c.if-at-eq0.true)
