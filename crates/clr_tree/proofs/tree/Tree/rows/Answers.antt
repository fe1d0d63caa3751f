use Rattle.clr_tree.proofs.ModelLemmas.{within_tree}
use Rattle.clr_tree.proofs.tree.Tree.rows.Goals as goal

pub whole_rows-requires-clause-within : goal.whole_rows-requires-clause-within
whole_rows-requires-clause-within c = within_tree c.self.inside.live c.self.inside.map c.args.self.now c.args.at c.self.view_is c.requires
