use Rattle.clr_tree.proofs.ModelLemmas.{within_tree}
use Rattle.clr_tree.proofs.tree.Tree.changes_to_refreshed.Goals as goal

pub changes_to_refreshed-requires-clause-within : goal.changes_to_refreshed-requires-clause-within
changes_to_refreshed-requires-clause-within c = within_tree c.self.inside.live c.self.inside.map c.args.self.now c.args.at c.self.view_is c.requires.within
