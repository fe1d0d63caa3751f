use Rattle.std.proofs.Common.{ap, ◌∙◌}
use Rattle.clr_deltas.specs.Deltas.{delta_at}
use Rattle.clr_tree.specs.Trees.{Tree}
use Rattle.clr_tree.proofs.ModelLemmas.{within_tree}
use Rattle.clr_tree.proofs.tree.Tree.delta.Goals as goal

pub delta-requires : goal.delta-requires
delta-requires c = within_tree c.self.inside.live c.self.inside.map c.args.self.now c.args.at c.self.view_is c.requires.within

pub returns : goal.returns
returns c = c.delta.ensures ∙ ap (λ (t : Tree). delta_at t.deltas c.args.at) c.self.view_is
