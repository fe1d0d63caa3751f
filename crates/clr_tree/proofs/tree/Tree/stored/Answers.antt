use Rattle.std.proofs.Common.{ap, sym, ◌∙◌}
use Rattle.clr_tree.specs.Trees.{Tree, stored_count_at}
use Rattle.clr_tree.proofs.ModelLemmas.{within_tree}
use Rattle.clr_deltas.specs.Deltas.{stored_in}
use Rattle.clr_tree.proofs.SweepLemmas.{told_at}
use Rattle.clr_tree.proofs.tree.Tree.stored.Goals as goal

pub count_differences-requires : goal.count_differences-requires
count_differences-requires c = within_tree c.self.inside.live c.self.inside.map c.args.self.now c.args.at c.self.view_is c.requires.within

pub returns : goal.returns
returns c =
    let in_ls = within_tree c.self.inside.live c.self.inside.map c.args.self.now c.args.at c.self.view_is c.requires.within in
    c.count_differences.ensures ∙ sym (told_at stored_in 0 c.self.inside.map c.args.at in_ls)
    ∙ ap (λ (t : Tree). stored_count_at t.stored c.args.at) c.self.view_is
