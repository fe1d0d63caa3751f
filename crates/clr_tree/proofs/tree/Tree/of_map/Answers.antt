use Rattle.std.proofs.lemmas.Bool.{false≢true}
use Rattle.clr_tree.proofs.tree.Tree.of_map.Goals as goal

pub invariant_of-result : goal.invariant_of-result
invariant_of-result c = (c.requires, λ flag. absurd (false≢true flag))
