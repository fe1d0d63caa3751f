use Rattle.std.proofs.Common.{ap, sym, subst, ◌∙◌}
use Rattle.clr_deltas.specs.Deltas.{wholes}
use Rattle.clr_operations.proofs.LeafLemmas.{no_child}
use Rattle.clr_operations.proofs.OperationLemmas.{all_rolled}
use Rattle.clr_contents.specs.Lean.{IsLean}
use Rattle.clr_operations.proofs.LeanLemmas.{lean_rolled_all}
use Rattle.clr_operations.proofs.operations.roll_all.Goals as goal

pub returns-clause-rolled : goal.returns-clause-rolled
returns-clause-rolled c =
    ap (wholes c.args.live.now) c.roll_all.ensures
    ∙ all_rolled c.args.live.now c.args.map.now c.args.at c.requires.rooted c.requires.child c.requires.within
    (no_child c.args.live.now c.args.map.now c.args.at c.requires.leaf)

pub returns-clause-lean : goal.returns-clause-lean
returns-clause-lean c = λ lean.
    subst (IsLean c.args.live.now) (sym c.roll_all.ensures)
    (lean_rolled_all c.args.live.now c.args.map.now c.args.at c.requires.rooted c.requires.child c.requires.within
    (no_child c.args.live.now c.args.map.now c.args.at c.requires.leaf) lean)
