use Rattle.std.proofs.Common.{ap, sym, subst, ◌∙◌}
use Rattle.clr_deltas.specs.Deltas.{wholes}
use Rattle.clr_workspaces.specs.Soundness.{IsSound}
use Rattle.clr_tree.specs.Trees.{Tree}
use Rattle.clr_deltas.proofs.Meaning.{root_made}
use Rattle.clr_workspaces.proofs.TreeLemmas.{root_sound}
use Rattle.clr_tree.proofs.tree.Tree.new.Goals as goal

pub of_map-requires : goal.of_map-requires
of_map-requires c = subst IsSound (sym (ap (wholes c.args.live) c.in_ok-map.ensures ∙ root_made c.args.live)) (root_sound c.args.live)

pub returns : goal.returns
returns c = ap (λ (t : Tree). t.list) c.of_map.ensures ∙ ap (wholes c.args.live) c.in_ok-map.ensures ∙ root_made c.args.live
