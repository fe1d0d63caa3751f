use Rattle.std.proofs.Common.{List, ◌∙◌, ap}
use Rattle.std.specs.Prelude.{count_by}
use Rattle.std.specs.Str.{bytes_eq}
use Rattle.clr_deltas.specs.Deltas.{Delta}
use Rattle.clr_deltas.proofs.NamedDeltaLemmas.{children_here}
use Rattle.clr_deltas.proofs.workspace_maps.WorkspaceMap.children.Goals as goal

pub returns : goal.returns
returns c = c.count_children.ensures ∙ children_here c.args.name.now c.self.inside.map.entries
    ∙ ap (λ (ls : List Delta). count_by (λ l. bytes_eq c.args.name.now l.parent) ls) c.self.view_is
