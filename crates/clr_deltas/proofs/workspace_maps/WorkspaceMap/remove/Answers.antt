use Rattle.std.proofs.Common.{◌∙◌, ap, sym, List, is_some}
use Rattle.std.specs.Prelude.{remove}
use Rattle.indexmap.proofs.SetLemmas.{map-remove}
use Rattle.clr_deltas.specs.Deltas.{Delta}
use Rattle.clr_deltas.specs.NamedDeltas.{deltas_of, delta_of}
use Rattle.clr_deltas.proofs.NamedDeltaLemmas.{named_at, some_named}
use Rattle.clr_deltas.proofs.workspace_maps.WorkspaceMap.remove.Goals as goal

pub unwrap-name-requires : goal.unwrap-name-requires
unwrap-name-requires c = ap is_some c.shift_remove_index.ensures.entry
    ∙ some_named c.self.inside.map.entries c.args.self.now c.args.at c.self.view_is c.requires

pub returns-clause-name : goal.returns-clause-name
returns-clause-name c = sym (ap (λ (l : Delta). l.name) (named_at c.self.inside.map.entries c.args.self.now c.args.at _ c.self.view_is
    (sym c.shift_remove_index.ensures.entry ∙ c.unwrap-name.ensures)))

pub returns-clause-gone : goal.returns-clause-gone
returns-clause-gone c = ap deltas_of c.shift_remove_index.ensures.entries ∙ map-remove delta_of c.self.inside.map.entries c.args.at
    ∙ ap (λ (ls : List Delta). remove ls c.args.at) c.self.view_is
