use Rattle.std.proofs.Common.{◌≡◌, ◌∷◌, length, map, take}
use Rattle.serde_json.specs.View.{view}
use Rattle.clr_rows.specs.Names.{live_name}
use Rattle.clr_text_positions.specs.declared.paths.Key.TheVariants as key
use Rattle.clr_item_explanations.specs.Values.{text_at}
use Rattle.clr_item_explanations.proofs.workspaces.earlier_names.Given as goal

-- LIVE, and the names of the workspaces so far
abbrev pub invariant-loop-item : goal.invariant-loop-item
invariant-loop-item l = record {
  whole : l.item-index-end ≡ length l.earlier;
  named : map (λ name. name.now) l.names.items ≡ live_name ∷ map (text_at key.Name) (map view (take l.item-index l.earlier));
}
