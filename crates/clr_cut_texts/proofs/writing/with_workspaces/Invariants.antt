use Rattle.std.proofs.Common.{◌≡◌, ◌++◌, map}
use Rattle.std.specs.List.{flat_map}
use Rattle.std.specs.Vec.Iter.{into_iter_items}
use Rattle.clr_deltas.specs.NamedDeltas.{stored_delta}
use Rattle.clr_office_writing.specs.Tokens.{tokens_of}
use Rattle.clr_office_writing.specs.WorkspaceData.{delta_data}
use Rattle.clr_cut_texts.proofs.writing.with_workspaces.Given as goal

-- what is written, and the workspaces that are left, are all
abbrev pub invariant-loop-workspace : goal.invariant-loop-workspace
invariant-loop-workspace l =
    l.initial.text ++ flat_map (λ d. tokens_of (delta_data l.schema d)) (map stored_delta l.fn.workspaces.items)
    ≡ l.text ++ flat_map (λ d. tokens_of (delta_data l.schema d)) (map stored_delta (into_iter_items l.workspace-iterator))
