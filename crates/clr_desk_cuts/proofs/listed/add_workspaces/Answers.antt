use Rattle.std.proofs.Common.{◌≡◌, ◌∙◌, ◌+◌, ◌<◌, ℕ, List, ◌∷◌, add-one, ap, drop, get_or, length, map, sym}
use Rattle.std.specs.FinMap as finite
use Rattle.std.proofs.Math.Seq.{drop-cons}
use Rattle.std.proofs.lemmas.List.{drop_all}
use Rattle.clr_deltas.specs.Differences.{Differences}
use Rattle.clr_deltas.specs.NamedDeltas.{stored_delta}
use Rattle.clr_deltas.specs.declared.stored_parts.StoredPart.{StoredPart}
use Rattle.clr_desk_cuts.specs.Listed.{with_deltas, with_entries}
use Rattle.clr_desk_cuts.proofs.listed.add_workspaces.Goals as goal

-- the cells of one workspace, and those of the others behind it
one_more : (parts : List StoredPart) (i : ℕ) (part : StoredPart) (cells : Differences) → i < length parts → part ≡ get_or parts i part
    → with_deltas cells (map stored_delta (drop i parts))
    ≡ with_deltas (with_entries (with_entries cells (finite.entries part.delta.base)) (finite.entries part.delta.current)) (map stored_delta (drop (i + 1) parts))
unfolding with_deltas
one_more parts i part cells less read =
    let here : drop i parts ≡ get_or parts i part ∷ drop (i + 1) parts = rw add-one (drop-cons parts i part less) in
    ap (λ (ps : List StoredPart). with_deltas cells (map stored_delta ps)) (here ∙ ap (λ (p : StoredPart). p ∷ drop (i + 1) parts) (sym read))

pub loop-workspace-preserved : goal.loop-workspace-preserved
loop-workspace-preserved c =
    let parts = c.args.workspaces.now in
    let part = c.workspace-item.result in
    let i = c.loop-workspace.workspace-index in
    let both = c.in_ok-add_cells-2.ensures ∙ ap (λ (d : Differences). with_entries d (finite.entries part.delta.current)) c.in_ok-add_cells.ensures in
    ap (λ (d : Differences). with_deltas d (map stored_delta (drop (i + 1) parts))) both
    ∙ sym (one_more parts i part c.loop-workspace.cells c.loop-workspace-test.true c.workspace-item.is) ∙ c.loop-workspace.invariant

pub returns : goal.returns
unfolding with_deltas
returns c =
    let parts = c.args.workspaces.now in
    let none = drop_all c.loop-workspace.workspace-index parts c.loop-workspace-test.false in
    ap (λ (ps : List StoredPart). with_deltas c.loop-workspace.cells (map stored_delta ps)) (sym none) ∙ c.loop-workspace.invariant
