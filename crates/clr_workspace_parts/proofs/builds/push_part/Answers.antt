use Rattle.std.proofs.Common.{◌≡◌, suc, ◌++◌, ◌∷◌, [], List, take, ap, sym, ◌∙◌, arith}
use Rattle.clr_deltas.specs.Deltas.{wholes}
use Rattle.clr_workspaces.specs.Workspaces.{Workspace, workspace_at}
use Rattle.clr_workspace_parts.specs.Parts.{workspace_of, list_of, place_fault, part_name_fault, part_name_fault_at}
use Rattle.clr_workspace_parts.proofs.FaultLemmas.{part_at, take_next, length-parts}
use Rattle.clr_workspace_parts.proofs.BuildLemmas.{is_fault}
use Rattle.clr_workspace_parts.proofs.builds.push_part.Goals as goal

pub returns-in-Err-clause-refused : goal.returns-in-Err-clause-refused
returns-in-Err-clause-refused c =
    let ws = list_of c.args.live.now c.args.parts.now in
    let part = c.index-parts-at.result in
    let is : workspace_at ws (suc c.args.at) ≡ workspace_of part = part_at c.args.live.now c.args.parts.now c.args.at part c.requires.within
    ∙ ap workspace_of (sym c.index-parts-at.is) in
    is_fault (part_name_fault_at ws c.args.at) c.in-Err.fault
    (ap (part_name_fault (take (suc c.args.at) ws)) is ∙ ap (λ (vs : List Workspace). part_name_fault vs (workspace_of part)) (sym c.requires.before)
    ∙ (λ i. place_fault (wholes c.args.live.now c.args.map.now) (sym c.as_str.ensures i) (sym c.as_str-2.ensures i)) ∙ c.in-Err.ensures.refused)

pub returns-in-Ok-push_under-clause-ok : goal.returns-in-Ok-push_under-clause-ok
returns-in-Ok-push_under-clause-ok c =
    let ws = list_of c.args.live.now c.args.parts.now in
    let part = c.index-parts-at.result in
    let is : workspace_at ws (suc c.args.at) ≡ workspace_of part = part_at c.args.live.now c.args.parts.now c.args.at part c.requires.within
    ∙ ap workspace_of (sym c.index-parts-at.is) in
    let long = length-parts c.args.live.now c.args.parts.now in
    let within = c.requires.within in
    c.in-Ok-push_under.ensures ∙ ap (λ (vs : List Workspace). vs ++ workspace_of part ∷ []) c.requires.before
    ∙ ap (λ (w : Workspace). take (suc c.args.at) ws ++ w ∷ []) (sym is) ∙ sym (take_next ws (suc c.args.at) (omega (arith, long, within)))
