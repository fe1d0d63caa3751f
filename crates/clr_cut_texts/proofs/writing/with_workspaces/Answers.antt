use Rattle.std.proofs.Common.{◌≡◌, ◌∷◌, ◌++◌, ◌∙◌, [], ap, append-nil, append_assoc, arith, map, sym}
use Rattle.std.specs.List.{flat_map}
use Rattle.std.specs.Vec.Iter.{into_iter_items}
use Rattle.std.proofs.lemmas.List.{nil_from_length}
use Rattle.json.specs.Token.{begin_array, end_array}
use Rattle.clr_deltas.specs.NamedDeltas.{stored_delta}
use Rattle.clr_office_writing.specs.Tokens.{tokens_of}
use Rattle.clr_office_writing.specs.WorkspaceData.{delta_data}
use Rattle.clr_cut_texts.proofs.Listed.{closed}
use Rattle.clr_cut_texts.proofs.writing.with_workspaces.Goals as goal

pub returns : goal.returns
returns c =
    let text = c.args.text in
    let written = delta_data c.args.schema.now in
    let deltas = map stored_delta c.args.workspaces.items in
    let tokens = flat_map (λ d. tokens_of (written d)) deltas in
    let none : into_iter_items c.loop-workspace.workspace-iterator ≡ [] = nil_from_length _ (omega (arith, c.in-None.ensures.steps.0)) in
    let all = (rw none at c.loop-workspace.invariant) ∙ append-nil c.loop-workspace.text in
    c.in_ok-end_array.ensures.ok ∙ ap (λ before. before ++ end_array ∷ []) (sym all ∙ ap (λ before. before ++ tokens) c.in_ok-begin_array.ensures.ok)
    ∙ append_assoc (text ++ begin_array ∷ []) tokens (end_array ∷ []) ∙ append_assoc text (begin_array ∷ []) (tokens ++ end_array ∷ [])
    ∙ ap (λ behind. text ++ begin_array ∷ behind) (closed written deltas)
