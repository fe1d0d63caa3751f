use Rattle.std.proofs.Common.{◌≡◌, List, ap, map, subst, sym, ◌∙◌}
use Rattle.std.proofs.lemmas.Result.{IfOk-weaker}
use Rattle.std.specs.FinMap as finite
use Rattle.clr_rows.specs.Contents.{Changes}
use Rattle.clr_change.specs.declared.edits.Edit.{Edit}
use Rattle.clr_change.specs.Edits.{after_edits}
use Rattle.clr_layer_changes.specs.Changes.{edit_of}
use Rattle.clr_layer_changes.proofs.EditLemmas.{edits_lead}
use Rattle.clr_layer_changes.proofs.changes.edits_between.Goals as goal

pub returns-clause-leads : goal.returns-clause-leads
returns-clause-leads c =
    let base = c.args.base.now in
    let current = c.args.current.now in
    IfOk-weaker c.edits_of.result _ _
    (λ edits is. subst (λ (es : List Edit). after_edits base es ≡ current)
    (sym (is ∙ ap (λ (s : Changes). map edit_of (finite.entries s)) c.in_ok-changes.ensures)) (edits_lead base current))
    c.edits_of.ensures
