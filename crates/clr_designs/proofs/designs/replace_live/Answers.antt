use Rattle.std.proofs.Common.{List, ap, subst, ◌∙◌}
use Rattle.std.proofs.lemmas.Result.{IfOk-weaker}
use Rattle.clr_rows.specs.Contents.{Content}
use Rattle.clr_rows.specs.Names.{live_name}
use Rattle.clr_change.specs.declared.edits.Edit.{Edit}
use Rattle.clr_steps.specs.declared.commands.Command.TheVariants as command
use Rattle.clr_layer_changes.specs.Changes.{edits_between}
use Rattle.clr_designs.specs.Designs.{IsCommandAnswer}
use Rattle.clr_designs.proofs.LiveLemmas.{live_replaced}
use Rattle.clr_designs.proofs.designs.replace_live.Goals as goal

pub returns-clause-replaced : goal.returns-clause-replaced
returns-clause-replaced c =
    let o = c.args.office.now in
    let content = c.args.content.now in
    let left = c.apply_edits.new.office in
    let edits = c.in_ok-edits.ensures.edits ∙ ap (λ (m : Content). edits_between m content) c.live.ensures.value in
    IfOk-weaker c.apply_edits.result _ _
    (λ refused performed.
    live_replaced o content c.live.ensures.admitted.fit.rows c.requires left refused
    (subst (λ (es : List Edit). IsCommandAnswer o (command.Apply live_name es) refused left) edits performed))
    c.apply_edits.ensures.performed
