use Rattle.std.proofs.Common.{List, Option, inr, subst, ◌∙◌}
use Rattle.std.proofs.lemmas.Result.{IfOk-weaker, on_err_weaker}
use Rattle.clr_rows.specs.Names.{live_name}
use Rattle.clr_change.specs.declared.edits.Edit.{Edit}
use Rattle.clr_steps.specs.declared.commands.Command.TheVariants as command
use Rattle.clr_steps.specs.declared.commands.Reply.{Reply}
use Rattle.clr_designs.specs.Designs.{IsCommandAnswer}
use Rattle.clr_designs.proofs.DesignLemmas.{creates, edits_apply}
use Rattle.clr_designs.proofs.designs.make_edited_design.Goals as goal

pub returns-clause-made : goal.returns-clause-made
returns-clause-made c =
    let o = c.args.office.now in
    let name = c.args.name.now in
    let mid = c.create_workspace.new.office in
    let left = c.apply_edits.new.office in
    let sound = c.len-sound.ensures.sound in
    let done = subst (λ (r : Option Reply). IsCommandAnswer o (command.Create name live_name) r mid) c.in_default.is c.in_ok-reply.ensures.performed in
    let start = creates o name mid sound done in
    IfOk-weaker c.apply_edits.result _ _
    (λ refused performed content fits edits.
    edits_apply o name start.0 content sound c.live-admitted.ensures.admitted.fit.rows fits mid left refused start.1
    (subst (λ (es : List Edit). IsCommandAnswer mid (command.Apply name es) refused left) edits performed))
    c.apply_edits.ensures.performed

pub returns-clause-err : goal.returns-clause-err
returns-clause-err c =
    let o = c.args.office.now in
    let name = c.args.name.now in
    let mid = c.create_workspace.new.office in
    let done = subst (λ (r : Option Reply). IsCommandAnswer o (command.Create name live_name) r mid) c.in_default.is c.in_ok-reply.ensures.performed in
    let start = creates o name mid c.len-sound.ensures.sound done in
    on_err_weaker c.apply_edits.result (λ same. inr (same ∙ start.1)) c.apply_edits.ensures.err
