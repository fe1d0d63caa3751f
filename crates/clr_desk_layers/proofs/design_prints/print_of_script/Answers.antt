use Rattle.std.proofs.Common.{Option, ap, subst, ◌∙◌}
use Rattle.std.proofs.lemmas.Result.{IfOk-weaker}
use Rattle.clr_rows.specs.Contents.{Content}
use Rattle.clr_rows.specs.Schemas.{FitsSchema}
use Rattle.clr_steps.specs.declared.commands.Reply.{Reply}
use Rattle.clr_steps.specs.Offices.{Office}
use Rattle.clr_layer_changes.specs.Changes.{edits_between}
use Rattle.clr_designs.specs.Designs.{AreDone, IsDesignMade}
use Rattle.clr_desk_layers.specs.Designs.{of_refused_script, of_script, refusal_print}
use Rattle.clr_desk_layers.proofs.ScriptLemmas.{script_is}
use Rattle.clr_desk_layers.proofs.design_prints.print_of_script.Goals as goal

pub returns-in-Some : goal.returns-in-Some
returns-in-Some c =
    let o = c.args.office.now in
    let left = c.make_design.new.office in
    let made = subst (λ (refused : Option Reply). IsDesignMade o c.args.name.now c.args.content.now refused left) c.in-Some.is c.in_ok-reply.ensures.made in
    let schema = c.schema.ensures.value ∙ ap (λ (next : Office). next.schema) made.1 in
    IfOk-weaker c.print_of_refusal.result _ _
    (λ p is. of_refused_script c.in-Some.reply made.0 (is ∙ ap (λ tables. refusal_print tables c.in-Some.reply) schema)) c.print_of_refusal.ensures

pub returns : goal.returns
returns c =
    let o = c.args.office.now in
    let name = c.args.name.now in
    let content = c.args.content.now in
    let left = c.make_design.new.office in
    let made = subst (λ (refused : Option Reply). IsDesignMade o name content refused left) c.in_default.is c.in_ok-reply.ensures.made in
    let schema = c.schema-2.ensures.value ∙ ap (λ (next : Office). next.schema) made.2 in
    let live = c.live.ensures.value ∙ ap (λ (next : Office). next.live) made.2 in
    let edits = c.as_slice.ensures ∙ c.in_ok-edits.ensures.edits ∙ ap (λ (m : Content). edits_between m content) live in
    let live_fits = subst (λ (next : Office). FitsSchema next.schema next.live) made.2 c.live.ensures.admitted.fit.rows.live in
    let text = c.in_ok-text.text.items in
    let script =
    script_is o name content c.schema-2.result.now c.as_slice.result.now text schema edits c.in_ok-text.ensures.written c.in_ok-text.ensures.read_back live_fits
    c.requires
    (subst (AreDone o name content) made.2 made.1) in
    of_script text made.0 script c.of_text.ensures
