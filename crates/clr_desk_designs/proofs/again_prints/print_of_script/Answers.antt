use Rattle.std.proofs.Common.{Option, ap, subst, ◌∙◌}
use Rattle.std.proofs.lemmas.Result.{IfOk-weaker}
use Rattle.clr_rows.specs.Contents.{Content}
use Rattle.clr_steps.specs.declared.commands.Reply.{Reply}
use Rattle.clr_steps.specs.Offices.{Office}
use Rattle.clr_steps.proofs.FitLemmas.{fits_content_of}
use Rattle.clr_layer_changes.specs.Changes.{edits_between}
use Rattle.clr_designs.specs.Again.{IsContentSet}
use Rattle.clr_desk_layers.specs.Designs.{refusal_print}
use Rattle.clr_desk_designs.specs.Again.{of_script, of_unset_script}
use Rattle.clr_desk_designs.proofs.AgainLemmas.{same_schema, script_is}
use Rattle.clr_desk_designs.proofs.again_prints.print_of_script.Goals as goal

pub returns-in-Some : goal.returns-in-Some
returns-in-Some c =
    let o = c.args.office.now in
    let left = c.set_content.new.office in
    let set = subst (λ (refused : Option Reply). IsContentSet o c.args.name.now c.args.content.now refused left) c.in-Some.is c.in_ok-reply.ensures.set in
    let schema = c.schema.ensures.value ∙ ap (λ (next : Office). next.schema) set.1 in
    IfOk-weaker c.print_of_refusal.result _ _
    (λ p is. of_unset_script c.in-Some.reply set.0 (is ∙ ap (λ tables. refusal_print tables c.in-Some.reply) schema)) c.print_of_refusal.ensures

pub returns : goal.returns
returns c =
    let o = c.args.office.now in
    let name = c.args.name.now in
    let content = c.args.content.now in
    let left = c.set_content.new.office in
    let set = subst (λ (refused : Option Reply). IsContentSet o name content refused left) c.in_default.is c.in_ok-reply.ensures.set in
    let schema = c.schema-2.ensures.value ∙ ap (λ (next : Office). next.schema) set.1 ∙ same_schema o name content in
    let edits = c.as_slice.ensures ∙ c.in_ok-edits.ensures.edits ∙ ap (λ (m : Content). edits_between m content) c.requires.seen in
    let fits = fits_content_of o c.live-fit.ensures.admitted.fit.rows name in
    let text = c.in_ok-text.text.items in
    let script =
    script_is o name content c.schema-2.result.now c.as_slice.result.now text schema edits c.in_ok-text.ensures.written c.in_ok-text.ensures.read_back fits
    c.requires.fits in
    of_script text set.0 script c.of_text.ensures
