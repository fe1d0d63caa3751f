use Rattle.std.proofs.Common.{Option, ap, subst, ◌∙◌}
use Rattle.std.proofs.lemmas.Result.{IfOk-weaker}
use Rattle.clr_steps.specs.declared.commands.Reply.{Reply}
use Rattle.clr_steps.specs.Offices.{Office}
use Rattle.clr_designs.specs.Designs.{IsDesignMade}
use Rattle.clr_designs.proofs.SinceLemmas.{since_law}
use Rattle.clr_desk_layers.specs.Designs.{IsOfficeText, of_design, of_refusal, refusal_print}
use Rattle.clr_desk_layers.proofs.since_prints.print_of_design_since.Goals as goal

pub returns-in-Some : goal.returns-in-Some
returns-in-Some c =
    let o = c.args.office.now in
    let left = c.make_design.new.office in
    let made = subst (λ (refused : Option Reply). IsDesignMade o c.args.name.now c.args.content.now refused left) c.in-Some.is
    c.in_ok-reply.ensures.made in
    let schema = c.schema.ensures.value ∙ ap (λ (next : Office). next.schema) made.1 in
    IfOk-weaker c.print_of_refusal.result _ _ (λ p is. of_refusal c.in-Some.reply made.0 (is ∙ ap (λ tables. refusal_print tables c.in-Some.reply) schema))
    c.print_of_refusal.ensures

pub draft_with_design-requires : goal.draft_with_design-requires
draft_with_design-requires c = (c.args.office.now, c.requires.read, c.live-fit.ensures.admitted.fit, c.requires.copied, c.requires.fits)

pub returns : goal.returns
returns c =
    let o = c.args.office.now in
    let name = c.args.name.now in
    let copied = c.args.copied.now in
    let content = c.args.content.now in
    let made = subst (λ (refused : Option Reply). IsDesignMade o name content refused c.make_design.new.office) c.in_default.is c.in_ok-reply.ensures.made in
    let fits = c.live-fit.ensures.admitted.fit.rows in
    let since = since_law o name copied content c.len-sound.ensures.sound fits c.requires.copied c.requires.fits made.0 in
    let office_is = c.in_ok-made.ensures ∙ c.in_ok-draft.ensures o c.requires.read in
    let text = c.in_ok-dump_text.field-0.items in
    let d = c.in_ok-dump_text.ensures in
    let read_again : IsOfficeText c.in_ok-made.made text = record { bytes = d.text; again = d.again; admitted = d.admitted } in
    of_design text made.0 since (subst (λ (next : Office). IsOfficeText next text) office_is read_again) c.of_text.ensures
