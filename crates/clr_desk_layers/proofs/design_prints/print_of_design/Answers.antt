use Rattle.std.proofs.Common.{Option, ap, subst, ◌∙◌}
use Rattle.std.proofs.lemmas.Result.{IfOk-weaker}
use Rattle.clr_steps.specs.declared.commands.Reply.{Reply}
use Rattle.clr_steps.specs.Offices.{Office}
use Rattle.clr_designs.specs.Designs.{IsDesignMade}
use Rattle.clr_designs.proofs.SinceLemmas.{since_law}
use Rattle.clr_desk_layers.specs.Designs.{IsOfficeText, of_design, of_refusal, refusal_print}
use Rattle.clr_desk_layers.proofs.design_prints.print_of_design.Goals as goal

pub returns-in_ok-dump_text-in-None : goal.returns-in_ok-dump_text-in-None
returns-in_ok-dump_text-in-None c =
    let o = c.args.office.now in
    let name = c.args.name.now in
    let content = c.args.content.now in
    let left = c.make_design.new.office in
    let made = subst (λ (refused : Option Reply). IsDesignMade o name content refused left) c.in-None.is c.in_ok-make_design.ensures.made in
    let fits = c.live-fit.ensures.admitted.fit.rows in
    let since = since_law o name o.live content c.len-sound.ensures.sound fits fits.live c.requires made.0 in
    let text = c.in_ok-dump_text-in-None.field-0.items in
    let d = c.in_ok-dump_text-in-None.ensures in
    let read_again : IsOfficeText left text = record { bytes = d.text; again = d.again; admitted = d.admitted } in
    of_design text made.0 since (subst (λ (next : Office). IsOfficeText next text) made.2 read_again) c.of_text.ensures

pub returns-in-Some : goal.returns-in-Some
returns-in-Some c =
    let o = c.args.office.now in
    let left = c.make_design.new.office in
    let made = subst (λ (refused : Option Reply). IsDesignMade o c.args.name.now c.args.content.now refused left) c.in-Some.is
    c.in_ok-make_design.ensures.made in
    let schema = c.schema.ensures.value ∙ ap (λ (next : Office). next.schema) made.1 in
    IfOk-weaker c.print_of_refusal.result _ _ (λ p is. of_refusal c.in-Some.reply made.0 (is ∙ ap (λ tables. refusal_print tables c.in-Some.reply) schema))
    c.print_of_refusal.ensures
