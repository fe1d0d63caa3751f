use Rattle.std.proofs.Common.{Option, ap, subst, ◌∙◌}
use Rattle.std.proofs.lemmas.Result.{IfOk-weaker}
use Rattle.clr_steps.specs.declared.commands.Reply.{Reply}
use Rattle.clr_steps.specs.Offices.{Office}
use Rattle.clr_designs.specs.Again.{IsContentSet}
use Rattle.clr_desk_layers.specs.Designs.{IsOfficeText, refusal_print}
use Rattle.clr_desk_designs.specs.Again.{of_set, of_unset}
use Rattle.clr_desk_designs.proofs.again_prints.print_of_content.Goals as goal

pub returns-in_ok-dump_text-in-None : goal.returns-in_ok-dump_text-in-None
returns-in_ok-dump_text-in-None c =
    let o = c.args.office.now in
    let left = c.set_content.new.office in
    let set = subst (λ (refused : Option Reply). IsContentSet o c.args.name.now c.args.content.now refused left) c.in-None.is
    c.in_ok-set_content.ensures.set in
    let text = c.in_ok-dump_text-in-None.field-0.items in
    let d = c.in_ok-dump_text-in-None.ensures in
    let read_again : IsOfficeText left text = record { bytes = d.text; again = d.again; admitted = d.admitted } in
    of_set text set.0 (subst (λ (next : Office). IsOfficeText next text) set.1 read_again) c.of_text.ensures

pub returns-in-Some : goal.returns-in-Some
returns-in-Some c =
    let o = c.args.office.now in
    let left = c.set_content.new.office in
    let set = subst (λ (refused : Option Reply). IsContentSet o c.args.name.now c.args.content.now refused left) c.in-Some.is
    c.in_ok-set_content.ensures.set in
    let schema = c.schema.ensures.value ∙ ap (λ (next : Office). next.schema) set.1 in
    IfOk-weaker c.print_of_refusal.result _ _ (λ p is. of_unset c.in-Some.reply set.0 (is ∙ ap (λ tables. refusal_print tables c.in-Some.reply) schema))
    c.print_of_refusal.ensures
