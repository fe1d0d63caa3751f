use Rattle.std.proofs.Common.{Option, ap, subst, ◌∙◌}
use Rattle.std.proofs.lemmas.Result.{IfOk-weaker}
use Rattle.clr_steps.specs.declared.commands.Reply.{Reply}
use Rattle.clr_steps.specs.Offices.{Office}
use Rattle.clr_designs.specs.Designs.{IsLiveReplaced}
use Rattle.clr_desk_layers.specs.Designs.{IsOfficeText, of_broken, of_live, refusal_print}
use Rattle.clr_desk_layers.proofs.design_prints.print_of_live.Goals as goal

pub returns-in_ok-dump_text-in-None : goal.returns-in_ok-dump_text-in-None
returns-in_ok-dump_text-in-None c =
    let o = c.args.office.now in
    let left = c.replace_live.new.office in
    let replaced = subst (λ (refused : Option Reply). IsLiveReplaced o c.args.content.now refused left) c.in-None.is c.in_ok-replace_live.ensures.replaced in
    let text = c.in_ok-dump_text-in-None.field-0.items in
    let d = c.in_ok-dump_text-in-None.ensures in
    let read_again : IsOfficeText left text = record { bytes = d.text; again = d.again; admitted = d.admitted } in
    of_live text replaced.0 (subst (λ (next : Office). IsOfficeText next text) replaced.1 read_again) c.of_text.ensures

pub returns-in-Some : goal.returns-in-Some
returns-in-Some c =
    let o = c.args.office.now in
    let left = c.replace_live.new.office in
    let replaced = subst (λ (refused : Option Reply). IsLiveReplaced o c.args.content.now refused left) c.in-Some.is c.in_ok-replace_live.ensures.replaced in
    let schema = c.schema.ensures.value ∙ ap (λ (next : Office). next.schema) replaced.3 in
    IfOk-weaker c.print_of_refusal.result _ _ (λ p is. of_broken replaced.0 replaced.1 (is ∙ (λ i. refusal_print (schema i) (replaced.2 i))))
    c.print_of_refusal.ensures
