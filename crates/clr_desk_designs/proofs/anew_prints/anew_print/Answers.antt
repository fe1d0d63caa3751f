use Rattle.std.proofs.Common.{sym, ◌∙◌}
use Rattle.clr_steps.specs.declared.commands.Command.TheVariants.{Remove}
use Rattle.clr_steps.specs.Offices.{Office}
use Rattle.clr_desk_layers.specs.Since.{IsSincePrint}
use Rattle.clr_desk_designs.proofs.AgainLemmas.{elsewhere_is_printed, next_is_printed, refusal_is_printed}
use Rattle.clr_desk_designs.proofs.anew_prints.anew_print.Goals as goal

pub returns-then-elsewhere : goal.returns-then-elsewhere
returns-then-elsewhere c =
    let name = c.args.name.now in
    elsewhere_is_printed (Remove name) name
    (λ (next : Office). IsSincePrint name c.args.options c.args.may_remove c.args.layers.now next c.args.copied.now) c.args.office.now
    c.print_of_elsewhere.result (sym c.is_elsewhere-elsewhere.ensures ∙ c.if-elsewhere.true) c.print_of_elsewhere.ensures

pub returns-in-Some : goal.returns-in-Some
returns-in-Some c =
    let name = c.args.name.now in
    refusal_is_printed (Remove name) name
    (λ (next : Office). IsSincePrint name c.args.options c.args.may_remove c.args.layers.now next c.args.copied.now) c.args.office.now
    c.print_of_refusal.result c.schema.result.now c.in-Some.reply c.in_ok-reply.field-0 c.take_away.new.office
    (sym c.is_elsewhere-elsewhere.ensures ∙ c.if-elsewhere.false) c.in-Some.is c.in_ok-reply.ensures.performed c.schema.ensures.value c.print_of_refusal.ensures

pub returns : goal.returns
returns c =
    let name = c.args.name.now in
    next_is_printed (Remove name) name
    (λ (next : Office). IsSincePrint name c.args.options c.args.may_remove c.args.layers.now next c.args.copied.now) c.args.office.now c.since_print.result
    c.in_ok-reply.field-0 c.take_away.new.office (sym c.is_elsewhere-elsewhere.ensures ∙ c.if-elsewhere.false) c.in_default.is c.in_ok-reply.ensures.performed
    c.since_print.ensures
