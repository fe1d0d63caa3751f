use Rattle.std.proofs.Common.{sym, ◌∙◌}
use Rattle.clr_steps.specs.declared.commands.Command.TheVariants.{RollAll}
use Rattle.clr_desk_designs.specs.Again.{IsPrintOverBase}
use Rattle.clr_desk_designs.proofs.AgainLemmas.{elsewhere_is_printed, next_is_printed, refusal_is_printed}
use Rattle.clr_desk_designs.proofs.again_prints.again_print.Goals as goal

pub returns-then-elsewhere : goal.returns-then-elsewhere
returns-then-elsewhere c =
    let name = c.args.name.now in
    elsewhere_is_printed (RollAll name) name (IsPrintOverBase c.args.is_script name c.args.options c.args.may_remove c.args.layers.now) c.args.office.now
    c.print_of_elsewhere.result (sym c.is_elsewhere-elsewhere.ensures ∙ c.if-elsewhere.true) c.print_of_elsewhere.ensures

pub returns-in-Some : goal.returns-in-Some
returns-in-Some c =
    let name = c.args.name.now in
    refusal_is_printed (RollAll name) name (IsPrintOverBase c.args.is_script name c.args.options c.args.may_remove c.args.layers.now) c.args.office.now
    c.print_of_refusal.result c.schema.result.now c.in-Some.reply c.in_ok-reply.field-0 c.roll_back.new.office
    (sym c.is_elsewhere-elsewhere.ensures ∙ c.if-elsewhere.false) c.in-Some.is c.in_ok-reply.ensures.performed c.schema.ensures.value c.print_of_refusal.ensures

pub returns : goal.returns
returns c =
    let name = c.args.name.now in
    next_is_printed (RollAll name) name (IsPrintOverBase c.args.is_script name c.args.options c.args.may_remove c.args.layers.now) c.args.office.now
    c.print_over_base.result c.in_ok-reply.field-0 c.roll_back.new.office (sym c.is_elsewhere-elsewhere.ensures ∙ c.if-elsewhere.false) c.in_default.is
    c.in_ok-reply.ensures.performed c.print_over_base.ensures
