use Rattle.clr_desk_layers.proofs.CountedLemmas.{kept_is_printed, removal_is_printed}
use Rattle.clr_desk_designs.specs.Again.{IsPrintOfChange}
use Rattle.clr_desk_designs.proofs.again_prints.print_unless_removing.Goals as goal

pub returns-in-Some : goal.returns-in-Some
returns-in-Some c =
    let o = c.args.office.now in
    removal_is_printed c.args.may_remove c.args.base.now (IsPrintOfChange c.args.is_script c.args.name.now) o c.args.content.now c.args.edits.now
    c.requires.edits c.removal.result c.removal_in.result c.in-Some.cell c.schema.result.now c.removal_in.ensures c.in-Some.is c.schema.ensures.value
    c.removal.ensures

pub returns-in-None : goal.returns-in-None
returns-in-None c =
    let o = c.args.office.now in
    kept_is_printed c.args.may_remove c.args.base.now (IsPrintOfChange c.args.is_script c.args.name.now) o c.args.content.now c.args.edits.now
    c.requires.edits c.print_of_change.result c.removal_in.result c.removal_in.ensures c.in-None.is c.print_of_change.ensures
