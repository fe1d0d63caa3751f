use Rattle.clr_desk_layers.specs.Designs.{IsPrintOfDesign}
use Rattle.clr_desk_layers.proofs.CountedLemmas.{kept_is_printed, removal_is_printed}
use Rattle.clr_desk_layers.proofs.since_prints.design_unless_removing.Goals as goal

pub returns-in-Some : goal.returns-in-Some
returns-in-Some c =
    let o = c.args.office.now in
    removal_is_printed c.args.may_remove c.args.copied.now (IsPrintOfDesign c.args.name.now c.args.copied.now) o c.args.content.now c.args.edits.now c.requires.edits c.removal.result c.removal_in.result
    c.in-Some.cell c.schema.result.now c.removal_in.ensures c.in-Some.is c.schema.ensures.value c.removal.ensures

pub returns-in-None : goal.returns-in-None
returns-in-None c =
    let o = c.args.office.now in
    kept_is_printed c.args.may_remove c.args.copied.now (IsPrintOfDesign c.args.name.now c.args.copied.now) o c.args.content.now c.args.edits.now c.requires.edits c.print_of_design_since.result c.removal_in.result
    c.removal_in.ensures c.in-None.is c.print_of_design_since.ensures
