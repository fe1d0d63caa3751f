use Rattle.std.proofs.Common.{◌∙◌}
use Rattle.clr_desk_layers.proofs.CountedLemmas.{counts_are_printed}
use Rattle.clr_desk_designs.specs.Again.{IsPrintOfChange}
use Rattle.clr_desk_designs.proofs.again_prints.counted_print.Goals as goal

pub print_unless_removing-requires-clause-edits : goal.print_unless_removing-requires-clause-edits
print_unless_removing-requires-clause-edits c = c.as_slice-edits.ensures ∙ c.in_ok-edits.ensures.edits

pub returns : goal.returns
returns c =
    let o = c.args.office.now in
    let edits = c.as_slice-edits.ensures ∙ c.in_ok-edits.ensures.edits in
    counts_are_printed c.args.may_remove c.args.base.now (IsPrintOfChange c.args.is_script c.args.name.now) o c.args.content.now c.as_slice-edits.result.now
    edits c.with_counts.result c.in_ok-print.print c.in_ok-print.ensures c.with_counts.ensures
