use Rattle.std.proofs.Common.{ap, ◌∙◌}
use Rattle.clr_rows.specs.Contents.{Content}
use Rattle.clr_layer_changes.specs.Changes.{edits_between}
use Rattle.clr_desk_layers.specs.Designs.{IsPrintOfDesign}
use Rattle.clr_desk_layers.proofs.CountedLemmas.{counts_are_printed}
use Rattle.clr_desk_layers.proofs.since_prints.counted_design.Goals as goal

pub design_unless_removing-requires-clause-edits : goal.design_unless_removing-requires-clause-edits
design_unless_removing-requires-clause-edits c = c.as_slice-edits.ensures ∙ c.in_ok-edits.ensures.edits

pub returns : goal.returns
returns c =
    let o = c.args.office.now in
    let content = c.args.content.now in
    let edits = c.as_slice-edits.ensures ∙ c.in_ok-edits.ensures.edits in
    counts_are_printed c.args.may_remove c.args.copied.now (IsPrintOfDesign c.args.name.now c.args.copied.now) o content c.as_slice-edits.result.now edits c.with_counts.result c.in_ok-print.print
    c.in_ok-print.ensures c.with_counts.ensures
