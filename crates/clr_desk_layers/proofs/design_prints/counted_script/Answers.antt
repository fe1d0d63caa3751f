use Rattle.std.proofs.Common.{ap, ◌∙◌}
use Rattle.clr_rows.specs.Contents.{Content}
use Rattle.clr_layer_changes.specs.Changes.{edits_between}
use Rattle.clr_desk_layers.specs.Designs.{IsPrintOfScript}
use Rattle.clr_desk_layers.proofs.CountedLemmas.{counts_are_printed}
use Rattle.clr_desk_layers.proofs.design_prints.counted_script.Goals as goal

pub script_unless_removing-requires-clause-edits : goal.script_unless_removing-requires-clause-edits
script_unless_removing-requires-clause-edits c =
    c.as_slice-edits.ensures ∙ c.in_ok-edits.ensures.edits ∙ ap (λ (m : Content). edits_between m c.args.content.now) c.live.ensures.value

pub returns : goal.returns
returns c =
    let o = c.args.office.now in
    let content = c.args.content.now in
    let edits = c.as_slice-edits.ensures ∙ c.in_ok-edits.ensures.edits ∙ ap (λ (m : Content). edits_between m content) c.live.ensures.value in
    counts_are_printed c.args.may_remove o.live (IsPrintOfScript c.args.name.now) o content c.as_slice-edits.result.now edits c.with_counts.result c.in_ok-print.print
    c.in_ok-print.ensures c.with_counts.ensures
