use Rattle.std.proofs.Common.{ap, refl, ◌∙◌}
use Rattle.clr_rows.specs.Contents.{Content}
use Rattle.clr_layer_changes.specs.Wanted.{united}
use Rattle.clr_desk_layers.specs.Counted.{IsCounted}
use Rattle.clr_desk_layers.specs.Designs.{IsPrintOfDesign}
use Rattle.clr_desk_layers.proofs.LayerLemmas.{content_is_printed, fault_is_printed}
use Rattle.clr_desk_layers.proofs.since_prints.print_over.Goals as goal

pub returns-in-Ok : goal.returns-in-Ok
returns-in-Ok c =
    let o = c.args.office.now in
    let copied = c.args.copied.now in
    let taken = c.in_ok-taken.ensures ∙ ap (λ (live : Content). united live copied) c.live.ensures.value in
    content_is_printed o copied (united o.live copied) c.args.options c.args.layers.now
    (IsCounted c.args.may_remove copied (IsPrintOfDesign c.args.name.now copied)) c.schema.result.now copied c.in_ok-taken.taken
    c.in_ok-content.field-0 c.schema.ensures.value refl taken c.in_ok-content.ensures.content c.counted_design.result c.in-Ok.content c.in-Ok.is
    c.counted_design.ensures

pub returns : goal.returns
returns c =
    let o = c.args.office.now in
    let copied = c.args.copied.now in
    let taken = c.in_ok-taken.ensures ∙ ap (λ (live : Content). united live copied) c.live.ensures.value in
    fault_is_printed o copied (united o.live copied) c.args.options c.args.layers.now
    (IsCounted c.args.may_remove copied (IsPrintOfDesign c.args.name.now copied)) c.schema.result.now copied c.in_ok-taken.taken
    c.in_ok-content.field-0 c.schema.ensures.value refl taken c.in_ok-content.ensures.content c.print_of_fault.result c.in-Err.faulty c.in-Err.is
    c.print_of_fault.ensures
