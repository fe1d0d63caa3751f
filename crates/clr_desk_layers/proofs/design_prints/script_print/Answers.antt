use Rattle.clr_desk_layers.specs.Counted.{IsCounted}
use Rattle.clr_desk_layers.specs.Designs.{IsPrintOfScript}
use Rattle.clr_desk_layers.proofs.LayerLemmas.{content_is_printed, fault_is_printed}
use Rattle.clr_desk_layers.proofs.design_prints.script_print.Goals as goal

pub returns-in-Ok : goal.returns-in-Ok
returns-in-Ok c =
    let o = c.args.office.now in
    content_is_printed o o.live o.live c.args.options c.args.layers.now (IsCounted c.args.may_remove o.live (IsPrintOfScript c.args.name.now)) c.schema.result.now c.live-live.result.now c.live-live.result.now
    c.in_ok-content.field-0 c.schema.ensures.value c.live-live.ensures.value c.live-live.ensures.value c.in_ok-content.ensures.content c.counted_script.result
    c.in-Ok.content c.in-Ok.is c.counted_script.ensures

pub returns-in-Err : goal.returns-in-Err
returns-in-Err c =
    let o = c.args.office.now in
    fault_is_printed o o.live o.live c.args.options c.args.layers.now (IsCounted c.args.may_remove o.live (IsPrintOfScript c.args.name.now)) c.schema.result.now c.live-live.result.now c.live-live.result.now
    c.in_ok-content.field-0 c.schema.ensures.value c.live-live.ensures.value c.live-live.ensures.value c.in_ok-content.ensures.content c.print_of_fault.result
    c.in-Err.faulty c.in-Err.is c.print_of_fault.ensures
