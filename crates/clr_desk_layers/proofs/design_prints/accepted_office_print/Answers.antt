use Rattle.clr_desk_layers.specs.Designs.{IsPrintOfAccepted}
use Rattle.clr_desk_layers.proofs.LayerLemmas.{content_is_printed, fault_is_printed}
use Rattle.clr_desk_layers.proofs.design_prints.accepted_office_print.Goals as goal

pub returns-in-Ok : goal.returns-in-Ok
returns-in-Ok c =
    let o = c.args.draft.now in
    content_is_printed o o.live o.live c.args.options c.args.layers.now IsPrintOfAccepted c.schema.result.now c.live-live.result.now c.live-live.result.now
    c.in_ok-content.field-0 c.schema.ensures.value c.live-live.ensures.value c.live-live.ensures.value c.in_ok-content.ensures.content c.print_of_accepted.result
    c.in-Ok.content c.in-Ok.is c.print_of_accepted.ensures

pub returns-in-Err : goal.returns-in-Err
returns-in-Err c =
    let o = c.args.draft.now in
    fault_is_printed o o.live o.live c.args.options c.args.layers.now IsPrintOfAccepted c.schema.result.now c.live-live.result.now c.live-live.result.now
    c.in_ok-content.field-0 c.schema.ensures.value c.live-live.ensures.value c.live-live.ensures.value c.in_ok-content.ensures.content c.print_of_fault.result
    c.in-Err.faulty c.in-Err.is c.print_of_fault.ensures
