use Rattle.std.proofs.Common.{List, Result, IfOk, subst, sym, ◌∙◌}
use Rattle.std.proofs.lemmas.Result.{IfOk-weaker}
use Rattle.clr_rows.specs.Contents.{Content}
use Rattle.clr_rows.specs.Schemas.{FitsSchema}
use Rattle.clr_rows.specs.declared.tables.TableDef.{TableDef}
use Rattle.clr_steps.specs.Offices.{content_of, stands}
use Rattle.clr_steps.proofs.FitLemmas.{fits_content_of}
use Rattle.clr_layer_changes.specs.Wanted.{united}
use Rattle.clr_layer_changes.specs.declared.faults.FaultyLayer.{FaultyLayer}
use Rattle.clr_desk_layers.specs.Counted.{IsCounted}
use Rattle.clr_desk_layers.proofs.LayerLemmas.{content_is_printed, fault_is_printed}
use Rattle.clr_desk_prints.specs.Printing.{printed}
use Rattle.clr_desk_designs.specs.Again.{IsPrintOfChange}
use Rattle.clr_desk_designs.proofs.AgainLemmas.{given_content}
use Rattle.clr_desk_designs.proofs.again_prints.print_over_base.Goals as goal

pub counted_print-requires-clause-seen : goal.counted_print-requires-clause-seen
counted_print-requires-clause-seen c =
    let o = c.args.office.now in
    let name = c.args.name.now in
    given_content (stands o name) c.in-Some.base (content_of o name) (sym c.in-Some.is ∙ c.in_ok-base.ensures)

pub counted_print-requires-clause-fits : goal.counted_print-requires-clause-fits
counted_print-requires-clause-fits c =
    let o = c.args.office.now in
    let name = c.args.name.now in
    let base = given_content (stands o name) c.in-Some.base (content_of o name) (sym c.in-Some.is ∙ c.in_ok-base.ensures) in
    let fits = subst (FitsSchema o.schema) (sym base) (fits_content_of o c.live.ensures.admitted.fit.rows name) in
    let found = c.in_ok-content.ensures.fit (subst (λ (ts : List TableDef). FitsSchema ts c.in-Some.base) (sym c.schema.ensures.value) fits) in
    let here = subst (λ (r : Result Content FaultyLayer). IfOk r (FitsSchema c.schema.result.now)) c.in-Ok.is found in
    subst (λ (ts : List TableDef). FitsSchema ts c.in-Ok.content) c.schema.ensures.value here

pub returns-in-Ok : goal.returns-in-Ok
returns-in-Ok c =
    let o = c.args.office.now in
    let name = c.args.name.now in
    let seen = content_of o name in
    let base = given_content (stands o name) c.in-Some.base seen (sym c.in-Some.is ∙ c.in_ok-base.ensures) in
    let taken = c.in_ok-taken.ensures ∙ (λ i. united (c.live.ensures.value i) (base i)) in
    let P = IsPrintOfChange c.args.is_script name in
    content_is_printed o seen (united o.live seen) c.args.options c.args.layers.now (IsCounted c.args.may_remove seen P) c.schema.result.now c.in-Some.base
    c.in_ok-taken.taken c.in_ok-content.field-0 c.schema.ensures.value base taken c.in_ok-content.ensures.content c.counted_print.result
    c.in-Ok.content c.in-Ok.is
    (IfOk-weaker c.counted_print.result _ (λ p. IsCounted c.args.may_remove seen P o c.in-Ok.content (printed p))
    (λ p h. subst (λ (m : Content). IsCounted c.args.may_remove m P o c.in-Ok.content (printed p)) base h) c.counted_print.ensures)

pub returns : goal.returns
returns c =
    let o = c.args.office.now in
    let name = c.args.name.now in
    let seen = content_of o name in
    let base = given_content (stands o name) c.in-Some.base seen (sym c.in-Some.is ∙ c.in_ok-base.ensures) in
    let taken = c.in_ok-taken.ensures ∙ (λ i. united (c.live.ensures.value i) (base i)) in
    fault_is_printed o seen (united o.live seen) c.args.options c.args.layers.now
    (IsCounted c.args.may_remove seen (IsPrintOfChange c.args.is_script name)) c.schema.result.now c.in-Some.base c.in_ok-taken.taken
    c.in_ok-content.field-0 c.schema.ensures.value base taken c.in_ok-content.ensures.content c.print_of_fault.result c.in-Err.faulty
    c.in-Err.is c.print_of_fault.ensures
