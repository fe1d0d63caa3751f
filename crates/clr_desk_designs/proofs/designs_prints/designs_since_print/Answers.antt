use Rattle.std.proofs.Common.{◌≡◌, ◌∙◌, List, subst, sym}
use Rattle.std.proofs.lemmas.Result.{IfOk-weaker}
use Rattle.clr_rows.specs.Contents.{Content}
use Rattle.clr_rows.specs.Schemas.{FitsSchema}
use Rattle.clr_rows.specs.declared.tables.TableDef.{TableDef}
use Rattle.clr_steps.specs.Offices.{Office}
use Rattle.clr_designs.specs.Designs.{with_live}
use Rattle.clr_layer_changes.specs.Wanted.{united}
use Rattle.clr_desk_layers.specs.Since.{IsFirstOther}
use Rattle.clr_desk_prints.specs.Printing.{printed}
use Rattle.clr_desk_designs.specs.InTurn.{IsDesignsSince, IsPrintOfDesigns, of_other, of_same}
use Rattle.clr_desk_designs.proofs.designs_prints.designs_since_print.Goals as goal

pub returns-in-Some : goal.returns-in-Some
returns-in-Some c =
    let o = c.args.office.now in
    let copied = c.args.copied.now in
    let table = c.in-Some.table.now in
    let one = c.tables.ensures.value ∙ c.schema.ensures.value in
    let two = c.tables-2.ensures.value ∙ c.schema-2.ensures.value in
    let of_texts = subst (λ (ts : List TableDef). IsFirstOther c.tables.result.now ts table) two c.in-Some.ensures.other in
    let other = subst (λ (ts : List TableDef). IsFirstOther ts copied.schema table) one of_texts in
    IfOk-weaker c.other_schema.result _ (λ p. IsDesignsSince c.args.options c.args.may_remove c.args.designs.now o copied (printed p))
    (λ p is. of_other table other is) c.other_schema.ensures

pub print_over-requires-clause-copied : goal.print_over-requires-clause-copied
print_over-requires-clause-copied c =
    let copied = c.args.copied.now in
    let one = c.tables.ensures.value ∙ c.schema.ensures.value in
    let two = c.tables-2.ensures.value ∙ c.schema-2.ensures.value in
    let same : copied.schema ≡ c.args.office.now.schema = sym two ∙ sym c.in-None.ensures.same ∙ one in
    subst (λ (content : Content). FitsSchema c.args.office.now.schema content) (sym c.live.ensures.value)
    (subst (λ (ts : List TableDef). FitsSchema ts copied.live) same c.live.ensures.fit.rows.live)

pub returns-in-None : goal.returns-in-None
returns-in-None c =
    let o = c.args.office.now in
    let copied = c.args.copied.now in
    let one = c.tables.ensures.value ∙ c.schema.ensures.value in
    let two = c.tables-2.ensures.value ∙ c.schema-2.ensures.value in
    let same : copied.schema ≡ o.schema = sym two ∙ sym c.in-None.ensures.same ∙ one in
    IfOk-weaker c.print_over.result _ (λ p. IsDesignsSince c.args.options c.args.may_remove c.args.designs.now o copied (printed p))
    (λ p made. of_same same
    (subst
    (λ (m : Content). IsPrintOfDesigns (united o.live m) c.args.options c.args.may_remove c.args.designs.now (λ (left : Office). with_live left o.live)
    (with_live o m) (printed p))
    c.live.ensures.value made)) c.print_over.ensures
