-- The content that layers ask for in an office, told of what is read of its parts, and what is printed of it.
use Rattle.std.proofs.Common.{◌≡◌, List, Result, Ok, Err, IfOk, sym, ◌∙◌}
use Rattle.std.proofs.lemmas.Result.{IfOk-weaker}
use Rattle.clr_rows.specs.Contents.{Content}
use Rattle.clr_rows.specs.declared.tables.TableDef.{TableDef}
use Rattle.clr_steps.specs.Offices.{Office}
use Rattle.clr_layer_changes.specs.Wanted.{wanted_over}
use Rattle.clr_layer_changes.specs.declared.faults.FaultyLayer.{FaultyLayer}
use Rattle.clr_layer_changes.specs.declared.options.GivenLayer.{GivenLayer}
use Rattle.clr_layer_changes.specs.declared.options.LayerOptions.{LayerOptions}
use Rattle.clr_desk_prints.specs.declared.prints.Print.{Print}
use Rattle.clr_desk_layers.specs.Designs.{IsPrintOfLayersOver, faulty_layer_printout, of_content, of_fault}
use Rattle.clr_desk_prints.specs.Printing.{PrintoutOrFault, printed}

pub wanted_in : (o : Office) (base taken : Content) (options : LayerOptions) (layers : List GivenLayer) (tables : List TableDef) (read_base read_taken : Content)
    (found want : Result Content FaultyLayer)
    → tables ≡ o.schema → read_base ≡ base → read_taken ≡ taken → found ≡ wanted_over tables read_base read_taken options layers → found ≡ want
    → wanted_over o.schema base taken options layers ≡ want
wanted_in o base taken options layers tables read_base read_taken found want schema is_base is_taken read is =
    sym (read ∙ (λ i. wanted_over (schema i) (is_base i) (is_taken i) options layers)) ∙ is

-- what is printed where the layers are read, and where one has a fault, whatever is to be printed of the content
module _ {E : Type 0} (o : Office) (base taken : Content) (options : LayerOptions) (layers : List GivenLayer)
    (IsPrint : Office → Content → PrintoutOrFault → Type 0) (tables : List TableDef) (read_base read_taken : Content) (found : Result Content FaultyLayer)
    (schema : tables ≡ o.schema) (is_base : read_base ≡ base) (is_taken : read_taken ≡ taken)
    (read : found ≡ wanted_over tables read_base read_taken options layers) (result : Result Print E) where
  pub content_is_printed : (content : Content) → found ≡ Ok content → IfOk result (λ p. IsPrint o content (printed p))
      → IfOk result (λ p. IsPrintOfLayersOver base taken options layers IsPrint o (printed p))
  content_is_printed content is made =
      let want = wanted_in o base taken options layers tables read_base read_taken found (Ok content) schema is_base is_taken read is in
      IfOk-weaker result (λ p. IsPrint o content (printed p)) (λ p. IsPrintOfLayersOver base taken options layers IsPrint o (printed p))
      (λ p h. of_content content want h) made

  pub fault_is_printed : (faulty : FaultyLayer) → found ≡ Err faulty → IfOk result (λ p. printed p ≡ faulty_layer_printout layers faulty)
      → IfOk result (λ p. IsPrintOfLayersOver base taken options layers IsPrint o (printed p))
  fault_is_printed faulty is made =
      let want = wanted_in o base taken options layers tables read_base read_taken found (Err faulty) schema is_base is_taken read is in
      IfOk-weaker result (λ p. printed p ≡ faulty_layer_printout layers faulty) (λ p. IsPrintOfLayersOver base taken options layers IsPrint o (printed p))
      (λ p h. of_fault faulty want h) made
