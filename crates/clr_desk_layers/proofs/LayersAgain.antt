-- Layers that are printed of LIVE ask for LIVE's own content.
use Rattle.std.proofs.Common.{◌≡◌, ◌∙◌, ℕ, Bool, List, [], Some, Result, Ok, Err, ap, get_or, refl, subst, sym}
use Rattle.std.specs.List.{All}
use Rattle.clr_rows.specs.Contents.{Content}
use Rattle.clr_rows.specs.Names.{live_name}
use Rattle.clr_workspaces.specs.Marks.{Name}
use Rattle.clr_steps.specs.Names.{is_live}
use Rattle.clr_steps.specs.Offices.{Office, content_of}
use Rattle.clr_layer_changes.specs.ReadBack.{IsLayerOf}
use Rattle.clr_layer_changes.specs.Wanted.{united, wanted}
use Rattle.clr_layer_changes.specs.declared.faults.FaultyLayer.{FaultyLayer}
use Rattle.clr_layer_changes.specs.declared.options.GivenLayer.{GivenLayer}
use Rattle.clr_layer_changes.specs.declared.options.LayerOptions.{LayerOptions}
use Rattle.clr_layer_changes.proofs.LayersAgain.{layers_of_live as same_content}
use Rattle.clr_layer_changes.proofs.UnitedLemmas.{united_itself}
use Rattle.clr_layer_text.specs.TableRows.{IsTableLayer}
use Rattle.clr_desk_layers.specs.Designs.{IsDesignPrintOver, IsPrintOfDesign, IsPrintOfLayers, IsPrintOfLive, IsPrintOfScript, of_content, of_fault, text_print}
use Rattle.clr_desk_layers.specs.Layers.{IsPrintOfTable, no_workspace_word, of_layer, of_no_table, of_no_workspace, of_table}
use Rattle.clr_desk_layers.specs.Layers.{of_wkt_column, unfit_print, unknown_print, wkt_column_word}
use Rattle.clr_layer_faults.specs.UnfitLines.{no_table_word}
use Rattle.clr_desk_prints.specs.Printing.{PrintoutOrFault}
use Rattle.clr_desk_layers.specs.Counted.{IsCounted}
use Rattle.clr_desk_layers.specs.ReadBack.{IsPrintedOfLive, PrintedLayersLaw, SameBaseLaw}
use Rattle.clr_desk_layers.specs.Since.{IsFirstOther, IsSincePrint, of_other, of_same}

status_in : PrintoutOrFault → ℕ
status_in (Ok print) = print.status
status_in (Err e) = 0

text_in : PrintoutOrFault → List ℕ
text_in (Ok print) = print.text
text_in (Err e) = []

live_content : (o : Office) → content_of o live_name ≡ o.live
unfolding content_of is_live
live_content o = refl

-- a text is no refusal
not_refused : (text why : List ℕ) (name : Name) → text_print text ≡ unfit_print why name → ⊥
unfolding status_in
not_refused text why name e = let one : ◌≡◌ {A = ℕ} 0 1 = ap status_in e in cc

not_unknown : (text why : List ℕ) (name : Name) → text_print text ≡ unknown_print why name → ⊥
unfolding status_in
not_unknown text why name e = let five : ◌≡◌ {A = ℕ} 0 5 = ap status_in e in cc

same_text : (text other : List ℕ) → text_print text ≡ text_print other → text ≡ other
unfolding text_in
same_text text other e = ap text_in e

-- a printed layer is the layer of LIVE's rows
layer_of_live : (o : Office) (layer : GivenLayer) → IsPrintedOfLive o layer → IsLayerOf o.schema o.live layer
layer_of_live o layer (of_table at named there of_rows) = (at, named, by of_rows)
  where
    by : IsPrintOfTable o.schema at layer.table (content_of o live_name) (text_print layer.text.items) → IsTableLayer o.schema at o.live (Some layer.text.items)
    by (of_layer text is e) = subst (λ (t : List ℕ). IsTableLayer o.schema at o.live (Some t)) (sym (same_text layer.text.items text e))
        (subst (λ (content : Content). IsTableLayer o.schema at content (Some text)) (live_content o) is)
    by (of_wkt_column is e) = absurd (not_refused layer.text.items wkt_column_word layer.table e)
layer_of_live o layer (of_no_table none e) = absurd (not_unknown layer.text.items no_table_word layer.table e)
layer_of_live o layer (of_no_workspace at named none e) = absurd (not_refused layer.text.items no_workspace_word live_name e)

-- what is printed of layers that ask for LIVE's content
module _ (options : LayerOptions) (layers : List GivenLayer) (o : Office) (same : wanted o.schema o.live options layers ≡ Ok o.live)
    (IsPrint : Office → Content → PrintoutOrFault → Type 0) where
  ok_is : (a b : Content) → ◌≡◌ {A = Result Content FaultyLayer} (Ok a) (Ok b) → a ≡ b
  ok_is a b e = cc

  not_both : (content : Content) (faulty : FaultyLayer) → ◌≡◌ {A = Result Content FaultyLayer} (Ok content) (Err faulty) → ⊥
  not_both content faulty e = cc

  print_of_live : (print : PrintoutOrFault) → IsPrintOfLayers options layers IsPrint o print → IsPrint o o.live print
  print_of_live print (of_content content is h) = subst (λ (seen : Content). IsPrint o seen print) (ok_is content o.live (sym is ∙ same)) h
  print_of_live print (of_fault faulty is e) = absurd (not_both o.live faulty (sym same ∙ is))

pub printed_layers : PrintedLayersLaw
printed_layers o name options may_remove layers given others =
    let each : All (IsLayerOf o.schema o.live) layers = λ k d less. layer_of_live o (get_or layers k d) (given k d less) in
    let both = same_content o.schema o.live options layers each others in
    record {
      design = print_of_live options layers o both.0 (IsCounted may_remove o.live (IsPrintOfDesign name o.live));
      script = print_of_live options layers o both.0 (IsCounted may_remove o.live (IsPrintOfScript name));
      office = print_of_live options layers o both.0 IsPrintOfLive;
      no_edit = both.1;
    }

pub same_base : SameBaseLaw
same_base o name options may_remove layers print (of_same schema made) =
    subst (λ (taken : Content). IsDesignPrintOver o.live taken name options may_remove layers o print) (united_itself o.live) made
same_base o name options may_remove layers print (of_other table other is) = absurd (other.other refl)
