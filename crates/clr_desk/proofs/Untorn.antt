-- No text and no certificate has a failed write as its fault.
use Rattle.std.proofs.Common.{◌≡◌, ℕ, Bool, true, false, List, [], ◌∷◌, Err, Ok, Result, rules, subst, sym}
use Rattle.clr_process_io.specs.declared.faults.RunFault.{RunFault}
use Rattle.clr_process_io.specs.declared.faults.RunFault.TheVariants as run_fault
use Rattle.clr_desk_command_line.specs.declared.asks.DeskAsk.{DeskAsk}
use Rattle.clr_desk_command_line.specs.declared.asks.DeskAsk.TheVariants as ask
use Rattle.clr_desk_command_line.specs.declared.asks.OrderAsk.TheVariants as order
use Rattle.clr_desk_command_line.specs.declared.asks.GeographicAsk.{GeographicAsk}
use Rattle.clr_desk_command_line.specs.declared.asks.GeographicAsk.TheVariants as geographic
use Rattle.clr_desk_command_line.specs.declared.asks.DatabaseAsk.TheVariants as database
use Rattle.clr_desk_command_line.specs.declared.asks.LayersAsk.{LayersAsk}
use Rattle.clr_layer_changes.specs.declared.options.GivenLayer.{GivenLayer}
use Rattle.clr_design_folders.specs.declared.layered_designs.LayeredDesign.{LayeredDesign}
use Rattle.clr_desk_prints.specs.Printing.{IsPrintoutFault, PrintoutOrFault}
use Rattle.clr_steps.specs.Offices.{Office}
use Rattle.clr_office_texts.specs.Drafts.{draft_in, opened_in}
use Rattle.clr_rule_text.specs.declared.faults.TextFault.{TextFault}
use Rattle.clr_desk.specs.Answers.{IsDeskAnswer, IsDeskAnswerWithin, Sinks}
use Rattle.clr_check.specs.Cases.{case_of}
use Rattle.clr_cut_texts.specs.Marks.{is_cut_text}
use Rattle.clr_desk.specs.CutMarks.{IsMarkedAlike, IsNotedCut, with_cut_note, with_mark}
use Rattle.clr_desk.specs.Geographic.{IsGeographicAnswer, IsPrintIf, cut_word, design_options, first_table, folder_options, may_remove_over, options_of}
use Rattle.clr_desk_faults.specs.LayerWhys.{IsLayersWhyOver}
use Rattle.clr_desk_merges.specs.Merges.{IsHintedMerge}
use Rattle.clr_desk_designs.specs.Again.{IsAgainPrint, IsDesignAnewPrint}
use Rattle.clr_desk_designs.specs.InTurn.{IsDesignsPrint, IsDesignsSincePrint}
use Rattle.clr_desk_errors.specs.Accepting.{IsAcceptPrint, IsPrintoutOfDraft}
use Rattle.clr_desk_layers.specs.Designs.{IsAcceptedOfficePrint, IsDesignPrint, IsOfficePrint}
use Rattle.clr_desk_layers.specs.Layers.{IsLayerPrint, unfit_print}
use Rattle.clr_desk_layers.specs.Since.{IsDesignSincePrint}
use Rattle.clr_desk_prints.specs.NameHints.{IsHinted}
use Rattle.clr_desk_prints.specs.Printing.{IsPrintoutIn, IsPrintoutOfCase}

-- a failed write isn't what a mark or a note makes of something else
unmarked : (is_of_cut : Bool) (bare : PrintoutOrFault) → Err run_fault.WriteFailed ≡ with_mark is_of_cut bare → bare ≡ Err run_fault.WriteFailed
unmarked true (Ok print) is = absurd cc
unmarked false (Ok print) is = absurd cc
unmarked true (Err e) is = sym is
unmarked false (Err e) is = sym is

unnoted : (is_of_cut : Bool) (bare : PrintoutOrFault) → Err run_fault.WriteFailed ≡ with_cut_note is_of_cut bare → bare ≡ Err run_fault.WriteFailed
unnoted true (Ok print) is = absurd cc
unnoted true (Err e) is = sym is
unnoted false bare is = sym is

untorn_marked : (P : PrintoutOrFault → Type 0) (text : List ℕ) → (P (Err run_fault.WriteFailed) → ⊥) → IsMarkedAlike P text (Err run_fault.WriteFailed) → ⊥
untorn_marked P text never (bare, made, is) = never (subst P (unmarked (is_cut_text text) bare is) made)

untorn_noted : (P : PrintoutOrFault → Type 0) (text : List ℕ) → (P (Err run_fault.WriteFailed) → ⊥) → IsNotedCut P text (Err run_fault.WriteFailed) → ⊥
untorn_noted P text never (bare, made, is) = never (subst P (unnoted (is_cut_text text) bare is) made)

untorn_unless : (is_of_cut : Bool) (P : PrintoutOrFault → Type 0) (name : List ℕ) → (P (Err run_fault.WriteFailed) → ⊥)
    → IsPrintIf is_of_cut (Err run_fault.WriteFailed ≡ unfit_print cut_word name) (P (Err run_fault.WriteFailed)) → ⊥
untorn_unless true P name never is = absurd cc
untorn_unless false P name never made = never made

-- what is printed of layers that are asked about is never a failed write
untorn_layers : (asked : LayersAsk) (office : List ℕ) (layers : List GivenLayer) (read : Result Office TextFault)
    → IsLayersWhyOver asked office layers (Err run_fault.WriteFailed) read → ⊥
untorn_layers asked office layers (Ok o) h = search rules
untorn_layers asked office layers (Err e) h = search rules

module _ (office second : List ℕ) (layers : List GivenLayer) (designs : List LayeredDesign) where
  untorn_geographic : (asked : GeographicAsk) → IsGeographicAnswer asked office second layers designs (Err run_fault.WriteFailed) → ⊥
  untorn_geographic (geographic.Features root names system) h = search rules
  untorn_geographic (geographic.Layer table workspace) h =
      untorn_noted (IsPrintoutIn (IsHinted (IsLayerPrint table workspace) (workspace ∷ [])) (opened_in office)) office (λ torn. search rules) h
  untorn_geographic (geographic.Office tables rounded) h =
      untorn_unless (is_cut_text office) (IsPrintoutIn (IsOfficePrint (options_of 1 rounded) layers) (opened_in office)) (first_table layers)
      (λ torn. search rules) h
  untorn_geographic (geographic.AcceptedOffice tables rounded) h =
      untorn_unless (is_cut_text office) (IsPrintoutOfDraft (IsAcceptedOfficePrint (options_of 1 rounded) layers) (draft_in office)) (first_table layers)
      (λ torn. search rules) h
  untorn_geographic (geographic.Cut tables rounded) h = search rules
  untorn_geographic (geographic.ErrorFeatures system) h = search rules
  untorn_geographic (geographic.Design design) h =
      let may_remove = may_remove_over design.may_remove office in
      untorn_marked (IsPrintoutIn (IsDesignPrint design.name (design_options design) may_remove layers) (opened_in office)) office (λ torn. search rules) h
  untorn_geographic (geographic.DesignSince design) h =
      let may_remove = may_remove_over (may_remove_over design.may_remove office) second in
      untorn_marked (IsPrintoutIn (IsDesignSincePrint second design.name (design_options design) may_remove layers) (opened_in office)) office
      (λ torn. search rules) h
  untorn_geographic (geographic.DesignScript design) h = search rules
  untorn_geographic (geographic.DesignAgain design) h =
      let may_remove = may_remove_over design.may_remove office in
      untorn_marked
      (IsPrintoutIn (IsHinted (IsAgainPrint false design.name (design_options design) may_remove layers) (design.name ∷ [])) (opened_in office)) office
      (λ torn. search rules) h
  untorn_geographic (geographic.DesignAnew design) h =
      let may_remove = may_remove_over (may_remove_over design.may_remove office) second in
      untorn_marked
      (IsPrintoutIn (IsHinted (IsDesignAnewPrint second design.name (design_options design) may_remove layers) (design.name ∷ [])) (opened_in office)) office
      (λ torn. search rules) h
  untorn_geographic (geographic.DesignAgainScript design) h = search rules
  untorn_geographic (geographic.Designs asked) h =
      let may_remove = may_remove_over asked.may_remove office in
      untorn_marked (IsPrintoutIn (IsDesignsPrint (folder_options asked) may_remove designs) (opened_in office)) office (λ torn. search rules) h
  untorn_geographic (geographic.DesignsSince asked) h =
      let may_remove = may_remove_over (may_remove_over asked.may_remove office) second in
      untorn_marked (IsPrintoutIn (IsDesignsSincePrint second (folder_options asked) may_remove designs) (opened_in office)) office
      (λ torn. search rules) h

  pub untorn : (asked : DeskAsk) → IsDeskAnswerWithin asked office second layers designs (Err run_fault.WriteFailed) → ⊥
  untorn (ask.Certificate root names) h = search rules
  untorn ask.Check h = search rules
  untorn (ask.Merge names) h =
      untorn_marked (IsPrintoutOfCase (IsHintedMerge names) (case_of office second)) office (λ torn. search rules) h
  untorn ask.Format h = search rules
  untorn ask.Accept h = untorn_marked (IsPrintoutOfDraft IsAcceptPrint (draft_in office)) office (λ torn. search rules) h
  untorn ask.Mended h = search rules
  untorn ask.Errors h = search rules
  untorn (ask.Keep root names) h = search rules
  untorn (ask.Clashes root names) h = search rules
  untorn (ask.InOrder order.Order root names) h = search rules
  untorn (ask.InOrder order.OrderCertificate root names) h = search rules
  untorn (ask.InOrder order.Certificate root names) h = search rules
  untorn (ask.InOrder order.Keep root names) h = search rules
  untorn (ask.Why kind) h = search rules
  untorn (ask.WhyLayers asked) h = untorn_layers asked office layers (draft_in office) h
  untorn (ask.Map root names) h = search rules
  untorn (ask.Report root names) h = search rules
  untorn (ask.Board root names) h = search rules
  untorn (ask.WorkOrder root names) h = search rules
  untorn (ask.Geographic asked) h = untorn_geographic asked h
  untorn (ask.Skipping asked file) h = untorn_geographic asked h
  untorn (ask.Database database.Edits) h = search rules
  untorn (ask.Database (database.SqlEdits sql)) h = search rules
  untorn (ask.Database (database.Proposal sql)) h = search rules

-- a fault that is answered is that of the texts
pub fault_answered : (IsPrint IsRight : PrintoutOrFault → Type 0) (sinks : Sinks) (e : RunFault) → (IsRight (Err run_fault.WriteFailed) → ⊥)
    → ((print : PrintoutOrFault) → IsRight print → IsPrint print) → IsPrintoutFault IsRight e → IsDeskAnswer IsPrint sinks (Err e)
fault_answered IsPrint IsRight sinks run_fault.ReadFailed never leads made = leads (Err run_fault.ReadFailed) made
fault_answered IsPrint IsRight sinks run_fault.WriteFailed never leads made = absurd (never made)
fault_answered IsPrint IsRight sinks run_fault.TooLong never leads made = leads (Err run_fault.TooLong) made
fault_answered IsPrint IsRight sinks run_fault.NoSeparator never leads made = leads (Err run_fault.NoSeparator) made
fault_answered IsPrint IsRight sinks (run_fault.BadOffice fault) never leads made = leads (Err (run_fault.BadOffice fault)) made
fault_answered IsPrint IsRight sinks (run_fault.BadScript number fault) never leads made = leads (Err (run_fault.BadScript number fault)) made
fault_answered IsPrint IsRight sinks (run_fault.BadCertificate number fault) never leads made = leads (Err (run_fault.BadCertificate number fault)) made
fault_answered IsPrint IsRight sinks run_fault.OutOfMemory never leads made = tt
