-- The needs that an office breaks are just those that its accepted text knows; and what is printed of a draft.
use Rattle.std.proofs.Common.{◌≡◌, ◌↔◌, ◌∷◌, ℕ, List, Contains, None, Result, Ok, length, ap, refl, subst, sym, ◌∙◌}
use Rattle.clr_rules.specs.declared.needs.Broken.{Broken}
use Rattle.clr_rules.proofs.Elements.{among, contained}
use Rattle.clr_workspaces.specs.Soundness.{IsSound}
use Rattle.clr_workspaces.specs.Workspaces.{Workspace, live_workspace}
use Rattle.clr_steps.specs.Offices.{Office}
use Rattle.clr_judges.specs.BrokenNeeds.{AreBrokenBelow}
use Rattle.clr_engine.specs.BrokenNow.{AreBrokenNow, IsBrokenNow}
use Rattle.clr_engine.proofs.BrokenNow as engine
use Rattle.clr_rule_text.specs.declared.faults.TextFault.{TextFault}
use Rattle.clr_office_reading.specs.Offices.{known_in}
use Rattle.clr_office_texts.specs.BrokenNow.{broken_in_kept, broken_now}
use Rattle.clr_office_texts.specs.Drafts.{draft_in, opened_in}
use Rattle.clr_office_texts.specs.Writing.{bytes_of}
use Rattle.clr_office_texts.proofs.BrokenLists.{breaks_at, kept_rise, listed_in}
use Rattle.clr_office_texts.proofs.LineEnds.{draft-ended, ended, known-ended, opened-ended}
use Rattle.clr_office_reports.specs.Printing.{IsOfficeFault}
use Rattle.clr_process_io.specs.declared.faults.RunFault.{RunFault}
use Rattle.clr_process_io.specs.declared.faults.RunFault.TheVariants as run_fault
use Rattle.clr_desk_prints.specs.Printing.{IsPrintoutFault, PrintoutOrFault}
use Rattle.clr_desk_errors.specs.Accepting.{IsAccepted, IsPrintoutOfDraft, of_no_office}

module _ (o : Office) (sound : IsSound (live_workspace o.live ∷ o.workspaces)) where
  abbrev all : List Workspace
  all = live_workspace o.live ∷ o.workspaces

  -- just the needs that are broken, by the positions of what breaks them
  below : AreBrokenBelow o.book all (length all) (broken_in_kept o.book all)
  below = record {
    ascending = kept_rise o.book all;
    exactly = λ b. (
      λ h. (let there = breaks_at o.book all b (among b (broken_in_kept o.book all) h) in (there.at, there.within, there.kept, there.broken)),
      λ (at, lt, kept, broken). contained b (broken_in_kept o.book all) (listed_in o.book all b at lt kept broken),
    );
  }

  are_broken_now : AreBrokenNow o (broken_now o)
  unfolding broken_now
  are_broken_now = engine.broken_now o.schema o.book all sound o refl (broken_in_kept o.book all) below

  -- a text with a line end behind it is that of the office with its errors accepted
  pub is_accepted : (t text : List ℕ) → t ≡ bytes_of o → text ≡ ended t → draft_in t ≡ Ok o → known_in t ≡ broken_now o → opened_in t ≡ Ok (o, None)
      → IsAccepted o text
  is_accepted t text bytes is again known admitted = record {
    bytes = is ∙ ap ended bytes;
    again = subst (λ (u : List ℕ). draft_in u ≡ Ok o) (sym is) (draft-ended t o again);
    known = λ need. subst (λ (needs : List Broken). Contains needs need ↔ IsBrokenNow o need) (sym (ap known_in is ∙ known-ended t o again ∙ known))
        (are_broken_now.exactly need);
    admitted = subst (λ (u : List ℕ). opened_in u ≡ Ok (o, None)) (sym is) (opened-ended t o again ∙ admitted);
  }

-- a fault of an office text is printed as one
pub fault_of_draft : (P : Office → PrintoutOrFault → Type 0) (given : Result Office TextFault) (e : RunFault) → IsOfficeFault given e
    → IsPrintoutFault (IsPrintoutOfDraft P given) e
fault_of_draft P given (run_fault.BadOffice fault) is = of_no_office fault is refl
fault_of_draft P given run_fault.OutOfMemory is = tt
fault_of_draft P given (run_fault.BadScript number fault) is = absurd is
fault_of_draft P given (run_fault.BadCertificate number fault) is = absurd is
fault_of_draft P given run_fault.ReadFailed is = absurd is
fault_of_draft P given run_fault.WriteFailed is = absurd is
fault_of_draft P given run_fault.TooLong is = absurd is
fault_of_draft P given run_fault.NoSeparator is = absurd is
