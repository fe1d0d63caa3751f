-- Why a text can't be used.
use Rattle.std.specs.Prelude.{◌≡◌, ◌≢◌, ◌⊎◌, ℕ, List, [], Some, None, Ok, Err, IsOk}
use Rattle.clr_rows.specs.declared.tables.TableDef.{TableDef}
use Rattle.clr_rules.specs.declared.needs.Broken.{Broken}
use Rattle.clr_cert.specs.Certificates.{certificate_in}
use Rattle.clr_cert.specs.declared.faults.CertFault.{CertFault}
use Rattle.clr_scripts.specs.Scripts.{script_in_text}
use Rattle.clr_scripts.specs.declared.faults.RecordFault.{RecordFault}
use Rattle.clr_steps.specs.Offices.{Office}
use Rattle.clr_engine.specs.BrokenNow.{AreBrokenNow}
use Rattle.clr_engine.specs.Drafts.{unheld_in}
use Rattle.clr_office_texts.specs.Drafts.{draft_in}
use Rattle.clr_office_reading.specs.Offices.{known_in, office_in}
use Rattle.clr_rule_text.specs.declared.faults.TextFault.{TextFault}
use Rattle.clr_text_positions.specs.FaultLines.{AreFaultLines}
use Rattle.clr_text_positions.specs.declared.remarks.Remark.{Remark}
use Rattle.clr_explanations.specs.FaultWords.{office_fault_words}
use Rattle.clr_explanations.specs.Remarks.{IsOfficeRemark}
use Rattle.clr_explanations.specs.Standing.{IsStandingRemark}
use Rattle.clr_record_explanations.specs.FaultWords.{certificate_fault_words, script_fault_words}
use Rattle.clr_record_explanations.specs.RecordRemarks.{IsCertificateRemark, IsScriptRemark}
use Rattle.clr_text_diagnosis.specs.Needs.{old_error_lines, unheld_lines}
use Rattle.clr_text_diagnosis.specs.declared.whys.Why.{Why}
use Rattle.clr_text_diagnosis.specs.declared.whys.Why.TheVariants.{NoFault, OldErrors, Unheld, Faulty}

-- faults -------------------------------------------------------------------------------------

-- a remark on the item that has the fault, where the text can't be read; and where it can, on the first workspace that can't stand
abbrev pub IsRemark : List ℕ → TextFault → Remark → Type 0
IsRemark text e remark = ((office_in text ≡ Err e) × IsOfficeRemark text e remark) ⊎ IsStandingRemark text remark

-- the fault of an office text, and a remark on it
abbrev pub IsRemarkedOfficeFault : List ℕ → TextFault → Remark → Type 0
IsRemarkedOfficeFault text e remark = (draft_in text ≡ Err e) × IsRemark text e remark

-- the fault of a script over a schema, and a remark on its record
abbrev pub IsRemarkedScriptFault : List TableDef → List ℕ → RecordFault → Remark → Type 0
IsRemarkedScriptFault tables text e remark = (number : ℕ) × (script_in_text tables text ≡ Err (number, e)) × IsScriptRemark tables text number e remark

abbrev pub IsRemarkedCertificateFault : List TableDef → List ℕ → CertFault → Remark → Type 0
IsRemarkedCertificateFault tables text e remark =
    (number : ℕ) × (certificate_in tables text ≡ Err (number, e)) × IsCertificateRemark tables text number e remark

-- lines --------------------------------------------------------------------------------------

-- the lines begin with the fault that the text has, and the line, the column and the path are those of a remark on it
abbrev pub AreOfficeLines : List ℕ → List ℕ → Type 0
AreOfficeLines text lines = (e : TextFault) × (remark : Remark) × IsRemarkedOfficeFault text e remark × AreFaultLines text (office_fault_words e) remark lines

abbrev pub AreScriptLines : List TableDef → List ℕ → List ℕ → Type 0
AreScriptLines tables text lines =
    (e : RecordFault) × (remark : Remark) × IsRemarkedScriptFault tables text e remark × AreFaultLines text (script_fault_words e) remark lines

abbrev pub AreCertificateLines : List TableDef → List ℕ → List ℕ → Type 0
AreCertificateLines tables text lines =
    (e : CertFault) × (remark : Remark) × IsRemarkedCertificateFault tables text e remark × AreFaultLines text (certificate_fault_words e) remark lines

-- what is found ------------------------------------------------------------------------------

-- a need is broken in the office of a text that the text doesn't name as known
pub record TellsUnheldRule (text lines : List ℕ) : Type 0 where
  pub office : Office
  pub position : ℕ
  pub need : Broken
  pub read : draft_in text ≡ Ok office
  pub unheld : unheld_in office (known_in text) ≡ Some (position, need)
  pub told : lines ≡ unheld_lines office position need

-- just these needs are broken in the office of a text, and the text names each of them as known
pub record KnowsBroken (text : List ℕ) (office : Office) (needs : List Broken) : Type 0 where
  pub read : draft_in text ≡ Ok office
  pub known : unheld_in office (known_in text) ≡ None
  pub broken : AreBrokenNow office needs

-- some needs are broken in the office of a text, and the text names each of them as known
pub record TellsOldErrors (text lines : List ℕ) : Type 0 where
  pub office : Office
  pub needs : List Broken
  pub known : KnowsBroken text office needs
  pub some : needs ≢ []
  pub told : lines ≡ old_error_lines office needs

-- an office in which nothing is broken, one whose broken needs are all known, one with a need that isn't, or no office
abbrev pub IsOfficeWhy : List ℕ → Why → Type 0
IsOfficeWhy text NoFault = (o : Office) × KnowsBroken text o []
IsOfficeWhy text (OldErrors lines) = TellsOldErrors text lines.items
IsOfficeWhy text (Unheld lines) = TellsUnheldRule text lines.items
IsOfficeWhy text (Faulty lines) = AreOfficeLines text lines.items

-- what is found in a text over an office: that it can be read; or the lines of its fault or of that of the office
abbrev pub IsWhyOver : (List TableDef → Type 0) → (List TableDef → List ℕ → Type 0) → List ℕ → Why → Type 0
IsWhyOver CanBeRead AreLines office NoFault = (o : Office) × (draft_in office ≡ Ok o) × CanBeRead o.schema
IsWhyOver CanBeRead AreLines office (OldErrors lines) = ⊥
IsWhyOver CanBeRead AreLines office (Unheld lines) = ⊥
IsWhyOver CanBeRead AreLines office (Faulty lines) =
    AreOfficeLines office lines.items ⊎ ((o : Office) × (draft_in office ≡ Ok o) × AreLines o.schema lines.items)

abbrev pub IsScriptWhy : List ℕ → List ℕ → Why → Type 0
IsScriptWhy office script = IsWhyOver (λ tables. IsOk (script_in_text tables script)) (λ tables. AreScriptLines tables script) office

abbrev pub IsCertificateWhy : List ℕ → List ℕ → Why → Type 0
IsCertificateWhy office certificate =
    IsWhyOver (λ tables. IsOk (certificate_in tables certificate)) (λ tables. AreCertificateLines tables certificate) office
