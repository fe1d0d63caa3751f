-- Where the fault of a text is, in one line.
use Rattle.std.specs.Prelude.{◌≡◌, ℕ, List}
use Rattle.clr_rows.specs.declared.tables.TableDef.{TableDef}
use Rattle.clr_cert.specs.declared.faults.CertFault.{CertFault}
use Rattle.clr_rule_text.specs.declared.faults.TextFault.{TextFault}
use Rattle.clr_text_positions.specs.FaultLines.{short_line}
use Rattle.clr_text_positions.specs.declared.remarks.Remark.{Remark}
use Rattle.clr_text_diagnosis.specs.Whys.{IsRemarkedCertificateFault, IsRemarkedOfficeFault}

-- the file, the line, the column and the sentence of a remark on the fault that the text has
abbrev pub IsShortOfficeFault : List ℕ → List ℕ → List ℕ → Type 0
IsShortOfficeFault text file line = (e : TextFault) × (remark : Remark) × IsRemarkedOfficeFault text e remark × (line ≡ short_line text file remark)

abbrev pub IsShortCertificateFault : List TableDef → List ℕ → List ℕ → List ℕ → Type 0
IsShortCertificateFault tables text file line =
    (e : CertFault) × (remark : Remark) × IsRemarkedCertificateFault tables text e remark × (line ≡ short_line text file remark)
