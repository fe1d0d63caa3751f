-- Where the fault of a text is that an answer fails with.
use Rattle.std.specs.Prelude.{◌≡◌, ℕ, List, [], Result, Ok, Err, slice_get}
use Rattle.std.specs.Option.{option_map_or}
use Rattle.clr_rows.specs.declared.tables.TableDef.{TableDef}
use Rattle.clr_workspaces.specs.Marks.{Name}
use Rattle.clr_steps.specs.Offices.{Office}
use Rattle.clr_cert.specs.Certificates.{certificate_in}
use Rattle.clr_cert.specs.declared.certificates.Certificate.{Certificate}
use Rattle.clr_cert.specs.declared.faults.CertFault.{CertFault}
use Rattle.clr_office_texts.specs.Drafts.{draft_in}
use Rattle.clr_rule_text.specs.declared.faults.TextFault.{TextFault}
use Rattle.clr_text_diagnosis.specs.Shorts.{IsShortCertificateFault, IsShortOfficeFault}
use Rattle.clr_process_io.specs.declared.faults.RunFault.{RunFault}
use Rattle.clr_process_io.specs.declared.faults.RunFault.TheVariants as run_fault

-- the name of the file of a text, or no name
abbrev pub file_name : List Name → ℕ → Name
file_name files at = option_map_or (λ name. name) (slice_get files at) []

-- the place and the sentence of the fault of an office text; and nothing where it is an office
abbrev pub IsOfficePlace : List ℕ → Name → List ℕ → Result Office TextFault → Type 0
IsOfficePlace text file line (Ok o) = line ≡ []
IsOfficePlace text file line (Err e) = IsShortOfficeFault text file line

-- the same of a certificate over tables
abbrev pub IsCertificatePlace : List TableDef → List ℕ → Name → List ℕ → Result Certificate (ℕ × CertFault) → Type 0
IsCertificatePlace tables text file line (Ok c) = line ≡ []
IsCertificatePlace tables text file line (Err e) = IsShortCertificateFault tables text file line

-- over the office of a text; and nothing where that is no office
abbrev pub IsCertificatePlaceOver : List ℕ → Name → List ℕ → Result Office TextFault → Type 0
IsCertificatePlaceOver text file line (Ok o) = IsCertificatePlace o.schema text file line (certificate_in o.schema text)
IsCertificatePlaceOver text file line (Err e) = line ≡ []

-- the place and the sentence of the fault of an office text, or else of the second, where that is read as one too; and nothing where both are offices
abbrev pub IsPlaceInOffices : List Name → List ℕ → List ℕ → List ℕ → Result Office TextFault → Type 0
IsPlaceInOffices files office second line (Ok o) = IsOfficePlace second (file_name files 1) line (draft_in second)
IsPlaceInOffices files office second line (Err e) = IsShortOfficeFault office (file_name files 0) line

-- of the fault of an office text its place in this text, or else in the second, of that of a certificate its place in the second text, and nothing of any
-- other fault
abbrev pub IsFaultPlace : RunFault → List Name → List ℕ → List ℕ → List ℕ → Type 0
IsFaultPlace (run_fault.BadOffice e) files office second line = IsPlaceInOffices files office second line (draft_in office)
IsFaultPlace (run_fault.BadCertificate number e) files office second line = IsCertificatePlaceOver second (file_name files 1) line (draft_in office)
IsFaultPlace _ files office second line = line ≡ []
