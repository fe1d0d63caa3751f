-- The place of the fault that a text has, and no place where it has none.
use Rattle.std.proofs.Common.{◌≡◌, ◌∙◌, ℕ, List, [], Result, Ok, Err, sym}
use Rattle.std.specs.Prelude.{IsOk}
use Rattle.std.proofs.lemmas.Bool.{false≢true}
use Rattle.clr_rows.specs.declared.tables.TableDef.{TableDef}
use Rattle.clr_workspaces.specs.Marks.{Name}
use Rattle.clr_steps.specs.Offices.{Office}
use Rattle.clr_cert.specs.Certificates.{certificate_in}
use Rattle.clr_cert.specs.declared.certificates.Certificate.{Certificate}
use Rattle.clr_cert.specs.declared.faults.CertFault.{CertFault}
use Rattle.clr_office_texts.specs.Drafts.{draft_in}
use Rattle.clr_rule_text.specs.declared.faults.TextFault.{TextFault}
use Rattle.clr_text_diagnosis.specs.Shorts.{IsShortCertificateFault, IsShortOfficeFault}
use Rattle.clr_desk_faults.specs.FaultPlaces.{IsCertificatePlace, IsOfficePlace, IsPlaceInOffices, file_name}

module _ (text : List ℕ) (file : Name) (line : List ℕ) where
  pub office_told : (given : Result Office TextFault) → draft_in text ≡ given → IsShortOfficeFault text file line → IsOfficePlace text file line given
  office_told (Ok o) is (e, remark, (faulty, said), told) = absurd (let both : Ok o ≡ Err e = sym is ∙ faulty in cc)
  office_told (Err f) is told = told

  pub office_untold : (given : Result Office TextFault) → IsOk given → line ≡ [] → IsOfficePlace text file line given
  office_untold (Ok o) sound none = none
  office_untold (Err e) sound none = absurd (false≢true sound)

module _ (tables : List TableDef) (text : List ℕ) (file : Name) (line : List ℕ) where
  pub certificate_told : (given : Result Certificate (ℕ × CertFault)) → certificate_in tables text ≡ given → IsShortCertificateFault tables text file line
      → IsCertificatePlace tables text file line given
  certificate_told (Ok c) is (e, remark, (number, faulty, said), told) = absurd (let both : Ok c ≡ Err (number, e) = sym is ∙ faulty in cc)
  certificate_told (Err f) is told = told

  pub certificate_untold : (given : Result Certificate (ℕ × CertFault)) → IsOk given → line ≡ [] → IsCertificatePlace tables text file line given
  certificate_untold (Ok c) sound none = none
  certificate_untold (Err e) sound none = absurd (false≢true sound)

-- of the first of two office texts, or else of the second
module _ (files : List Name) (office second line : List ℕ) where
  pub first_told : (given : Result Office TextFault) → draft_in office ≡ given → IsShortOfficeFault office (file_name files 0) line
      → IsPlaceInOffices files office second line given
  first_told (Ok o) is (e, remark, (faulty, said), told) = absurd (let both : Ok o ≡ Err e = sym is ∙ faulty in cc)
  first_told (Err f) is told = told

  pub second_told : (given : Result Office TextFault) → IsOk given → IsOfficePlace second (file_name files 1) line (draft_in second)
      → IsPlaceInOffices files office second line given
  second_told (Ok o) sound told = told
  second_told (Err e) sound told = absurd (false≢true sound)
