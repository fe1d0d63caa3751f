-- What an office text and the text of a certificate give.
use Rattle.std.specs.Prelude.{◌≡◌, ℕ, List, Option, Some, None, Result, Ok, Err}
use Rattle.clr_rules.specs.declared.needs.Broken.{Broken}
use Rattle.clr_steps.specs.Offices.{Office}
use Rattle.clr_cert.specs.declared.certificates.Certificate.{Certificate}
use Rattle.clr_cert.specs.declared.faults.CertFault.{CertFault}
use Rattle.clr_cert.specs.Certificates.{certificate_in}
use Rattle.clr_office_texts.specs.Drafts.{Opened, opened_in}
use Rattle.clr_check.specs.declared.cases.CaseFault.{CaseFault}
use Rattle.clr_check.specs.declared.cases.CaseFault.TheVariants as fault

-- an office whose broken needs are known, and a certificate of it; or why the texts don't give both
abbrev pub Case : Type 0
Case = Result (Office × Certificate) CaseFault

-- the office with the certificate, unless the certificate's text is none
abbrev pub with_certificate : Office → Result Certificate (ℕ × CertFault) → Case
with_certificate o (Ok c) = Ok (o, c)
with_certificate o (Err e) = Err (fault.BadCertificate e.0 e.1)

-- the office with the certificate, unless LIVE or a workspace that is kept breaks a need that isn't known
abbrev pub where_held : Office → List ℕ → Option (ℕ × Broken) → Case
where_held o certificate None = with_certificate o (certificate_in o.schema certificate)
where_held o certificate (Some unheld) = Err (fault.Unheld o unheld.0 unheld.1)

-- the office's text, then its broken needs, and then the certificate's text
abbrev pub of_draft : List ℕ → Opened → Case
of_draft certificate (Ok (o, unheld)) = where_held o certificate unheld
of_draft certificate (Err e) = Err (fault.BadOffice e)

-- what two texts give, or the first that fails of the office's text, its broken needs and the certificate's text
unfoldable pub case_of : List ℕ → List ℕ → Case
case_of office certificate = of_draft certificate (opened_in office)

-- why texts don't give an office and a certificate, or that no memory was found
abbrev pub IsCaseFault : Case → CaseFault → Type 0
IsCaseFault given (fault.BadOffice e) = given ≡ Err (fault.BadOffice e)
IsCaseFault given (fault.Unheld o position need) = given ≡ Err (fault.Unheld o position need)
IsCaseFault given (fault.BadCertificate n e) = given ≡ Err (fault.BadCertificate n e)
IsCaseFault given fault.OutOfMemory = Unit {0}
