use Rattle.std.proofs.Common.{inr, subst}
use Rattle.std.specs.Prelude.{IsOk}
use Rattle.clr_cert.specs.Certificates.{certificate_in}
use Rattle.clr_text_diagnosis.specs.Whys.{AreCertificateLines}
use Rattle.clr_text_diagnosis.proofs.FoundLemmas.{of_none}
use Rattle.clr_text_diagnosis.proofs.texts.why_certificate_over.Goals as goal

pub returns-in_ok-lines-in-Some : goal.returns-in_ok-lines-in-Some
returns-in_ok-lines-in-Some c =
    let text = c.args.certificate.now in
    let lines = c.in_ok-lines-in-Some.lines in
    inr (
      c.args.draft.now,
      c.requires,
      subst (λ tables. AreCertificateLines tables text lines.items) c.schema-schema.ensures.value
          c.in_ok-lines-in-Some.ensures,
    )

pub returns-in-None : goal.returns-in-None
returns-in-None c =
    let text = c.args.certificate.now in
    let read = of_none c.in_ok-found.field-0 (IsOk (certificate_in c.schema-schema.result.now text)) c.in-None.is c.in_ok-found.ensures.none in
    (c.args.draft.now, c.requires, subst (λ tables. IsOk (certificate_in tables text)) c.schema-schema.ensures.value read)
