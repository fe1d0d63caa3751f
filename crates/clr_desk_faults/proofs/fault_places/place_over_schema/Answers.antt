use Rattle.std.proofs.Common.{refl}
use Rattle.std.specs.Prelude.{⊤}
use Rattle.std.proofs.lemmas.Option.{MatchOption-at_some}
use Rattle.clr_cert.specs.Certificates.{certificate_in}
use Rattle.clr_text_diagnosis.specs.Shorts.{IsShortCertificateFault}
use Rattle.clr_desk_faults.proofs.PlaceLemmas.{certificate_told}
use Rattle.clr_desk_faults.proofs.fault_places.place_over_schema.Goals as goal

pub returns-in-Some : goal.returns-in-Some
returns-in-Some c =
    let tables = c.args.schema.now in
    let certificate = c.args.certificate.now in
    let file = c.args.file.now in
    let line = c.in-Some.line in
    let told = MatchOption-at_some ⊤ (λ l. IsShortCertificateFault tables certificate file l.items) line c.in-Some.is c.in_ok-line.ensures.line in
    certificate_told tables certificate file line.items (certificate_in tables certificate) refl told
