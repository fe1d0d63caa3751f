use Rattle.std.proofs.Common.{Ok, Result, Err}
use Rattle.std.specs.Prelude.{IfOk, ℕ, List}
use Rattle.clr_rows.specs.declared.tables.TableDef.{TableDef}
use Rattle.clr_cert.specs.declared.certificates.Certificate.{Certificate}
use Rattle.clr_cert.specs.declared.faults.CertFault.{CertFault}
use Rattle.clr_cert.specs.Certificates.{certificate_of}
use Rattle.clr_readings.specs.Readings.{GivesAt}
use Rattle.clr_cert.specs.Faults.{cert_lacks_memory}
use Rattle.clr_cert.specs.Texts.{IsWellFormed}
use Rattle.clr_cert.proofs.NamedCertificates.{named_of}
use Rattle.clr_cert.proofs.reading.read_certificate.Goals as goal

given_named : (tables : List TableDef) (rows : List (List (List ℕ))) (answer : Result Certificate (ℕ × CertFault))
    → GivesAt cert_lacks_memory (λ x. x) answer (certificate_of tables rows) → IfOk answer (IsWellFormed tables)
given_named tables rows (Ok c) e = named_of tables rows c e
given_named tables rows (Err f) e = tt

pub returns-in-Ok-Some-clause-named : goal.returns-in-Ok-Some-clause-named
returns-in-Ok-Some-clause-named c = given_named c.args.schema.now _ c.read_records.result c.read_records.ensures
