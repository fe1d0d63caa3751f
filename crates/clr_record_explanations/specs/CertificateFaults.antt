-- Where the first fault of a certificate is.
use Rattle.std.specs.Prelude.{◌≡◌, ℕ, ◌+◌, List, take, codes, Bool, false, Option, Some, None, Result, Err}
use Rattle.std.specs.List.{list_any}
use Rattle.std.specs.Str.{bytes_eq}
use Rattle.clr_rows.specs.declared.tables.TableDef.{TableDef}
use Rattle.clr_records.specs.Records.{field_of, records_in}
use Rattle.clr_cert.specs.declared.faults.CertFault.{CertFault}
use Rattle.clr_cert.specs.declared.faults.CertFault.TheVariants.{NotCsv}
use Rattle.clr_cert.specs.Certificates.{certificate_in, item_of}
use Rattle.clr_record_explanations.specs.FirstFaults.{RecordFields, IsFirstFault, readable}

abbrev pub names_root : RecordFields → Bool
names_root fields = bytes_eq (field_of fields 0) (codes "root")

-- whether a root record stands among records
abbrev pub has_root : List RecordFields → Bool
has_root rows = list_any names_root rows

-- a record of a certificate, read behind those before it
abbrev pub certificate_reading : List TableDef → List RecordFields → RecordFields → Result (Unit {0}) CertFault
certificate_reading tables before fields = readable (item_of tables (has_root before) fields)

-- the record of a number of a text has the fault, behind a root record or none; or the text has no records
abbrev pub IsFaultOfCertificate : List TableDef → Option (List RecordFields) → Bool → ℕ → CertFault → Type 0
IsFaultOfCertificate tables None rooted number e = (rooted ≡ false) × (number ≡ 1) × (e ≡ NotCsv)
IsFaultOfCertificate tables (Some rows) rooted number e =
    (at : ℕ) × (number ≡ at + 1) × (rooted ≡ has_root (take at rows)) × IsFirstFault (certificate_reading tables) rows at e

abbrev pub CertificateFaultLaw : Type 0
CertificateFaultLaw = (tables : List TableDef) (bytes : List ℕ) (number : ℕ) (e : CertFault)
    → certificate_in tables bytes ≡ Err (number, e) → (rooted : Bool) × IsFaultOfCertificate tables (records_in bytes) rooted number e
