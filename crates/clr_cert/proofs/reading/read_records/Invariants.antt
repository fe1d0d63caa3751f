use Rattle.std.proofs.Common.{◌≡◌, ◌+◌, drop, false, map}
use Rattle.csv.specs.Records.{fields_of}
use Rattle.clr_rows.specs.Names.{live_name}
use Rattle.clr_cert.specs.Certificates.{certificate_from, certificate_of}
use Rattle.clr_cert.proofs.ItemTurns.{after}
use Rattle.clr_cert.proofs.reading.read_records.Given as goal

-- what the records so far say, with those that are left, is the certificate; its root is LIVE as long as no record names another
abbrev pub invariant-loop-i : goal.invariant-loop-i
invariant-loop-i l = record {
  so_far : after l.rooted l.certificate (certificate_from l.schema l.rooted (l.i + 1) (map fields_of (drop l.i l.records)))
      ≡ certificate_of l.schema (map fields_of l.records);
  live : l.rooted ≡ false → l.certificate.root ≡ live_name;
}
