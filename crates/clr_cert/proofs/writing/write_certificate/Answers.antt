use Rattle.std.proofs.Common.{◌∙◌, sym}
use Rattle.std.specs.List.{All}
use Rattle.clr_cert.specs.Texts.{IsReadBack, IsReadBackWhereNamed}
use Rattle.clr_cert.proofs.CertificateAgain.{read_again}
use Rattle.clr_cert.proofs.TextLemmas.{text_whole}
use Rattle.clr_cert.proofs.writing.write_certificate.Goals as goal

pub returns-in-Ok-clause-written : goal.returns-in-Ok-clause-written
returns-in-Ok-clause-written c =
    let root = c.in_ok-add_root.ensures.written in
    let members = c.in_ok-add_members.ensures.written in
    let turns = c.in_ok-add_precedences.ensures.written in
    let entries = c.in_ok-add_entries.ensures.written in
    let made = c.from_writer-writer.ensures in
    c.in-Ok.ensures.ok ∙ rw (entries, turns, members, root, made.wtr, made.empty, c.new-2.ensures.items, c.as_str.ensures, c.as_slice.ensures, c.as_slice-2.ensures, c.as_slice-3.ensures)
    (sym (text_whole c.args.schema.now c.args.certificate.now))

pub returns-in-Ok-clause-read_back : goal.returns-in-Ok-clause-read_back
returns-in-Ok-clause-read_back c =
    let each : All (IsReadBackWhereNamed c.args.schema.now) c.args.certificate.now.entries = rw c.as_slice-3.ensures at c.in_ok-add_entries.ensures.read_back in
    λ named.
    let all : All (IsReadBack c.args.schema.now) c.args.certificate.now.entries = λ k d lt. each k d lt (named.entries k d lt) in
    rw (returns-in-Ok-clause-written c) (read_again c.args.schema.now c.args.certificate.now named.root named.members named.before all)
