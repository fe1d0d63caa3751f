use Rattle.std.proofs.Common.{◌<◌, ◌^◌, ◌≡◌, None, rules}
use Rattle.clr_rows.specs.Schemas.{schema_fault}
use Rattle.clr_cert.specs.Texts.{IsReadBackWhereNamed}
use Rattle.clr_cert.proofs.EntryAgain.{entry_read_back}
use Rattle.clr_cert.proofs.writing.add_entry.Goals as goal

pub returns-clause-read_back : goal.returns-clause-read_back
returns-clause-read_back c =
    let lt : c.args.entry.need.rule < 2 ^ 16 = search rules in
    let sound : schema_fault c.args.schema.now ≡ None = search rules in
    let all : IsReadBackWhereNamed c.args.schema.now c.args.entry = λ named. entry_read_back c.args.schema.now c.args.entry sound named lt in
    search rules
