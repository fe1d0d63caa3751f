use Rattle.clr_cert.specs.Texts.{IsReadBackWhereNamed, entry_fields}
use Rattle.clr_cert.proofs.TextLemmas.{each_more, text_more}
use Rattle.clr_cert.proofs.writing.add_entries.Goals as goal

pub loop-entry-preserved : goal.loop-entry-preserved
loop-entry-preserved c =
    let inv = c.loop-entry.invariant in
    let i = c.loop-entry.entry-index in
    let entries = c.args.entries.now in
    record {
      between = c.in_ok-add_entry.ensures.between;
      written = text_more (entry_fields c.args.schema.now) entries i _ _ _ _ c.loop-entry-test.true inv.written c.in_ok-add_entry.ensures.written;
      read_back = each_more (IsReadBackWhereNamed c.args.schema.now) entries i _ c.loop-entry-test.true c.in_ok-add_entry.ensures.read_back inv.read_back;
    }
