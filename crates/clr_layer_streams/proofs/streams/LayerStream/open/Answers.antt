use Rattle.std.proofs.Common.{◌∙◌, refl, sym, ap, []}
use Rattle.std.specs.Prelude.{option_map}
use Rattle.csv.specs.Reading.{Reached, default_config, strip_bom}
use Rattle.csv.specs.Records.{fields_of}
use Rattle.csv.specs.declared.parser.State.TheVariants as st
use Rattle.csv.proofs.ReadFacts.{rows-more}
use Rattle.clr_records.specs.Records.{in_turn}
use Rattle.clr_layer_text.specs.Layers.{fields_of_table}
use Rattle.clr_layer_streams.specs.Sources.{below}
use Rattle.clr_layer_streams.proofs.streams.LayerStream.open.Goals as goal

pub returns-in-Ok-clause-begun : goal.returns-in-Ok-clause-begun
unfolding Reached in_turn
returns-in-Ok-clause-begun g c = λ bytes known.
    let names = fields_of c.read_record.new.self.last in
    let reads = rw c.if-not-branch.false at c.in_ok-read_record.ensures.took in
    let m = rows-more (below g.R.Read.remaining) c.args.source.now.reader c.read_record.new.self.reader names default_config st.StartRecord
    (strip_bom bytes) (strip_bom bytes) [] c.requires.reading.config (c.requires.bytes ∙ ap (option_map strip_bom) known)
    (sym c.requires.state, refl) reads in
    record {
      names = names;
      others = [];
      left = m.0;
      reached = m.2;
      unread = m.1;
      headings = ap (fields_of_table names) (sym c.def.ensures.value) ∙ (rw c.last.ensures at c.in-Ok.ensures);
      read = refl;
      number = refl;
    }
