use Rattle.clr_map_frames.proofs.HeadingLemmas.{heading}
use Rattle.clr_map_frames.proofs.headings.add_heading.Goals as goal

pub returns : goal.returns
returns c = record {
  says = heading c.args.names.now c.args.sentence.now c.args.sketch.now.elements.items c.add_names.new.sketch.elements.items
      c.add_sentence.new.sketch.elements.items c.in_ok-add_names.ensures c.in_ok-add_sentence.ensures;
}
