use Rattle.clr_map_frames.proofs.HeadingLemmas.{on_one}
use Rattle.clr_map_frames.proofs.headings.add_one_line.Goals as goal

pub returns : goal.returns
returns c = on_one c.args.sentence.now c.args.sketch.now.elements.items c.say_line.new.sketch.elements.items c.in_ok-say_line.ensures
