use Rattle.std.proofs.Common.{rules}
use Rattle.clr_segments.proofs.BoxLemmas.{least_box_by}
use Rattle.clr_segments.proofs.boxes.box_of.Goals as goal

pub returns-clause-least : goal.returns-clause-least
returns-clause-least c = least_box_by c.args.a c.args.b _ _ _ _ (search rules) (search rules) (search rules) (search rules)
