use Rattle.std.proofs.lemmas.Bool.Decides.{same_from_decides}
use Rattle.clr_segments.proofs.SearchLemmas.{points_found}
use Rattle.clr_audit.proofs.part_servers.is_on_segment.Goals as goal

pub returns : goal.returns
returns c = same_from_decides _ _ c.lies_on.ensures (points_found c.args.place c.args.segment.0 c.args.segment.1 c.requires.segment.differ)
