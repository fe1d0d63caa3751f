use Rattle.std.proofs.Common.{rules}
use Rattle.clr_map_frames.proofs.HeadingLemmas.{cut_shown}
use Rattle.clr_map_frames.proofs.headings.text_that_fits.Goals as goal

pub returns : goal.returns
returns c = search (rules, cut_shown)
