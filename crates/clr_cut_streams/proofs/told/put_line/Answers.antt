use Rattle.std.proofs.Common.{◌∙◌, sym}
use Rattle.clr_cut_streams.proofs.TellingOn.{nothing_put}
use Rattle.clr_cut_streams.proofs.told.put_line.Goals as goal

pub returns-then-is_empty-clause-bytes : goal.returns-then-is_empty-clause-bytes
returns-then-is_empty-clause-bytes g c = nothing_put (g.W.Sink.contents c.args.writer.now) c.args.line.now (sym c.is_empty.ensures ∙ c.if-is_empty.true)
