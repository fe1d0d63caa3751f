use Rattle.clr_cut_streams.specs.Sinks.{sinks_between}
use Rattle.clr_cut_streams.proofs.Going.{IsGoing}
use Rattle.clr_cut_streams.proofs.passes.pass_over.Given as goal

-- the rows so far were read, and what was told of them went out
abbrev pub invariant-loop : goal.invariant-loop
invariant-loop g l = IsGoing g.R.Read.remaining g.V.RowView.content l.cut l.fn.source l.fn.stream l.source l.stream l.seen
    (sinks_between g.W.Sink.contents g.W.Sink.failed g.N.Sink.contents g.N.Sink.failed l.fn.writer l.writer l.fn.notes l.notes) l.told
