use Rattle.std.proofs.Common.{refl}
use Rattle.csv.specs.Records.{fields_of}
use Rattle.clr_layer_streams.proofs.ReadingOn.{all_rows, one_more}
use Rattle.clr_layer_streams.proofs.streams.LayerStream.next_row.Goals as goal

pub returns-then-not-branch-clause-row : goal.returns-then-not-branch-clause-row
returns-then-not-branch-clause-row g c = λ bytes rows h.
    all_rows g.R.Read.remaining bytes rows c.args.source.now c.read_record.new.self c.args.self.now
    (record c.args.self.now { number = c.saturating_add-self.result }) h c.requires.config
    (fields_of c.read_record.new.self.last) (rw c.if-not-branch.true at c.in_ok-read_record.ensures.took)

pub returns-in-Ok-clause-row : goal.returns-in-Ok-clause-row
returns-in-Ok-clause-row g c = λ bytes rows h.
    one_more g.R.Read.remaining bytes rows c.args.source.now c.read_record.new.self c.args.self.now
    (record c.args.self.now { number = c.saturating_add-self.result }) h c.requires.config
    (fields_of c.read_record.new.self.last) c.in-Ok.row (rw c.if-not-branch.false at c.in_ok-read_record.ensures.took) refl refl refl
    refl c.saturating_add-self.ensures (rw c.last.ensures at c.in-Ok.ensures.value)
