use Rattle.std.proofs.Common.{◌∙◌, ◌++◌, ap, append-nil, Vec, Global, ℕ}
use Rattle.csv.specs.Writing.{writer_pending}
use Rattle.clr_skipped_records.proofs.sound_records.marked_writer.Goals as goal

pub returns-clause-written : goal.returns-clause-written
returns-clause-written c =
    let text = c.in_ok-text.text in
    ap (λ (under : Vec ℕ Global). under.items ++ writer_pending c.from_writer.result) c.from_writer.ensures.wtr
    ∙ ap (λ pending. text.items ++ pending) c.from_writer.ensures.empty ∙ append-nil text.items ∙ c.in_ok-text.ensures.items
