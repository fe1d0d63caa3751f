use Rattle.std.proofs.Common.{subst}
use Rattle.clr_rows.specs.Contents.{Changes}
use Rattle.clr_change.specs.ChangeSets.{AreNoted}
use Rattle.clr_change.proofs.SetLemmas.{all_noted}
use Rattle.clr_change.proofs.change_sets.ChangeSet.between.Goals as goal

pub returns : goal.returns
returns c =
    let base = c.args.base.now in
    let one = c.note_all.new.self in
    all_noted base c.args.current.now one c.note_all-2.new.self
    (subst (λ (s : Changes). AreNoted base c.args.current.now base s one) c.new-set.ensures c.in_ok-note_all.ensures.ok) c.in_ok-note_all-2.ensures.ok
