use Rattle.std.proofs.Common.{[]}
use Rattle.clr_row_versions.specs.Gains.{Reaches}
use Rattle.clr_new_pairs.specs.NewPairs.{Passes}
use Rattle.clr_needs.specs.Needs.{IsTouched}
use Rattle.clr_foot.specs.Scenes.{setting_in}
use Rattle.clr_row_versions.proofs.Searches.{sets_of}
use Rattle.clr_foot.proofs.TouchSteps.{IsTouchedBelow}
use Rattle.clr_foot.proofs.scenes.Scene.list_touched.Given as goal

-- the needs of the rules so far were added
abbrev pub invariant-loop-rule : goal.invariant-loop-rule
invariant-loop-rule g l =
    Reaches (Passes l.self.book.now l.leaves_out) (IsTouched (setting_in g.V.RowView.content l.self))
    (IsTouchedBelow l.self.book.now (g.V.RowView.content l.self.root.now)
    (sets_of l.self.members.sets.items) l.rule) [] l.needs.items
