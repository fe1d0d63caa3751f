use Rattle.std.proofs.Common.{Contains, map, take}
use Rattle.clr_foot.specs.Scenes.{model_of, setting_of}
use Rattle.clr_clashes.specs.ListedClashes.{listed_clash_of}
use Rattle.clr_clashes.proofs.BrokenLists.{AreBrokenOf}
use Rattle.clr_clashes.proofs.breaking.broken_needs.Given as goal

-- the broken ones of the needs so far are listed
abbrev pub invariant-loop-need : goal.invariant-loop-need
invariant-loop-need g l = AreBrokenOf (setting_of (model_of g.V.RowView.content l.scene)) (λ n. Contains (take l.need-index l.need-items) n)
    (map listed_clash_of l.list.items)
