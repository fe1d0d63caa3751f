use Rattle.std.proofs.Common.{take, Contains}
use Rattle.clr_needs.specs.declared.needs.Need.{Need}
use Rattle.clr_needs.specs.Broken.{IsServedAfterMerge}
use Rattle.clr_foot.specs.Scenes.{setting_in}
use Rattle.clr_foot.proofs.scenes.Scene.first_broken.Given as goal

-- the needs so far are kept
abbrev pub invariant-loop-need : goal.invariant-loop-need
invariant-loop-need g l = (n : Need) → Contains (take l.need-index l.need-items) n → IsServedAfterMerge (setting_in g.V.RowView.content l.self) n
