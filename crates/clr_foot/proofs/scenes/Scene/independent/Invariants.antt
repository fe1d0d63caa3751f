use Rattle.std.proofs.Common.{take, Contains}
use Rattle.clr_needs.specs.declared.needs.Need.{Need}
use Rattle.clr_foot.specs.Involvement.{IsInvolving}
use Rattle.clr_foot.specs.Scenes.{setting_in}
use Rattle.clr_foot.proofs.scenes.Scene.independent.Given as goal

-- none of the needs so far involves the second member
abbrev pub invariant-loop-need : goal.invariant-loop-need
invariant-loop-need g l = (n : Need) → Contains (take l.need-index l.need-items) n → ¬ (IsInvolving (setting_in g.V.RowView.content l.self) l.second n)
