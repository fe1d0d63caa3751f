use Rattle.std.proofs.Common.{take}
use Rattle.clr_viewports.specs.Areas.{CoversNone}
use Rattle.clr_drawing.proofs.labels.covers_none.Given as goal

-- none of those so far is covered
abbrev pub invariant-loop-other : goal.invariant-loop-other
invariant-loop-other l = CoversNone (take l.other-index l.taken) l.area
