use Rattle.std.proofs.Common.{IfSome}
use Rattle.clr_viewports.specs.Areas.{CoversNone}
use Rattle.clr_drawing.proofs.labels.cheapest_place.Given as goal

-- what was found so far covers nothing that is taken
abbrev pub invariant-loop-place : goal.invariant-loop-place
invariant-loop-place l = IfSome l.best (λ placed. CoversNone l.fn.taken placed.area)
