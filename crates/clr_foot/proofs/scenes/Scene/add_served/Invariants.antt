use Rattle.std.proofs.Common.{take}
use Rattle.clr_row_versions.specs.Gains.{Gains}
use Rattle.clr_foot.specs.Touches.{IsNeedServedAmong}
use Rattle.clr_foot.proofs.scenes.Scene.add_served.Given as goal

-- the needs of the versions so far were added
abbrev pub invariant-loop-first : goal.invariant-loop-first
invariant-loop-first g l =
    Gains (IsNeedServedAmong l.self.book.now l.rule l.server l.near l.near) (IsNeedServedAmong l.self.book.now l.rule l.server (take l.first-index l.near)
    l.near) l.fn.needs.items l.needs.items
