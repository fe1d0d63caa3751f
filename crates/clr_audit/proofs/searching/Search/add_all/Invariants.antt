use Rattle.std.proofs.Common.{◌≡◌, map, take, Contains}
use Rattle.clr_rows.specs.Held.{held_of}
use Rattle.clr_audit.specs.Searches.{GainsBroken}
use Rattle.clr_audit.proofs.searching.Search.add_all.Given as goal

-- the broken needs of the rows so far were added
abbrev pub invariant-loop-first : goal.invariant-loop-first
invariant-loop-first l = GainsBroken l.self.book.now (map held_of l.self.rows.now) (λ b h. (b.rule ≡ l.self.rule)
    × Contains (map held_of (take l.first-index l.self.rows.now)) h.first) l.fn.list.items l.list.items
