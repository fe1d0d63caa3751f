use Rattle.std.proofs.Common.{ℕ, ◌<◌, ◌+◌, map}
use Rattle.clr_rows.specs.Held.{held_of}
use Rattle.clr_audit.specs.Searches.{GainsBroken, IsOfPart}
use Rattle.clr_audit.proofs.searching.Search.add_pairs.Given as goal

-- the broken needs of the parts so far were added
abbrev pub invariant-loop-part : goal.invariant-loop-part
invariant-loop-part l = GainsBroken l.self.book.now (map held_of l.self.rows.now) (λ b h. (k : ℕ) × (k < l.part)
    × IsOfPart l.self.rule (held_of l.first) (k + 1) b h)
    l.fn.list.items l.list.items
