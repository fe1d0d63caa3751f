use Rattle.std.proofs.Common.{◌≡◌, take}
use Rattle.clr_needs.specs.Parts.{sets_at}
use Rattle.clr_row_versions.proofs.Searches.{sets_of}
use Rattle.clr_row_versions.proofs.set_parts.sets_at.Given as goal

-- the sets of the positions so far
abbrev pub invariant-loop-position : goal.invariant-loop-position
invariant-loop-position l = sets_of l.list.items ≡ sets_at (sets_of l.sets) (take l.position-index l.positions)
