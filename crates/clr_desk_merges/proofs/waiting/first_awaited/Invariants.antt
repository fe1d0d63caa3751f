use Rattle.std.proofs.Common.{◌≡◌, None, map, take}
use Rattle.std.specs.Prelude.{find}
use Rattle.clr_merge_sets.specs.Certificates.{ordered_merge_set_of}
use Rattle.clr_desk_merges.specs.Waiting.{is_awaited}
use Rattle.clr_desk_merges.proofs.waiting.first_awaited.Given as goal

-- the name waits for none of the members so far
abbrev pub invariant-loop-member : goal.invariant-loop-member
invariant-loop-member l =
    find (is_awaited (ordered_merge_set_of l.certificate) (map (λ other. other.now) l.done) l.name) (take l.member-index l.member-items) ≡ None
