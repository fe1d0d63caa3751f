use Rattle.std.proofs.Common.{◌≡◌, ◌++◌, take}
use Rattle.std.specs.List.{flat_map}
use Rattle.clr_rows.specs.Held.{held_of}
use Rattle.clr_audit.specs.Searches.{need_beside}
use Rattle.clr_audit.proofs.searching.Search.add_beside_all.Given as goal

-- the needs with the filed parts so far were added
abbrev pub invariant-loop-filed : goal.invariant-loop-filed
invariant-loop-filed l = l.list.items ≡ l.fn.list.items ++ flat_map (need_beside l.self l.servers (held_of l.first) l.part) (take l.filed-index l.filed_parts)
