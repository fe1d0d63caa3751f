use Rattle.std.proofs.Common.{◌≡◌, ◌++◌, take}
use Rattle.std.specs.List.{flat_map}
use Rattle.clr_rows.specs.Held.{held_of}
use Rattle.clr_audit.specs.Searches.{server_if}
use Rattle.clr_audit.proofs.searching.Search.add_servers.Given as goal

-- the servers among the filed parts so far were added
abbrev pub invariant-loop-filed : goal.invariant-loop-filed
invariant-loop-filed l = l.list.items ≡ l.fn.list.items ++ flat_map (server_if l.self l.part (held_of l.first)) (take l.filed-index l.filed_parts)
