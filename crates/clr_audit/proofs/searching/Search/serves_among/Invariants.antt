use Rattle.std.proofs.Common.{◌≡◌, false, map, take}
use Rattle.std.specs.List.{list_any}
use Rattle.std.specs.Option.{option_map}
use Rattle.clr_rows.specs.Held.{held_of}
use Rattle.clr_audit.specs.Searches.{serves_at}
use Rattle.clr_audit.proofs.searching.Search.serves_among.Given as goal

-- none of the filed parts so far serves
abbrev pub invariant-loop-filed : goal.invariant-loop-filed
invariant-loop-filed l = list_any (serves_at l.self.book.now l.ask (map held_of l.self.rows.now) (held_of l.first) (option_map held_of l.second))
    (take l.filed-index l.filed_parts) ≡ false
