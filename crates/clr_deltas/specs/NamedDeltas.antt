-- The deltas of what an indexed map has by names, and of stored parts.
use Rattle.std.specs.Prelude.{List, map, String, string_bytes}
use Rattle.std.specs.declared.alloc.Global.{Global}
use Rattle.clr_deltas.specs.Deltas.{Delta}
use Rattle.clr_workspaces.specs.Marks.{Name}
use Rattle.clr_deltas.specs.declared.stored_parts.StoredPart.{StoredPart}
use Rattle.clr_deltas.specs.declared.workspace_maps.Delta.{Delta as Parts}

-- a delta under a name
abbrev pub delta_under : Name → Parts → Delta
delta_under name l = record { name = name; parent = l.parent; base = l.base; current = l.current; marks = l.marks.items; kept = l.kept }

abbrev pub delta_of : String Global × Parts → Delta
delta_of e = delta_under (string_bytes e.0) e.1

abbrev pub deltas_of : List (String Global × Parts) → List Delta
deltas_of named = map delta_of named

-- the delta of a part
abbrev pub stored_delta : StoredPart → Delta
stored_delta part = delta_under part.name part.delta
