use Rattle.std.proofs.Common.{◌≡◌, ◌++◌, drop, length, map}
use Rattle.std.specs.List.{zip}
use Rattle.std.specs.Vec.Iter.{into_iter_items, into_iter_len}
use Rattle.clr_desk_faults.specs.GivenLayers.{pair_of}
use Rattle.clr_desk_faults.proofs.given_layers.with_texts.Given as goal

-- the layers so far, with the tables and the texts that are left, are all of them
abbrev pub invariant-loop-table : goal.invariant-loop-table
invariant-loop-table l = (map pair_of l.layers.items ++ zip (drop l.table-index l.tables) (map (λ text. text.items) (into_iter_items l.texts))
    ≡ zip l.tables (map (λ text. text.items) l.fn.texts.items))
    × (into_iter_len l.texts ≡ length (into_iter_items l.texts))
