use Rattle.std.proofs.Common.{◌≡◌}
use Rattle.clr_layer_changes.specs.Keys.{ArePassed, is_free, least_free}
use Rattle.clr_layer_changes.proofs.KeyLemmas.{first_within, keys_end}
use Rattle.clr_layer_changes.proofs.keys.least_free.Given as goal

-- the least free key is among those that are left, and none of the others is free
abbrev pub invariant-loop-key : goal.invariant-loop-key
invariant-loop-key l = record {
  left : first_within (is_free l.live l.rows l.table) keys_end l.key ≡ least_free l.live l.rows l.table l.first;
  passed : ArePassed (is_free l.live l.rows l.table) l.first l.key;
}
